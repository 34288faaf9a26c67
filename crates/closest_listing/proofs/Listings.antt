-- Closest valuations, each the next above the one before it, are the first of all.
use Rattle.std.proofs.Common.{◌≡◌, ℕ, zero, suc, ◌≤◌, ◌⊎◌, inl, inr, Bool, true, false, List, [], ◌∷◌, ◌++◌, length, map, take, Option, None, Some, refl, ap, sym, ◌∙◌, subst, arith}
use Rattle.std.specs.Cmp.Lexicographic.{slice_cmp}
use Rattle.std.specs.Ordering.{is_gt, nat_cmp}
use Rattle.std.proofs.lemmas.Cmp.{upto, nat_list_cmp_total}
use Rattle.formulas.specs.Formulas.{holds}
use Rattle.formulas.specs.Words.{IsBefore, all_words}
use Rattle.merge_model.specs.Merging.{IsAbove, IsListed, Keeps, full_of}
use Rattle.merge_model.proofs.Among.{Among, among_words, words_size, either_part, from_map}
use Rattle.distance_search.specs.Setting.{Setting}
use Rattle.closest_listing.specs.Listed.{IsClosestIn, IsNextListed, AreListed, last_of, ListedLaw}

-- Words in their order.

before_after : (v w : List Bool) → IsBefore v w → IsBefore w v → ⊥
before_after [] w h k = absurd h
before_after (a ∷ v) [] h k = absurd h
before_after (false ∷ v) (true ∷ w) h k = absurd k
before_after (true ∷ v) (false ∷ w) h k = absurd h
before_after (false ∷ v) (false ∷ w) h k = before_after v w h k
before_after (true ∷ v) (true ∷ w) h k = before_after v w h k

before_chain : (u v w : List Bool) → IsBefore u v → IsBefore v w → IsBefore u w
before_chain [] v w h k = absurd h
before_chain (a ∷ u) [] w h k = absurd h
before_chain (a ∷ u) (b ∷ v) [] h k = absurd k
before_chain (false ∷ u) (false ∷ v) (false ∷ w) h k = before_chain u v w h k
before_chain (true ∷ u) (true ∷ v) (true ∷ w) h k = before_chain u v w h k
before_chain (false ∷ u) (false ∷ v) (true ∷ w) h k = tt
before_chain (false ∷ u) (true ∷ v) (true ∷ w) h k = tt
before_chain (false ∷ u) (true ∷ v) (false ∷ w) h k = absurd k
before_chain (true ∷ u) (false ∷ v) w h k = absurd h
before_chain (true ∷ u) (true ∷ v) (false ∷ w) h k = absurd k

decide_before : (v w : List Bool) → IsBefore v w ⊎ (IsBefore v w → ⊥)
decide_before [] w = inr (λ h. h)
decide_before (a ∷ v) [] = inr (λ h. h)
decide_before (false ∷ v) (true ∷ w) = inl tt
decide_before (true ∷ v) (false ∷ w) = inr (λ h. h)
decide_before (false ∷ v) (false ∷ w) = decide_before v w
decide_before (true ∷ v) (true ∷ w) = decide_before v w

decide_above : (after : Option (List Bool)) (v : List Bool) → IsAbove after v ⊎ (IsAbove after v → ⊥)
decide_above None v = inl tt
decide_above (Some a) v = decide_before a v

above_chain : (after : Option (List Bool)) (v u : List Bool) → IsAbove after v → IsBefore v u → IsAbove after u
above_chain None v u h k = tt
above_chain (Some a) v u h k = before_chain a v u h k

-- each before all that follow
abbrev Rises : List (List Bool) → Type 0
Rises [] = Unit {0}
Rises (x ∷ xs) = ((u : List Bool) → Among u xs → IsBefore x u) × Rises xs

rises_map : (b : Bool) (xs : List (List Bool)) → Rises xs → Rises (map (λ v. b ∷ v) xs)
rises_map b [] h = tt
rises_map true (x ∷ xs) h = ((λ u m. let r = from_map (λ v. true ∷ v) u xs m in subst (λ w. IsBefore (true ∷ x) w) r.2 (h.0 r.0 r.1)), rises_map true xs h.1)
rises_map false (x ∷ xs) h = ((λ u m. let r = from_map (λ v. false ∷ v) u xs m in subst (λ w. IsBefore (false ∷ x) w) r.2 (h.0 r.0 r.1)), rises_map false xs h.1)

rises_joined : (xs ys : List (List Bool)) → Rises xs → Rises ys → ((u w : List Bool) → Among u xs → Among w ys → IsBefore u w) → Rises (xs ++ ys)
rises_joined [] ys h k across = k
rises_joined (x ∷ xs) ys h k across =
    ((λ u m. elim (either_part u xs ys m) [ inl a ↦ h.0 u a | inr b ↦ across x u (inl refl) b ]), rises_joined xs ys h.1 k (λ u w m n. across u w (inr m) n))

words_rise : (n : ℕ) → Rises (all_words n)
words_rise zero = ((λ u m. absurd m), tt)
words_rise (suc n) =
    rises_joined (map (λ v. false ∷ v) (all_words n)) (map (λ v. true ∷ v) (all_words n)) (rises_map false (all_words n) (words_rise n)) (rises_map true (all_words n) (words_rise n))
    (λ u w m k.
    let a = from_map (λ v. false ∷ v) u (all_words n) m in
    let b = from_map (λ v. true ∷ v) w (all_words n) k in
    subst (λ x. IsBefore x w) a.2 (subst (λ y. IsBefore (false ∷ a.0) y) b.2 tt))

-- What is kept of a list.

keeps_some : {X : Type 0} (P : X → Type 0) (xs : List X) → ((x : X) → Among x xs → P x ⊎ (P x → ⊥)) → (kept : List X) × Keeps P xs kept
keeps_some P [] d = ([], refl)
keeps_some P (x ∷ xs) d =
    let r = keeps_some P xs (λ y m. d y (inr m)) in
    elim (d x (inl refl)) [ inl yes_it ↦ (x ∷ r.0, inl (yes_it, r.0, refl, r.1)) | inr no_it ↦ (r.0, inr (no_it, r.1)) ]

keeps_none : {X : Type 0} (P : X → Type 0) (xs : List X) → ((x : X) → Among x xs → P x → ⊥) → Keeps P xs []
keeps_none P [] h = refl
keeps_none P (x ∷ xs) h = inr (h x (inl refl), keeps_none P xs (λ y m. h y (inr m)))

keeps_same : {X : Type 0} (P Q : X → Type 0) (xs kept : List X) → ((x : X) → Among x xs → P x → Q x) → ((x : X) → Among x xs → Q x → P x) → Keeps Q xs kept → Keeps P xs kept
keeps_same P Q [] kept to back h = h
keeps_same P Q (x ∷ xs) kept to back (inl h) =
    inl (back x (inl refl) h.0, h.1, h.2, keeps_same P Q xs h.1 (λ y m. to y (inr m)) (λ y m. back y (inr m)) h.3)
keeps_same P Q (x ∷ xs) kept to back (inr h) =
    inr ((λ q. h.0 (to x (inl refl) q)), keeps_same P Q xs kept (λ y m. to y (inr m)) (λ y m. back y (inr m)) h.1)

-- the least of a rising list comes first, and then what is kept of those after it
keeps_least : (P Q : List Bool → Type 0) (xs kept : List (List Bool)) (v : List Bool) → Rises xs → Among v xs → P v →
    ((u : List Bool) → P u → (u ≡ v) ⊎ IsBefore v u) → ((u : List Bool) → IsBefore v u → P u → Q u) → ((u : List Bool) → IsBefore v u → Q u → P u) → ((u : List Bool) → Q u → IsBefore v u) →
    Keeps Q xs kept → Keeps P xs (v ∷ kept)
keeps_least P Q [] kept v rise m pv least to back above h = absurd m
keeps_least P Q (x ∷ xs) kept v rise (inl e) pv least to back above (inl h) =
    absurd (before_after v v (subst (λ w. IsBefore v w) (sym e) (above x h.0)) (subst (λ w. IsBefore v w) (sym e) (above x h.0)))
keeps_least P Q (x ∷ xs) kept v rise (inl e) pv least to back above (inr h) =
    let after : (u : List Bool) → Among u xs → IsBefore v u = λ u k. subst (λ w. IsBefore w u) (sym e) (rise.0 u k) in
    inl (subst P e pv, kept, ap (λ w. w ∷ kept) e, keeps_same P Q xs kept (λ u k. to u (after u k)) (λ u k. back u (after u k)) h.1)
keeps_least P Q (x ∷ xs) kept v rise (inr m) pv least to back above (inl h) = absurd (before_after v x (above x h.0) (rise.0 v m))
keeps_least P Q (x ∷ xs) kept v rise (inr m) pv least to back above (inr h) =
    inr (
      (λ px. elim (least x px) [ inl e ↦ before_after x x (subst (λ w. IsBefore x w) (sym e) (rise.0 v m)) (subst (λ w. IsBefore x w) (sym e) (rise.0 v m)) | inr b ↦ before_after v x b (rise.0 v m) ]),
      keeps_least P Q xs kept v rise.1 m pv least to back above h.1,
    )

none_taken : (j : ℕ) (ws : List (List Bool)) → ws ≡ [] → ws ≡ take j ws
none_taken zero [] e = refl
none_taken zero (w ∷ ws) e = absurd (cc)
none_taken (suc j) [] e = refl
none_taken (suc j) (w ∷ ws) e = absurd (cc)

module _ (s : Setting) (best : List Bool) (known : IsClosestIn s best) where
  among_atoms : (v : List Bool) → length v ≡ s.profile.atoms → Among v (all_words s.profile.atoms)
  among_atoms v size = subst (λ n. Among v (all_words n)) size (among_words v)

  by_order : (u : List Bool) → length u ≡ s.profile.atoms → holds s.profile.constraint u ≡ true → (worse : Bool) → is_gt (slice_cmp nat_cmp (s.rank (full_of s.dist s.profile u)) (s.rank (full_of s.dist s.profile best))) ≡ worse →
      IsClosestIn s u ⊎ (IsClosestIn s u → ⊥)
  by_order u size is true e = inr (λ c. let n = c.best best known.model in let bad : true ≡ false = sym e ∙ n in cc)
  by_order u size is false e =
      inl (record {
        consistent = known.consistent;
        model = record { size = size; true_there = is };
        best = λ w m. upto nat_list_cmp_total (s.rank (full_of s.dist s.profile u)) (s.rank (full_of s.dist s.profile best)) (s.rank (full_of s.dist s.profile w)) e (known.best w m);
      })

  by_truth : (u : List Bool) → length u ≡ s.profile.atoms → (t : Bool) → holds s.profile.constraint u ≡ t → IsClosestIn s u ⊎ (IsClosestIn s u → ⊥)
  by_truth u size true e = by_order u size e (is_gt (slice_cmp nat_cmp (s.rank (full_of s.dist s.profile u)) (s.rank (full_of s.dist s.profile best)))) refl
  by_truth u size false e = inr (λ c. let m = c.model in let bad : true ≡ false = sym m.true_there ∙ e in cc)

  abbrev IsMember : Option (List Bool) → List Bool → Type 0
  IsMember after v = IsClosestIn s v × IsAbove after v

  decide : (after : Option (List Bool)) (u : List Bool) → Among u (all_words s.profile.atoms) → IsMember after u ⊎ (IsMember after u → ⊥)
  decide after u m =
      elim (by_truth u (words_size s.profile.atoms u m) (holds s.profile.constraint u) refl) [
        | inl c ↦ elim (decide_above after u) [ inl a ↦ inl (c, a) | inr n ↦ inr (λ h. n h.1) ]
        | inr n ↦ inr (λ h. n h.0)
      ]

  -- with one more in front
  with_least : (after : Option (List Bool)) (v : List Bool) (kept : List (List Bool)) → IsNextListed s after (Some v) → Keeps (IsMember (Some v)) (all_words s.profile.atoms) kept → Keeps (IsMember after) (all_words s.profile.atoms) (v ∷ kept)
  with_least after v kept h k =
      let c = h.0 in
      let m = c.model in
      keeps_least (IsMember after) (IsMember (Some v)) (all_words s.profile.atoms) kept v (words_rise s.profile.atoms) (among_atoms v m.size) (c, h.1)
      (λ u q. h.2 u q.0 q.1) (λ u b q. (q.0, b)) (λ u b q. (q.0, above_chain after v u h.1 b)) (λ u q. q.1) k

  first : (after : Option (List Bool)) (vs : List (List Bool)) → AreListed s after vs → IsListed s.dist s.rank s.profile after (length vs) vs
  first after [] h = let r = keeps_some (IsMember after) (all_words s.profile.atoms) (decide after) in (r.0, r.1, refl)
  first after (v ∷ vs) h = let r = first (Some v) vs h.1 in (v ∷ r.0, with_least after v r.0 h.0 r.1, ap (λ ws. v ∷ ws) r.2)

  whole : (after : Option (List Bool)) (vs : List (List Bool)) → AreListed s after vs → IsNextListed s (last_of after vs) None → (k : ℕ) → length vs ≤ k → IsListed s.dist s.rank s.profile after k vs
  whole after [] h none k le = ([], keeps_none (IsMember after) (all_words s.profile.atoms) (λ u m q. none u q.0 q.1), none_taken k [] refl)
  whole after (v ∷ vs) h none zero le = absurd (omega arith)
  whole after (v ∷ vs) h none (suc k) le = let r = whole (Some v) vs h.1 none k (omega arith) in (v ∷ r.0, with_least after v r.0 h.0 r.1, ap (λ ws. v ∷ ws) r.2)

pub listed : ListedLaw
listed s best known after vs h = (first s best.shown.model known.closest after vs h, whole s best.shown.model known.closest after vs h)
