-- Words value by value, and the closest of them.
use Rattle.std.proofs.Common.{◌≡◌, ℕ, zero, suc, ◌+◌, ◌-◌, ◌<◌, ◌≤◌, ◌⊎◌, inl, inr, Bool, true, false, List, [], ◌∷◌, ◌++◌, length, take, get_or, add-one, Option, Some, None, refl, ap, sym, ◌∙◌, subst, arith}
use Rattle.std.proofs.Math.Seq.{take-suc}
use Rattle.std.proofs.lemmas.List.{take_all}
use Rattle.std.proofs.lemmas.Option.{unwrap_or-slice_get}
use Rattle.formulas.specs.Words.{IsBefore, truth_at}
use Rattle.distance_search.specs.Setting.{Setting}
use Rattle.distance_search.specs.Results.{IsWith}
use Rattle.distance_search.proofs.Places.{take_less}
use Rattle.closest_listing.specs.Listed.{IsNextListed, IsLowestTo, IsFirstFrom, NoneAbove}

abbrev Begins : List Bool → List Bool → Type 0
Begins prefix v = take (length prefix) v ≡ prefix

-- what it means to begin with the first values of another and a value
begins_says : (k : ℕ) (v u : List Bool) (b : Bool) → k < length v → Begins (take k v ++ b ∷ []) u → (take k u ≡ take k v) × (get_or u k false ≡ b) × (k < length u)
begins_says k [] u b h e = absurd (omega arith)
begins_says zero (x ∷ v) [] b h e = absurd (cc)
begins_says zero (x ∷ v) (y ∷ u) b h e = (refl, cc, omega arith)
begins_says (suc k) (x ∷ v) [] b h e = absurd (cc)
begins_says (suc k) (x ∷ v) (y ∷ u) b h e =
    let same : y ≡ x = cc in
    let r = begins_says k v u b (omega arith) (cc) in
    ((let a = r.0 in cc), r.1, omega (arith, r.2))

begins_holds : (k : ℕ) (v u : List Bool) (b : Bool) → k < length v → k < length u → take k u ≡ take k v → get_or u k false ≡ b → Begins (take k v ++ b ∷ []) u
begins_holds k [] u b h i e f = absurd (omega arith)
begins_holds k (x ∷ v) [] b h i e f = absurd (omega arith)
begins_holds zero (x ∷ v) (y ∷ u) b h i e f = ap (λ t. t ∷ []) f
begins_holds (suc k) (x ∷ v) (y ∷ u) b h i e f =
    let same : y ≡ x = cc in
    let rest : take k u ≡ take k v = cc in
    let r = begins_holds k v u b (omega arith) (omega arith) rest f in
    cc

same_bit : (k : ℕ) (u v : List Bool) → k < length u → k < length v → take k u ≡ take k v → get_or u k false ≡ get_or v k false → take (suc k) u ≡ take (suc k) v
same_bit k [] v h i e f = absurd (omega arith)
same_bit k (x ∷ u) [] h i e f = absurd (omega arith)
same_bit zero (x ∷ u) (y ∷ v) h i e f = ap (λ t. t ∷ []) f
same_bit (suc k) (x ∷ u) (y ∷ v) h i e f =
    let same : x ≡ y = cc in
    let rest : take k u ≡ take k v = cc in
    let r = same_bit k u v (omega arith) (omega arith) rest f in
    cc

before_same : (x y : Bool) (v u : List Bool) → x ≡ y → IsBefore v u → IsBefore (x ∷ v) (y ∷ u)
before_same true true v u e h = h
before_same true false v u e h = absurd (cc)
before_same false true v u e h = absurd (cc)
before_same false false v u e h = h

before_rest : (x y : Bool) (v u : List Bool) → x ≡ y → IsBefore (x ∷ v) (y ∷ u) → IsBefore v u
before_rest true true v u e h = h
before_rest true false v u e h = absurd (cc)
before_rest false true v u e h = absurd (cc)
before_rest false false v u e h = h

before_first : (x y : Bool) (v u : List Bool) → x ≡ false → y ≡ true → IsBefore (x ∷ v) (y ∷ u)
before_first false true v u e f = tt
before_first false false v u e f = absurd (cc)
before_first true y v u e f = absurd (cc)

not_first : (x y : Bool) (v u : List Bool) → x ≡ true → y ≡ false → IsBefore (x ∷ v) (y ∷ u) → ⊥
not_first true false v u e f h = h
not_first true true v u e f h = cc
not_first false y v u e f h = cc

before_bit : (k : ℕ) (v u : List Bool) → k < length v → k < length u → take k u ≡ take k v → get_or v k false ≡ false → get_or u k false ≡ true → IsBefore (take (suc k) v) (take (suc k) u)
before_bit k [] u h i e f g = absurd (omega arith)
before_bit k (x ∷ v) [] h i e f g = absurd (omega arith)
before_bit zero (x ∷ v) (y ∷ u) h i e f g = before_first x y [] [] f g
before_bit (suc k) (x ∷ v) (y ∷ u) h i e f g =
    let same : x ≡ y = cc in
    let rest : take k u ≡ take k v = cc in
    before_same x y (take (suc k) v) (take (suc k) u) same (before_bit k v u (omega arith) (omega arith) rest f g)

not_before_bit : (k : ℕ) (v u : List Bool) → k < length v → k < length u → take k u ≡ take k v → get_or v k false ≡ true → get_or u k false ≡ false → IsBefore v u → ⊥
not_before_bit k [] u h i e f g b = b
not_before_bit k (x ∷ v) [] h i e f g b = b
not_before_bit zero (x ∷ v) (y ∷ u) h i e f g b = not_first x y v u f g b
not_before_bit (suc k) (x ∷ v) (y ∷ u) h i e f g b =
    let same : x ≡ y = cc in
    let rest : take k u ≡ take k v = cc in
    not_before_bit k v u (omega arith) (omega arith) rest f g (before_rest x y v u same b)

-- what the first values say holds of the words
before_whole : (k : ℕ) (v u : List Bool) → IsBefore (take k v) (take k u) → IsBefore v u
before_whole zero v u h = absurd h
before_whole (suc k) [] u h = absurd h
before_whole (suc k) (x ∷ v) [] h = absurd h
before_whole (suc k) (true ∷ v) (true ∷ u) h = before_whole k v u h
before_whole (suc k) (true ∷ v) (false ∷ u) h = h
before_whole (suc k) (false ∷ v) (true ∷ u) h = tt
before_whole (suc k) (false ∷ v) (false ∷ u) h = before_whole k v u h

before_more : (k : ℕ) (v u : List Bool) → IsBefore (take k v) (take k u) → IsBefore (take (suc k) v) (take (suc k) u)
before_more zero v u h = absurd h
before_more (suc k) [] u h = absurd h
before_more (suc k) (x ∷ v) [] h = absurd h
before_more (suc k) (true ∷ v) (true ∷ u) h = before_more k v u h
before_more (suc k) (true ∷ v) (false ∷ u) h = h
before_more (suc k) (false ∷ v) (true ∷ u) h = tt
before_more (suc k) (false ∷ v) (false ∷ u) h = before_more k v u h

-- a word before another is before it in the first values, or they have these
where_before : (k : ℕ) (v u : List Bool) → IsBefore v u → IsBefore (take k v) (take k u) ⊎ (take k u ≡ take k v)
where_before zero v u h = inr refl
where_before (suc k) [] u h = absurd h
where_before (suc k) (x ∷ v) [] h = absurd h
where_before (suc k) (true ∷ v) (true ∷ u) h = elim (where_before k v u h) [ inl p ↦ inl p | inr e ↦ inr (ap (λ t. true ∷ t) e) ]
where_before (suc k) (true ∷ v) (false ∷ u) h = absurd h
where_before (suc k) (false ∷ v) (true ∷ u) h = inl tt
where_before (suc k) (false ∷ v) (false ∷ u) h = elim (where_before k v u h) [ inl p ↦ inl p | inr e ↦ inr (ap (λ t. false ∷ t) e) ]

not_itself : (v : List Bool) → IsBefore v v → ⊥
not_itself [] h = h
not_itself (true ∷ v) h = not_itself v h
not_itself (false ∷ v) h = not_itself v h

a_bit : (b : Bool) → (b ≡ true) ⊎ (b ≡ false)
a_bit true = inl refl
a_bit false = inr refl

-- ---- the loop that makes a valuation lowest

pub false_kept : (s : Setting) (depth atom : ℕ) (found v : List Bool) → atom < s.profile.atoms → get_or v atom false ≡ false → IsLowestTo s depth atom found v → IsLowestTo s depth (atom + 1) found v
false_kept s depth atom found v lt off h = record {
  closest = h.closest;
  same = h.same;
  first = λ u k e. rw (add-one atom) (
      let lv : atom < length v = omega (arith, h.closest.model.size) in
      let lu : atom < length u = omega (arith, k.model.size) in
      elim (h.first u k e) [
        | inl same ↦ (elim (a_bit (get_or u atom false)) [
          | inl on ↦ inr (before_bit atom v u lv lu same off on)
          | inr low ↦ inl (same_bit atom u v lu lv same (low ∙ sym off))
        ])
        | inr b ↦ inr (before_more atom v u b)
      ]);
}

pub true_kept : (s : Setting) (depth atom : ℕ) (found v : List Bool) → atom < s.profile.atoms → get_or v atom false ≡ true → IsLowestTo s depth atom found v → IsWith s (take atom v ++ false ∷ []) None → IsLowestTo s depth (atom + 1) found v
true_kept s depth atom found v lt on h none = record {
  closest = h.closest;
  same = h.same;
  first = λ u k e. rw (add-one atom) (
      let lv : atom < length v = omega (arith, h.closest.model.size) in
      let lu : atom < length u = omega (arith, k.model.size) in
      elim (h.first u k e) [
        | inl same ↦ (elim (a_bit (get_or u atom false)) [
          | inl up ↦ inl (same_bit atom u v lu lv same (up ∙ sym on))
          | inr low ↦ absurd (none u k (begins_holds atom v u false lv lu same low))
        ])
        | inr b ↦ inr (before_more atom v u b)
      ]);
}

pub lower_found : (s : Setting) (depth atom : ℕ) (found v lower : List Bool) → atom < s.profile.atoms → depth ≤ atom → IsLowestTo s depth atom found v → IsWith s (take atom v ++ false ∷ []) (Some lower) → IsLowestTo s depth (atom + 1) found lower
lower_found s depth atom found v lower lt le h there =
    let b = begins_says atom v lower false (omega (arith, h.closest.model.size)) there.1 in
    false_kept s depth atom found lower lt b.1 (record {
      closest = there.0;
      same = take_less depth atom lower v le b.0 ∙ h.same;
      first = λ u k e. subst (λ (t : List Bool). (take atom u ≡ t) ⊎ IsBefore t (take atom u)) (sym b.0) (h.first u k e);
    })

pub lowest_end : (s : Setting) (depth : ℕ) (found v : List Bool) → IsLowestTo s depth s.profile.atoms found v → IsFirstFrom s depth found v
lowest_end s depth found v h = record {
  closest = h.closest;
  same = h.same;
  first = λ u k e.
      let ev = take_all s.profile.atoms v (omega (arith, h.closest.model.size)) in
      let eu = take_all s.profile.atoms u (omega (arith, k.model.size)) in
      elim (h.first u k e) [ inl same ↦ inl (sym eu ∙ same ∙ ev) | inr b ↦ inr (before_whole s.profile.atoms v u b) ];
}

-- ---- the loop that goes back from the last one

pub none_at_end : (s : Setting) (last : List Bool) → length last ≡ s.profile.atoms → NoneAbove s s.profile.atoms last
none_at_end s last e = λ u k same b.
    let eu = take_all s.profile.atoms u (omega (arith, k.model.size)) in
    let el = take_all s.profile.atoms last (omega arith) in
    not_itself last (subst (λ (t : List Bool). IsBefore last t) (sym eu ∙ same ∙ el) b)

pub none_at_true : (s : Setting) (k : ℕ) (last : List Bool) → length last ≡ s.profile.atoms → k < s.profile.atoms → get_or last k false ≡ true → NoneAbove s (k + 1) last → NoneAbove s k last
none_at_true s k last e lt on h = λ u c same b.
    let ll : k < length last = omega arith in
    let lu : k < length u = omega (arith, c.model.size) in
    elim (a_bit (get_or u k false)) [
      | inl up ↦ h u c (rw (add-one k) (same_bit k u last lu ll same (up ∙ sym on))) b
      | inr low ↦ not_before_bit k last u ll lu same on low b
    ]

pub none_at_false : (s : Setting) (k : ℕ) (last : List Bool) → length last ≡ s.profile.atoms → k < s.profile.atoms → get_or last k false ≡ false → IsWith s (take k last ++ true ∷ []) None → NoneAbove s (k + 1) last → NoneAbove s k last
none_at_false s k last e lt off none h = λ u c same b.
    let ll : k < length last = omega arith in
    let lu : k < length u = omega (arith, c.model.size) in
    elim (a_bit (get_or u k false)) [
      | inl up ↦ none u c (begins_holds k last u true ll lu same up)
      | inr low ↦ h u c (rw (add-one k) (same_bit k u last lu ll same (low ∙ sym off))) b
    ]

pub none_above : (s : Setting) (last : List Bool) → NoneAbove s 0 last → IsNextListed s (Some last) None
none_above s last h = λ u c b. h u c refl b

pub found_above : (s : Setting) (k : ℕ) (last found v : List Bool) → length last ≡ s.profile.atoms → k < s.profile.atoms → get_or last k false ≡ false → IsWith s (take k last ++ true ∷ []) (Some found) → NoneAbove s (k + 1) last → IsFirstFrom s (k + 1) found v → IsNextListed s (Some last) (Some v)
found_above s k last found v e lt off there h f =
    let ll : k < length last = omega arith in
    let fs = begins_says k last found true ll there.1 in
    let same_v : take (suc k) v ≡ take (suc k) found = rw (← add-one k) f.same in
    let kv : take k v ≡ take k last = take_less k (suc k) v found (omega arith) same_v ∙ fs.0 in
    let lv : k < length v = omega (arith, f.closest.model.size) in
    let bit : get_or v k false ≡ true = bit_of k v found lv fs.2 same_v ∙ fs.1 in (
      f.closest,
      before_whole (suc k) last v (before_bit k last v ll lv kv off bit),
      λ u c b.
          let lu : k < length u = omega (arith, c.model.size) in
          elim (where_before k last u b) [
            | inl p ↦ inr (before_whole k v u (subst (λ (t : List Bool). IsBefore t (take k u)) (sym kv) p))
            | inr same ↦ (elim (a_bit (get_or u k false)) [
              | inl up ↦ f.first u c (rw (add-one k) (same_bit k u found lu fs.2 (same ∙ sym fs.0) (up ∙ sym fs.1)))
              | inr low ↦ absurd (h u c (rw (add-one k) (same_bit k u last lu ll same (low ∙ sym off))) b)
            ])
          ],
    )
  where
    bit_of : (k : ℕ) (v u : List Bool) → k < length v → k < length u → take (suc k) v ≡ take (suc k) u → get_or v k false ≡ get_or u k false
    bit_of k [] u h i e = absurd (omega arith)
    bit_of k (x ∷ v) [] h i e = absurd (omega arith)
    bit_of zero (x ∷ v) (y ∷ u) h i e = cc
    bit_of (suc k) (x ∷ v) (y ∷ u) h i e = bit_of k v u (omega arith) (omega arith) (let rest : take (suc k) v ≡ take (suc k) u = cc in rest)

pub take_next : (v : List Bool) (k : ℕ) → k < length v → take (k + 1) v ≡ take k v ++ truth_at v k ∷ []
take_next v k h = rw (add-one k, unwrap_or-slice_get v k false) (take-suc v k false h)

pub bit_there : (v : List Bool) (k : ℕ) (b : Bool) → b ≡ truth_at v k → get_or v k false ≡ b
bit_there v k b e = sym (unwrap_or-slice_get v k false) ∙ sym e

-- what an option that is read says
pub with_is : (s : Setting) (prefix : List Bool) (o r : Option (List Bool)) → o ≡ r → IsWith s prefix o → IsWith s prefix r
with_is s prefix o r e h = subst (λ (x : Option (List Bool)). IsWith s prefix x) e h

-- the same with the loop's own numbers
pub none_by_true : (s : Setting) (m : ℕ) (last : List Bool) → length last ≡ s.profile.atoms → 0 < m → m ≤ s.profile.atoms → true ≡ truth_at last (m - 1) → NoneAbove s m last → NoneAbove s (m - 1) last
none_by_true s m last e lo hi b h =
    none_at_true s (m - 1) last e (omega arith) (bit_there last (m - 1) true b) (subst (λ (k : ℕ). NoneAbove s k last) (let e1 : m ≡ m - 1 + 1 = omega arith in e1) h)

pub none_by_false : (s : Setting) (m : ℕ) (last : List Bool) → length last ≡ s.profile.atoms → 0 < m → m ≤ s.profile.atoms → false ≡ truth_at last (m - 1) → IsWith s (take (m - 1) last ++ true ∷ []) None → NoneAbove s m last → NoneAbove s (m - 1) last
none_by_false s m last e lo hi b none h =
    none_at_false s (m - 1) last e (omega arith) (bit_there last (m - 1) false b) none (subst (λ (k : ℕ). NoneAbove s k last) (let e1 : m ≡ m - 1 + 1 = omega arith in e1) h)

pub found_by : (s : Setting) (m : ℕ) (last found v : List Bool) → length last ≡ s.profile.atoms → 0 < m → m ≤ s.profile.atoms → false ≡ truth_at last (m - 1) → IsWith s (take (m - 1) last ++ true ∷ []) (Some found) → NoneAbove s m last → IsFirstFrom s (m - 1 + 1) found v → IsNextListed s (Some last) (Some v)
found_by s m last found v e lo hi b there h f =
    found_above s (m - 1) last found v e (omega arith) (bit_there last (m - 1) false b) there (subst (λ (k : ℕ). NoneAbove s k last) (let e1 : m ≡ m - 1 + 1 = omega arith in e1) h) f

pub pushed : (new old : List Bool) (b : Bool) (v : List Bool) (k : ℕ) → new ≡ old ++ b ∷ [] → old ≡ take k v → b ≡ truth_at v k → take (k + 1) v ≡ take k v ++ truth_at v k ∷ [] → new ≡ take (k + 1) v
pushed new old b v k a c d e = a ∙ ap (λ t. t ++ b ∷ []) c ∙ ap (λ t. take k v ++ t ∷ []) d ∙ sym e

pub none_at_start : (s : Setting) (atoms : ℕ) (last : List Bool) → atoms ≡ s.profile.atoms → length last ≡ atoms → NoneAbove s atoms last
none_at_start s atoms last e h = subst (λ (k : ℕ). NoneAbove s k last) (sym e) (none_at_end s last (h ∙ e))
