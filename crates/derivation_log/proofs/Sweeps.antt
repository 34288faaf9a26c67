-- What the sweep from the last step back marks: exactly the steps that are needed.
use Rattle.std.proofs.Common.{◌≡◌, ℕ, ◌+◌, ◌-◌, ◌<◌, ◌≤◌, Bool, true, false, List, [], ◌∷◌, ◌++◌, inl, inr, length, refl, ap, sym, ◌∙◌, subst, arith, get_or, zero, suc, map, drop, Some, length-append}
use Rattle.std.specs.Prelude.{Contains, slice_get, replicate}
use Rattle.std.proofs.lemmas.Bool.{cases_Bool, cases_lt}
use Rattle.std.proofs.lemmas.List.{get_or-replicate, get_or_past, length-replicate, length-map}
use Rattle.std.proofs.lemmas.Option.{slice_get_within}
use Rattle.clause_store.specs.declared.lit.Lit.{Lit}
use Rattle.clause_store.specs.Lits.{resolvent}
use Rattle.derivation_log.specs.declared.step.Link.{Link}
use Rattle.derivation_log.specs.declared.step.Step.{Step}
use Rattle.derivation_log.specs.declared.derivations.Row.{Row}
use Rattle.derivation_log.specs.Logs.{Log, Comes, Follows, IsSound}
use Rattle.derivation_log.specs.Rows.{steps_of}
use Rattle.derivation_log.specs.Trimming.{numbers_in, IsNeeded, by_name, by_use}
use Rattle.derivation_log.specs.Marking.{mark_all, numbers_of, swept, AreBelow, RowsBelow}
use Rattle.derivation_log.proofs.Marks.{IsMarked, below_at, all_length, all_grows, all_self, all_only}

-- each list names only clauses before its step, the first list being that of step k
abbrev pub NameBefore : ℕ → ℕ → List (List ℕ) → Type 0
NameBefore main k [] = Unit {0}
NameBefore main k (used ∷ rest) = AreBelow (main + k) used × NameBefore main (k + 1) rest

swept_yes : (main k : ℕ) (used : List ℕ) (rest : List (List ℕ)) (marks : List Bool) → IsMarked (swept main (k + 1) rest marks) k → swept main k (used ∷ rest) marks ≡ mark_all main used (swept main (k + 1) rest marks)
swept_yes main k used rest marks t = let e : get_or (swept main (k + 1) rest marks) k false ≡ true = t in rw e refl

swept_no : (main k : ℕ) (used : List ℕ) (rest : List (List ℕ)) (marks : List Bool) → get_or (swept main (k + 1) rest marks) k false ≡ false → swept main k (used ∷ rest) marks ≡ swept main (k + 1) rest marks
swept_no main k used rest marks t = rw t refl

drop_some : {X : Type 0} (xs : List X) (i : ℕ) → i < length xs → (x : X) × (drop i xs ≡ x ∷ drop (suc i) xs)
drop_some [] i lt = absurd (omega arith)
drop_some (x ∷ xs) zero lt = (x, refl)
drop_some (x ∷ xs) (suc i) lt = drop_some xs i (omega arith)

-- one row back that is not marked
pub swept_less : (main k j : ℕ) (rows : List Row) (marks now : List Bool) → k ≡ j + 1 → j < length rows → now ≡ swept main k (map numbers_of (drop k rows)) marks → get_or now j false ≡ false → now ≡ swept main j (map numbers_of (drop j rows)) marks
swept_less main k j rows marks now s lt e f =
    let here : now ≡ swept main (j + 1) (map numbers_of (drop (j + 1) rows)) marks = subst (λ i. now ≡ swept main i (map numbers_of (drop i rows)) marks) s e in
    let no : get_or (swept main (j + 1) (map numbers_of (drop (j + 1) rows)) marks) j false ≡ false = ap (λ (ms : List Bool). get_or ms j false) (sym here) ∙ f in
    let p = drop_some rows j lt in
    let q : suc j ≡ j + 1 = omega arith in
    let front : drop j rows ≡ p.0 ∷ drop (j + 1) rows = p.1 ∙ ap (λ (i : ℕ). p.0 ∷ drop i rows) q in
    here ∙ sym (swept_no main j (numbers_of p.0) (map numbers_of (drop (j + 1) rows)) marks no) ∙ ap (λ (rs : List Row). swept main j (map numbers_of rs) marks) (sym front)

pub swept_length : (main k : ℕ) (uses : List (List ℕ)) (marks : List Bool) → length (swept main k uses marks) ≡ length marks
swept_length main k [] marks = refl
swept_length main k (used ∷ rest) marks = elim (cases_Bool (get_or (swept main (k + 1) rest marks) k false)) [
  | inl t ↦ ap (λ (ms : List Bool). length ms) (swept_yes main k used rest marks t) ∙ all_length main used (swept main (k + 1) rest marks) ∙ swept_length main (k + 1) rest marks
  | inr t ↦ ap (λ (ms : List Bool). length ms) (swept_no main k used rest marks t) ∙ swept_length main (k + 1) rest marks
]

swept_grows : (main k : ℕ) (uses : List (List ℕ)) (marks : List Bool) (j : ℕ) → IsMarked marks j → IsMarked (swept main k uses marks) j
swept_grows main k [] marks j m = m
swept_grows main k (used ∷ rest) marks j m = elim (cases_Bool (get_or (swept main (k + 1) rest marks) k false)) [
  | inl t ↦ subst (λ ms. IsMarked ms j) (sym (swept_yes main k used rest marks t)) (all_grows main used (swept main (k + 1) rest marks) j (swept_grows main (k + 1) rest marks j m))
  | inr t ↦ subst (λ ms. IsMarked ms j) (sym (swept_no main k used rest marks t)) (swept_grows main (k + 1) rest marks j m)
]

marked_not : (marks : List Bool) (i j : ℕ) → IsMarked marks i → get_or marks j false ≡ false → i ≡ j → ⊥
marked_not marks i j m n e = let f : get_or marks i false ≡ get_or marks j false = ap (λ (x : ℕ). get_or marks x false) e in absurd (cc)

-- what a marked step uses is marked
swept_closed : (main k : ℕ) (uses : List (List ℕ)) (marks : List Bool) → k + length uses ≡ length marks → NameBefore main k uses → (i : ℕ) (used : List ℕ) → slice_get uses i ≡ Some used → IsMarked (swept main k uses marks) (k + i) → (n : ℕ) → Contains used n → main ≤ n → IsMarked (swept main k uses marks) (n - main)
swept_closed main k [] marks size b i used e m n c le = absurd (cc)
swept_closed main k (own ∷ rest) marks size b zero used e m n c le =
    let same : own ≡ used = cc in
    let whole = swept_length main (k + 1) rest marks in
    let lt : n < main + k = below_at (main + k) own n b.0 (subst (λ us. Contains us n) (sym same) c) in
    elim (cases_Bool (get_or (swept main (k + 1) rest marks) k false)) [
      | inl t ↦ subst (λ ms. IsMarked ms (n - main)) (sym (swept_yes main k own rest marks t)) (all_self main own (swept main (k + 1) rest marks) n (subst (λ us. Contains us n) (sym same) c) le (omega arith))
      | inr t ↦ absurd (marked_not (swept main (k + 1) rest marks) (k + 0) k (subst (λ ms. IsMarked ms (k + 0)) (swept_no main k own rest marks t) m) t (omega arith))
    ]
swept_closed main k (own ∷ rest) marks size b (suc i) used e m n c le =
    let on : k + suc i ≡ k + 1 + i = omega arith in
    elim (cases_Bool (get_or (swept main (k + 1) rest marks) k false)) [
      | inl t ↦ elim (all_only main own (swept main (k + 1) rest marks) (k + suc i) (subst (λ ms. IsMarked ms (k + suc i)) (swept_yes main k own rest marks t) m)) [
        | inl a ↦ subst (λ ms. IsMarked ms (n - main)) (sym (swept_yes main k own rest marks t))
            (all_grows main own (swept main (k + 1) rest marks) (n - main)
            (swept_closed main (k + 1) rest marks (omega arith) b.1 i used e (subst (λ j. IsMarked (swept main (k + 1) rest marks) j) on a) n c le))
        | inr d ↦ (let far = below_at (main + k) own (main + (k + suc i)) b.0 d in absurd (omega arith))
      ]
      | inr t ↦ subst (λ ms. IsMarked ms (n - main)) (sym (swept_no main k own rest marks t))
          (swept_closed main (k + 1) rest marks (omega arith) b.1 i used e (subst (λ j. IsMarked (swept main (k + 1) rest marks) j) on (subst (λ ms. IsMarked ms (k + suc i)) (swept_no main k own rest marks t) m)) n c le)
    ]

-- what holds of the first marked ones, and of what such a one uses, holds of all that are marked
swept_only : (Q : ℕ → Type 0) (main k : ℕ) (uses : List (List ℕ)) (marks : List Bool) → ((j : ℕ) → IsMarked marks j → Q j) → ((i j : ℕ) (used : List ℕ) → slice_get uses i ≡ Some used → Q (k + i) → Contains used (main + j) → Q j) → (j : ℕ) → IsMarked (swept main k uses marks) j → Q j
swept_only Q main k [] marks base on j m = base j m
swept_only Q main k (own ∷ rest) marks base on j m =
    let later : (i : ℕ) → IsMarked (swept main (k + 1) rest marks) i → Q i = swept_only Q main (k + 1) rest marks base (λ i x used e q c. on (suc i) x used e (let s : k + 1 + i ≡ k + suc i = omega arith in subst Q s q) c) in
    elim (cases_Bool (get_or (swept main (k + 1) rest marks) k false)) [
      | inl t ↦ elim (all_only main own (swept main (k + 1) rest marks) j (subst (λ ms. IsMarked ms j) (swept_yes main k own rest marks t) m)) [
        | inl a ↦ later j a
        | inr c ↦ on zero j own refl (let s : k ≡ k + 0 = omega arith in subst Q s (later k t)) c
      ]
      | inr t ↦ later j (subst (λ ms. IsMarked ms j) (swept_no main k own rest marks t) m)
    ]

-- numbers in a step that follows are those of earlier clauses

comes_below : (known : List (List Lit)) (running : List Lit) (links : List Link) (end : List Lit) (bound : ℕ) → length known ≤ bound → Comes known running links end → AreBelow bound (map (λ (link : Link). link.number) links)
comes_below known running [] end bound le h = tt
comes_below known running (l ∷ ls) end bound le h =
    let lt = slice_get_within known l.number h.0 h.1 in (omega arith, comes_below known (resolvent l.pivot running h.0) ls end bound le h.4)

follows_below : (known : List (List Lit)) (step : Step) (bound : ℕ) → length known ≤ bound → Follows known step → AreBelow bound (numbers_in step)
follows_below known step bound le h = let lt = slice_get_within known step.first h.0 h.1 in (omega arith, comes_below known h.0 step.chain step.clause bound le h.2)

pub name_before : (main k : ℕ) (known : List (List Lit)) (steps : List Step) → length known ≡ main + k → IsSound known steps → NameBefore main k (map numbers_in steps)
name_before main k known [] size h = tt
name_before main k known (s ∷ ss) size h =
    let more = length-append known (s.clause ∷ []) in
    (follows_below known s (main + k) (omega arith) h.0, name_before main (k + 1) (known ++ s.clause ∷ []) ss (omega arith) h.1)

-- the rows of a sound log name only its clauses
pub rows_below : (known cs : List (List Lit)) (rows : List Row) (bound : ℕ) → length cs ≡ length rows → length known + length rows ≤ bound → IsSound known (steps_of cs rows) → RowsBelow bound rows
rows_below known cs [] bound size le h = tt
rows_below known [] (r ∷ rs) bound size le h = absurd (omega arith)
rows_below known (c ∷ cs) (r ∷ rs) bound size le h =
    let more = length-append known (c ∷ []) in
    (follows_below known (record { kind = r.kind; clause = c; first = r.first; chain = r.chain }) bound (omega arith) h.0, rows_below (known ++ c ∷ []) cs rs bound (omega arith) (omega arith) h.1)

pub same_uses : (cs : List (List Lit)) (rows : List Row) → length cs ≡ length rows → map numbers_of rows ≡ map numbers_in (steps_of cs rows)
same_uses [] [] e = refl
same_uses [] (r ∷ rs) e = absurd (omega arith)
same_uses (c ∷ cs) [] e = absurd (omega arith)
same_uses (c ∷ cs) (r ∷ rs) e = ap (λ (us : List (List ℕ)). numbers_of r ∷ us) (same_uses cs rs (omega arith))

get_map : {X Y : Type 0} (f : X → Y) (xs : List X) (k : ℕ) (y : Y) → slice_get (map f xs) k ≡ Some y → (x : X) × (slice_get xs k ≡ Some x) × (f x ≡ y)
get_map f [] k y e = absurd (cc)
get_map f (x ∷ xs) zero y e = (x, refl, (cc))
get_map f (x ∷ xs) (suc k) y e = get_map f xs k y e

pub map_get : {X Y : Type 0} (f : X → Y) (xs : List X) (k : ℕ) (x : X) → slice_get xs k ≡ Some x → slice_get (map f xs) k ≡ Some (f x)
map_get f [] k x e = absurd (cc)
map_get f (y ∷ ys) zero x e = let s : y ≡ x = cc in ap (λ z. Some (f z)) s
map_get f (y ∷ ys) (suc k) x e = map_get f ys k x e

none_marked : (n j : ℕ) → IsMarked (replicate n false) j → ⊥
none_marked n j m = elim (cases_lt j n) [
  | inl h ↦ (let e = get_or-replicate n j false false h in absurd (cc))
  | inr h ↦ (let s = length-replicate n false in let e = get_or_past (replicate n false) j false (omega arith) in absurd (cc))
]

-- the marks after the sweep
abbrev pub needed_marks : Log → List ℕ → List Bool
needed_marks g named = swept (length g.main) 0 (map numbers_in g.steps) (mark_all (length g.main) named (replicate (length g.steps) false))

pub needed_length : (g : Log) (named : List ℕ) → length (needed_marks g named) ≡ length g.steps
needed_length g named =
    swept_length (length g.main) 0 (map numbers_in g.steps) (mark_all (length g.main) named (replicate (length g.steps) false))
    ∙ all_length (length g.main) named (replicate (length g.steps) false) ∙ length-replicate (length g.steps) false

marked_needed : (g : Log) (named : List ℕ) (k : ℕ) → IsMarked (needed_marks g named) k → IsNeeded g named (length g.main + k)
marked_needed g named =
    swept_only (λ k. IsNeeded g named (length g.main + k)) (length g.main) 0 (map numbers_in g.steps) (mark_all (length g.main) named (replicate (length g.steps) false))
    (λ j m. elim (all_only (length g.main) named (replicate (length g.steps) false) j m) [ inl a ↦ absurd (none_marked (length g.steps) j a) | inr c ↦ by_name (length g.main + j) c ])
    (λ i j used e q c.
    let x = get_map numbers_in g.steps i used e in
    let s : length g.main + (0 + i) - length g.main ≡ i = omega arith in
    by_use (length g.main + j) (length g.main + (0 + i)) x.0 q (omega arith, ap (λ (n : ℕ). slice_get g.steps n) s ∙ x.1) (subst (λ us. Contains us (length g.main + j)) (sym x.2) c))

needed_marked : (g : Log) (named : List ℕ) → IsSound g.main g.steps → (n : ℕ) → IsNeeded g named n → length g.main ≤ n → n < length g.main + length g.steps → IsMarked (needed_marks g named) (n - length g.main)
needed_marked g named sound _ (by_name n c) le lt =
    let size : length (replicate (length g.steps) false) ≡ length g.steps = length-replicate (length g.steps) false in
    swept_grows (length g.main) 0 (map numbers_in g.steps) (mark_all (length g.main) named (replicate (length g.steps) false)) (n - length g.main) (all_self (length g.main) named (replicate (length g.steps) false) n c le (omega arith))
needed_marked g named sound _ (by_use n k step need at c) le lt =
    let inside = slice_get_within g.steps (k - length g.main) step at.1 in
    let before = needed_marked g named sound k need at.0 (omega (arith, at.0)) in
    let size : 0 + length (map numbers_in g.steps) ≡ length (mark_all (length g.main) named (replicate (length g.steps) false)) =
    omega (arith, length-map g.steps numbers_in, all_length (length g.main) named (replicate (length g.steps) false), length-replicate (length g.steps) false) in
    let zero_on : k - length g.main ≡ 0 + (k - length g.main) = omega arith in
    swept_closed (length g.main) 0 (map numbers_in g.steps) (mark_all (length g.main) named (replicate (length g.steps) false)) size
    (name_before (length g.main) 0 g.main g.steps (omega arith) sound) (k - length g.main) (numbers_in step) (map_get numbers_in g.steps (k - length g.main) step at.1)
    (subst (λ j. IsMarked (needed_marks g named) j) zero_on before) n c le

pub needed_exact : (g : Log) (named : List ℕ) → IsSound g.main g.steps → (k : ℕ) → k < length g.steps → (IsMarked (needed_marks g named) k → IsNeeded g named (length g.main + k)) × (IsNeeded g named (length g.main + k) → IsMarked (needed_marks g named) k)
needed_exact g named sound k lt =
    let s : length g.main + k - length g.main ≡ k = omega arith in
    (marked_needed g named k, λ need. subst (λ j. IsMarked (needed_marks g named) j) s (needed_marked g named sound (length g.main + k) need (omega arith) (omega arith)))
