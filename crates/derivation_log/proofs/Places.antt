-- The numbers of the steps that are left, and the rows of these steps.
use Rattle.std.proofs.Common.{◌≡◌, ℕ, ◌+◌, ◌-◌, ◌<◌, ◌≤◌, Bool, true, false, List, [], ◌∷◌, ◌++◌, inl, inr, length, refl, ap, sym, ◌∙◌, subst, arith, get_or, set, zero, suc, map, take, drop, Some, append_assoc}
use Rattle.std.specs.Prelude.{slice_get, nat_lt}
use Rattle.std.specs.List.{swap}
use Rattle.std.proofs.lemmas.Bool.{cases_eq, cases_lt, lt-ltb, le-ltb}
use Rattle.std.proofs.lemmas.List.{length-set, get_or-set_same, take_more_set, take-set-le, drop-set-lt, set-set, get_or-drop, drop-drop, map-append, length-map, length-take-le, drop_more, take_more, get_or_at, set_at}
use Rattle.std.proofs.lemmas.List.Edits.{swap_is, length-swap}
use Rattle.std.proofs.lemmas.Option.{slice_get-get_or}
use Rattle.clause_store.specs.declared.lit.Lit.{Lit}
use Rattle.clause_store.specs.Keeping.{kept_of}
use Rattle.clause_store.proofs.Packing.{kept_more, kept_less}
use Rattle.derivation_log.specs.declared.step.Link.{Link}
use Rattle.derivation_log.specs.declared.step.Step.{Step}
use Rattle.derivation_log.specs.declared.derivations.Row.{Row}
use Rattle.derivation_log.specs.Rows.{steps_of}
use Rattle.derivation_log.specs.Trimming.{marked, number_after, renumbered}
use Rattle.derivation_log.specs.Marking.{places_from, place_in, placed_link, placed_row, AreBelow, RowsBelow}

-- the number of a place
place_at : (next : ℕ) (marks : List Bool) (i : ℕ) → i < length marks → get_or (places_from next marks) i 0 ≡ next + marked (take i marks)
place_at next [] i lt = absurd (omega arith)
place_at next (m ∷ ms) zero lt = let e : next ≡ next + 0 = omega arith in e
place_at next (true ∷ ms) (suc i) lt = let ih = place_at (next + 1) ms i (omega arith) in omega (arith, ih)
place_at next (false ∷ ms) (suc i) lt = place_at next ms i (omega arith)

pub length-places : (next : ℕ) (marks : List Bool) → length (places_from next marks) ≡ length marks
length-places next [] = refl
length-places next (true ∷ ms) = ap (λ (n : ℕ). suc n) (length-places (next + 1) ms)
length-places next (false ∷ ms) = ap (λ (n : ℕ). suc n) (length-places next ms)

pub place_after : (main : ℕ) (marks : List Bool) (n : ℕ) → n < main + length marks → place_in main (places_from main marks) n ≡ number_after main marks n
place_after main marks n lt = elim (cases_lt n main) [
  | inl h ↦ (let t : nat_lt n main ≡ true = lt-ltb n main h in rw t refl)
  | inr h ↦ (let t : nat_lt n main ≡ false = le-ltb n main h in rw t (place_at main marks (n - main) (omega arith)))
]

pub places_after : (main : ℕ) (marks : List Bool) (ns : List ℕ) → AreBelow (main + length marks) ns → map (place_in main (places_from main marks)) ns ≡ map (number_after main marks) ns
places_after main marks [] h = refl
places_after main marks (n ∷ ns) h =
    let one = place_after main marks n h.0 in
    let rest = places_after main marks ns h.1 in cc

abbrev with_number : Link → ℕ → Link
with_number x n = record { pivot = x.pivot; number = n }

links_after : (main : ℕ) (marks : List Bool) (links : List Link) → AreBelow (main + length marks) (map (λ (link : Link). link.number) links) → map (placed_link main (places_from main marks)) links ≡ map (λ (link : Link). record link { number = number_after main marks link.number }) links
links_after main marks [] h = refl
links_after main marks (l ∷ ls) h =
    let one = place_after main marks l.number h.0 in
    let rest = links_after main marks ls h.1 in
    ap (λ (n : ℕ). with_number l n ∷ map (placed_link main (places_from main marks)) ls) one
    ∙ ap (λ (xs : List Link). with_number l (number_after main marks l.number) ∷ xs) rest

abbrev step_with : Row → List Lit → ℕ → List Link → Step
step_with r c first chain = record { kind = r.kind; clause = c; first = first; chain = chain }

-- the steps of the rows that are left
pub steps_after : (main : ℕ) (all : List Bool) (marks : List Bool) (cs : List (List Lit)) (rows : List Row) → length cs ≡ length rows → RowsBelow (main + length all) rows →
    steps_of (kept_of marks cs) (map (placed_row main (places_from main all)) (kept_of marks rows)) ≡ map (renumbered (number_after main all)) (kept_of marks (steps_of cs rows))
steps_after main all [] cs rows e h = refl
steps_after main all (m ∷ ms) [] [] e h = refl
steps_after main all (m ∷ ms) [] (r ∷ rs) e h = absurd (omega arith)
steps_after main all (m ∷ ms) (c ∷ cs) [] e h = absurd (omega arith)
steps_after main all (false ∷ ms) (c ∷ cs) (r ∷ rs) e h = steps_after main all ms cs rs (omega arith) h.1
steps_after main all (true ∷ ms) (c ∷ cs) (r ∷ rs) e h =
    let first = place_after main all r.first h.0.0 in
    let links = links_after main all r.chain h.0.1 in
    let rest = steps_after main all ms cs rs (omega arith) h.1 in
    ap (λ (n : ℕ). step_with r c n (map (placed_link main (places_from main all)) r.chain) ∷ steps_of (kept_of ms cs) (map (placed_row main (places_from main all)) (kept_of ms rs))) first
    ∙ ap (λ (ls : List Link). step_with r c (number_after main all r.first) ls ∷ steps_of (kept_of ms cs) (map (placed_row main (places_from main all)) (kept_of ms rs))) links
    ∙ ap (λ (ss : List Step). renumbered (number_after main all) (step_with r c r.first r.chain) ∷ ss) rest

-- one more link with its new number

place_number : (main : ℕ) (places : List ℕ) (x y : Link) (n : ℕ) → x ≡ y → n ≡ place_in main places x.number → with_number x n ≡ placed_link main places y
place_number main places x y n e h = ap (λ (m : ℕ). with_number x m) h ∙ ap (λ (z : Link). placed_link main places z) e

pub placed_more : (main : ℕ) (places : List ℕ) (old links : List Link) (i : ℕ) (d x : Link) (n : ℕ) → i < length old → links ≡ map (placed_link main places) (take i old) ++ drop i old → x ≡ get_or links i d → n ≡ place_in main places x.number →
    set links i (with_number x n) ≡ map (placed_link main places) (take (i + 1) old) ++ drop (i + 1) old
placed_more main places old links i d x n lt e is h =
    let size : length (map (placed_link main places) (take i old)) ≡ i = length-map (take i old) (placed_link main places) ∙ length-take-le i old (omega arith) in
    let whole : links ≡ map (placed_link main places) (take i old) ++ get_or old i d ∷ drop (i + 1) old = e ∙ ap (λ (xs : List Link). map (placed_link main places) (take i old) ++ xs) (drop_more old i d lt) in
    let here : x ≡ get_or old i d = is ∙ ap (λ (xs : List Link). get_or xs i d) whole ∙ get_or_at (map (placed_link main places) (take i old)) (get_or old i d) (drop (i + 1) old) d i size in
    let one : with_number x n ≡ placed_link main places (get_or old i d) = place_number main places x (get_or old i d) n here h in
    ap (λ (xs : List Link). set xs i (with_number x n)) whole
    ∙ set_at (map (placed_link main places) (take i old)) (get_or old i d) (drop (i + 1) old) (with_number x n) i size
    ∙ ap (λ (z : Link). map (placed_link main places) (take i old) ++ z ∷ drop (i + 1) old) one
    ∙ sym (append_assoc (map (placed_link main places) (take i old)) (placed_link main places (get_or old i d) ∷ []) (drop (i + 1) old))
    ∙ ap (λ (xs : List Link). xs ++ drop (i + 1) old) (sym (ap (λ (xs : List Link). map (placed_link main places) xs) (take_more old i d lt) ∙ map-append (placed_link main places) (take i old) (get_or old i d ∷ [])))

below_tail : (bound : ℕ) (links : List Link) → AreBelow bound (map (λ (link : Link). link.number) links) → AreBelow bound (map (λ (link : Link). link.number) (drop 1 links))
below_tail bound [] h = tt
below_tail bound (l ∷ ls) h = h.1

pub below_rest : (bound : ℕ) (links : List Link) (i : ℕ) → AreBelow bound (map (λ (link : Link). link.number) (drop i links)) → AreBelow bound (map (λ (link : Link). link.number) (drop (i + 1) links))
below_rest bound links i h = subst (λ (ls : List Link). AreBelow bound (map (λ (link : Link). link.number) ls)) (drop-drop 1 i links) (below_tail bound (drop i links) h)

pub kept_lengths : {X Y : Type 0} (marks : List Bool) (xs : List X) (ys : List Y) → length xs ≡ length ys → length (kept_of marks xs) ≡ length (kept_of marks ys)
kept_lengths [] xs ys e = refl
kept_lengths (m ∷ ms) [] [] e = refl
kept_lengths (m ∷ ms) [] (y ∷ ys) e = absurd (omega arith)
kept_lengths (m ∷ ms) (x ∷ xs) [] e = absurd (omega arith)
kept_lengths (true ∷ ms) (x ∷ xs) (y ∷ ys) e = ap (λ (n : ℕ). suc n) (kept_lengths ms xs ys (omega arith))
kept_lengths (false ∷ ms) (x ∷ xs) (y ∷ ys) e = kept_lengths ms xs ys (omega arith)

-- keeping rows in place

-- after k marks: the first rows are those that are left, and what is still to be read stands where it was
pub record Kept (f : Row → Row) (old : List Row) (marks : List Bool) (k count : ℕ) (rows : List Row) : Type 0 where
  pub turns : k ≤ length marks
  pub each : length marks ≡ length old
  pub same : length rows ≡ length old
  pub few : count ≤ k
  pub front : take count rows ≡ map f (kept_of (take k marks) old)
  pub left : drop k rows ≡ drop k old

drop_one : {X : Type 0} (xs ys : List X) (k : ℕ) → drop k xs ≡ drop k ys → drop (k + 1) xs ≡ drop (k + 1) ys
drop_one xs ys k e = sym (drop-drop 1 k xs) ∙ ap (λ zs. drop 1 zs) e ∙ drop-drop 1 k ys

pub row_left : (f : Row → Row) (old : List Row) (marks : List Bool) (k count : ℕ) (rows : List Row) (d : Row) → Kept f old marks k count rows → get_or rows k d ≡ get_or old k d
row_left f old marks k count rows d s =
    let z : k + 0 ≡ k = omega arith in
    ap (λ (i : ℕ). get_or rows i d) (sym z) ∙ sym (get_or-drop k rows 0 d) ∙ ap (λ (xs : List Row). get_or xs 0 d) s.left ∙ get_or-drop k old 0 d ∙ ap (λ (i : ℕ). get_or old i d) z

pub kept_skip : (f : Row → Row) (old : List Row) (marks : List Bool) (k count : ℕ) (rows : List Row) → Kept f old marks k count rows → k < length marks → get_or marks k false ≡ false → Kept f old marks (k + 1) count rows
kept_skip f old marks k count rows s lt m =
    let few = s.few in
    let more : k + 1 ≡ suc k = omega arith in record {
      turns = omega arith;
      each = s.each;
      same = s.same;
      few = omega arith;
      front = s.front ∙ ap (λ (xs : List Row). map f xs) (sym (ap (λ (i : ℕ). kept_of (take i marks) old) more ∙ kept_less marks old k lt m));
      left = drop_one rows old k s.left;
    }

-- a write at k and then at the end of the front
front_swap : (rows : List Row) (count k : ℕ) (x y : Row) → count ≤ k → k < length rows → (count ≡ k → y ≡ x) → take (count + 1) (set (set (set rows k x) count x) k y) ≡ take count rows ++ x ∷ []
front_swap rows count k x y le lt same =
    let size = length-set rows k x in
    let front : take (count + 1) (set (set rows k x) count x) ≡ take count rows ++ x ∷ [] =
    take_more_set (set rows k x) count x (omega arith) ∙ ap (λ (zs : List Row). zs ++ x ∷ []) (take-set-le count rows k x le) in
    elim (cases_eq count k) [
      | inl e ↦ (
          let yes = same e in
          ap (λ (i : ℕ). take (count + 1) (set (set (set rows k x) count x) i y)) (sym e)
          ∙ ap (λ (zs : List Row). take (count + 1) zs) (set-set (set rows k x) count x y) ∙ ap (λ (z : Row). take (count + 1) (set (set rows k x) count z)) yes ∙ front
          )
      | inr n ↦ take-set-le (count + 1) (set (set rows k x) count x) k y (omega arith) ∙ front
    ]

pub kept_one : (f : Row → Row) (old : List Row) (marks : List Bool) (k count : ℕ) (rows : List Row) (r : Row) → Kept f old marks k count rows → k < length marks → get_or marks k false ≡ true → r ≡ get_or rows k r → Kept f old marks (k + 1) (count + 1) (swap (set rows k (f r)) count k)
kept_one f old marks k count rows r s lt m e =
    let few = s.few in let each = s.each in let same = s.same in
    let more : k + 1 ≡ suc k = omega arith in
    let size : length (set rows k (f r)) ≡ length rows = length-set rows k (f r) in
    let here : get_or (set rows k (f r)) k (f r) ≡ f r = get_or-set_same rows k (f r) (f r) (omega arith) in
    let is : swap (set rows k (f r)) count k ≡ set (set (set rows k (f r)) count (f r)) k (get_or (set rows k (f r)) count (f r)) =
    sym (swap_is (set rows k (f r)) count k (f r) (omega arith) (omega arith)) ∙ ap (λ (x : Row). set (set (set rows k (f r)) count x) k (get_or (set rows k (f r)) count (f r))) here in
    let member : slice_get old k ≡ Some r = slice_get-get_or old k r (omega arith) ∙ ap (λ (x : Row). Some x) (sym (e ∙ row_left f old marks k count rows r s)) in
    let next : kept_of (take (k + 1) marks) old ≡ kept_of (take k marks) old ++ r ∷ [] = ap (λ (i : ℕ). kept_of (take i marks) old) more ∙ kept_more marks old k r lt m member in record {
      turns = omega arith;
      each = s.each;
      same = length-swap (set rows k (f r)) count k ∙ size ∙ s.same;
      few = omega arith;
      front = ap (λ (zs : List Row). take (count + 1) zs) is
          ∙ front_swap rows count k (f r) (get_or (set rows k (f r)) count (f r)) few (omega arith) (λ q. ap (λ (i : ℕ). get_or (set rows k (f r)) i (f r)) q ∙ here)
          ∙ ap (λ (zs : List Row). zs ++ f r ∷ []) s.front ∙ sym (map-append f (kept_of (take k marks) old) (r ∷ [])) ∙ ap (λ (zs : List Row). map f zs) (sym next);
      left = ap (λ (zs : List Row). drop (k + 1) zs) is
          ∙ drop-set-lt (k + 1) (set (set rows k (f r)) count (f r)) k (get_or (set rows k (f r)) count (f r)) (omega arith)
          ∙ drop-set-lt (k + 1) (set rows k (f r)) count (f r) (omega arith) ∙ drop-set-lt (k + 1) rows k (f r) (omega arith)
          ∙ drop_one rows old k s.left;
    }
