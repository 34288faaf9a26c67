-- What is left of a sound log is sound, and named steps keep their clauses.
use Rattle.std.proofs.Common.{◌≡◌, ℕ, ◌+◌, ◌-◌, ◌<◌, ◌≤◌, Bool, true, false, List, [], ◌∷◌, ◌++◌, ◌⊎◌, inl, inr, length, refl, ap, sym, ◌∙◌, subst, arith, get_or, zero, suc, map, take, Some, length-append}
use Rattle.std.specs.Prelude.{slice_get, nat_lt, Contains}
use Rattle.std.specs.List.{AllByRecursion, AllZip}
use Rattle.std.proofs.lemmas.Bool.{cases_lt, lt-ltb, le-ltb}
use Rattle.std.proofs.lemmas.Option.{slice_get_within, slice_get-get_or}
use Rattle.clause_store.specs.declared.lit.Lit.{Lit}
use Rattle.clause_store.specs.Lits.{resolvent}
use Rattle.clause_store.specs.Keeping.{kept_of}
use Rattle.derivation_log.specs.declared.step.Link.{Link}
use Rattle.derivation_log.specs.declared.step.Step.{Step}
use Rattle.derivation_log.specs.Logs.{Log, known_of, clauses_of, Comes, Follows, IsSound}
use Rattle.derivation_log.specs.Trimming.{numbers_in, IsNeeded, by_name, by_use, marked, number_after, renumbered, IsTrimmed, IsSameStep}
use Rattle.derivation_log.proofs.Marks.{contains_here, contains_later}

pub get_left : {X : Type 0} (xs ys : List X) (n : ℕ) → n < length xs → slice_get (xs ++ ys) n ≡ slice_get xs n
get_left [] ys n lt = absurd (omega arith)
get_left (x ∷ xs) ys zero lt = refl
get_left (x ∷ xs) ys (suc n) lt = get_left xs ys n (omega arith)

pub get_right : {X : Type 0} (xs ys : List X) (n : ℕ) → slice_get (xs ++ ys) (length xs + n) ≡ slice_get ys n
get_right [] ys n = let e : 0 + n ≡ n = omega arith in ap (slice_get ys) e
get_right (x ∷ xs) ys n = let e : suc (length xs) + n ≡ suc (length xs + n) = omega arith in ap (slice_get (x ∷ (xs ++ ys))) e ∙ get_right xs ys n

-- the member at a marked place
pub kept_get : {X : Type 0} (marks : List Bool) (xs : List X) (i : ℕ) → i < length xs → get_or marks i false ≡ true → slice_get (kept_of marks xs) (marked (take i marks)) ≡ slice_get xs i
kept_get [] xs i lt m = absurd (cc)
kept_get (b ∷ bs) [] i lt m = absurd (omega arith)
kept_get (true ∷ bs) (x ∷ xs) zero lt m = refl
kept_get (false ∷ bs) (x ∷ xs) zero lt m = absurd (cc)
kept_get (true ∷ bs) (x ∷ xs) (suc i) lt m = let e : marked (take i bs) + 1 ≡ suc (marked (take i bs)) = omega arith in ap (slice_get (x ∷ kept_of bs xs)) e ∙ kept_get bs xs i (omega arith) m
kept_get (false ∷ bs) (x ∷ xs) (suc i) lt m = kept_get bs xs i (omega arith) m

pub number_main : (main : ℕ) (marks : List Bool) (n : ℕ) → n < main → number_after main marks n ≡ n
number_main main marks n h = let t : nat_lt n main ≡ true = lt-ltb n main h in rw t refl

pub number_step : (main : ℕ) (marks : List Bool) (n : ℕ) → main ≤ n → number_after main marks n ≡ main + marked (take (n - main) marks)
number_step main marks n h = let t : nat_lt n main ≡ false = le-ltb n main h in rw t refl

-- soundness

-- the renamed clauses that a chain names stand in the new list
comes_on : (f : ℕ → ℕ) (old new : List (List Lit)) (running : List Lit) (links : List Link) (end : List Lit) → ((n : ℕ) → Contains (map (λ (link : Link). link.number) links) n → n < length old → slice_get new (f n) ≡ slice_get old n) → Comes old running links end → Comes new running (map (λ (link : Link). record link { number = f link.number }) links) end
comes_on f old new running [] end carry h = h
comes_on f old new running (l ∷ ls) end carry h =
    let lt = slice_get_within old l.number h.0 h.1 in (
      h.0,
      carry l.number (contains_here l.number (map (λ (link : Link). link.number) ls)) lt ∙ h.1,
      h.2,
      h.3,
      comes_on f old new (resolvent l.pivot running h.0) ls end (λ n c. carry n (contains_later l.number n (map (λ (link : Link). link.number) ls) c)) h.4,
    )

follows_on : (f : ℕ → ℕ) (old new : List (List Lit)) (s : Step) → ((n : ℕ) → Contains (numbers_in s) n → n < length old → slice_get new (f n) ≡ slice_get old n) → Follows old s → Follows new (renumbered f s)
follows_on f old new s carry h =
    let lt = slice_get_within old s.first h.0 h.1 in
    (h.0, carry s.first (contains_here s.first (map (λ (link : Link). link.number) s.chain)) lt ∙ h.1, comes_on f old new h.0 s.chain s.clause (λ n c. carry n (contains_later s.first n (map (λ (link : Link). link.number) s.chain) c)) h.2)

-- a clause that is carried over is still so with one more clause in both lists
carry_more : (f : ℕ → ℕ) (old new : List (List Lit)) (c : List Lit) (n : ℕ) → n < length old → slice_get new (f n) ≡ slice_get old n → slice_get (new ++ c ∷ []) (f n) ≡ slice_get (old ++ c ∷ []) n
carry_more f old new c n lt e =
    let there = slice_get-get_or old n c lt in
    let within : f n < length new = slice_get_within new (f n) (get_or old n c) (e ∙ there) in
    get_left new (c ∷ []) (f n) within ∙ e ∙ sym (get_left old (c ∷ []) n lt)

carry_same : (f : ℕ → ℕ) (old new : List (List Lit)) (c : List Lit) (n : ℕ) → n < length old → slice_get new (f n) ≡ slice_get old n → slice_get new (f n) ≡ slice_get (old ++ c ∷ []) n
carry_same f old new c n lt e = e ∙ sym (get_left old (c ∷ []) n lt)

pub sound_after : (f : ℕ → ℕ) (K : ℕ → Type 0) (old new : List (List Lit)) (marks : List Bool) (steps : List Step)
    → ((n : ℕ) → n < length old → K n → slice_get new (f n) ≡ slice_get old n)
    → ((j : ℕ) → j < length marks → f (length old + j) ≡ length new + marked (take j marks))
    → ((j : ℕ) → j < length marks → K (length old + j) → get_or marks j false ≡ true)
    → ((j : ℕ) (s : Step) → slice_get steps j ≡ Some s → get_or marks j false ≡ true → (n : ℕ) → Contains (numbers_in s) n → K n)
    → IsSound old steps → IsSound new (map (renumbered f) (kept_of marks steps))
sound_after f K old new [] steps a b c d h = tt
sound_after f K old new (m ∷ ms) [] a b c d h = tt
sound_after f K old new (true ∷ ms) (s ∷ ss) a b c d h =
    let z : length old ≡ length old + 0 = omega arith in
    let own : f (length old) ≡ length new + 0 = ap f z ∙ b zero (omega arith) in
    let more = length-append old (s.clause ∷ []) in
    let wider = length-append new (s.clause ∷ []) in (
      follows_on f old new s (λ n u lt. a n lt (d zero s refl refl n u)) h.0,
      sound_after f K (old ++ s.clause ∷ []) (new ++ s.clause ∷ []) ms ss
          (λ n lt k. elim (cases_lt n (length old)) [
            | inl le ↦ carry_more f old new s.clause n le (a n le k)
            | inr ge ↦ (
                let e : n ≡ length old + 0 = omega arith in
                ap (λ (i : ℕ). slice_get (new ++ s.clause ∷ []) (f i)) (e ∙ sym z) ∙ ap (λ (i : ℕ). slice_get (new ++ s.clause ∷ []) i) own ∙ get_right new (s.clause ∷ []) 0
                ∙ sym (get_right old (s.clause ∷ []) 0) ∙ ap (λ (i : ℕ). slice_get (old ++ s.clause ∷ []) i) (sym e)
                )
          ])
          (λ j lt. let e : length (old ++ s.clause ∷ []) + j ≡ length old + suc j = omega arith in let g = b (suc j) (omega arith) in let h : length new + marked (take (suc j) (true ∷ ms)) ≡ length (new ++ s.clause ∷ []) + marked (take j ms) = omega arith in ap f e ∙ g ∙ h)
          (λ j lt k. let e : length (old ++ s.clause ∷ []) + j ≡ length old + suc j = omega arith in c (suc j) (omega arith) (subst K e k))
          (λ j x g m n u. d (suc j) x g m n u) h.1,
    )
sound_after f K old new (false ∷ ms) (s ∷ ss) a b c d h =
    let more = length-append old (s.clause ∷ []) in
    sound_after f K (old ++ s.clause ∷ []) new ms ss
    (λ n lt k. elim (cases_lt n (length old)) [
      | inl le ↦ carry_same f old new s.clause n le (a n le k)
      | inr ge ↦ (let e : n ≡ length old + 0 = omega arith in let no = c zero (omega arith) (subst K e k) in absurd (cc))
    ])
    (λ j lt. let e : length (old ++ s.clause ∷ []) + j ≡ length old + suc j = omega arith in ap f e ∙ b (suc j) (omega arith))
    (λ j lt k. let e : length (old ++ s.clause ∷ []) + j ≡ length old + suc j = omega arith in c (suc j) (omega arith) (subst K e k))
    (λ j x g m n u. d (suc j) x g m n u) h.1

-- a clause that is left: a main one, or one of a step that is needed
abbrev pub IsLeft : Log → List ℕ → ℕ → Type 0
IsLeft g named n = (n < length g.main) ⊎ IsNeeded g named n

pub left_sound : (old new : Log) (named numbers : List ℕ) → IsTrimmed old named new numbers → IsSound old.main old.steps → IsSound new.main new.steps
left_sound old new named numbers t sound =
    let left : IsSound old.main (map (renumbered (number_after (length old.main) t.marks)) (kept_of t.marks old.steps)) =
    sound_after (number_after (length old.main) t.marks) (IsLeft old named) old.main old.main t.marks old.steps
    (λ n lt k. ap (λ (i : ℕ). slice_get old.main i) (number_main (length old.main) t.marks n lt))
    (λ j lt. let e : length old.main + j - length old.main ≡ j = omega arith in number_step (length old.main) t.marks (length old.main + j) (omega arith) ∙ ap (λ (i : ℕ). length old.main + marked (take i t.marks)) e)
    (λ j lt k. elim k [ inl h ↦ absurd (omega arith) | inr h ↦ (let size = t.each in (t.exact j (omega arith)).1 h) ])
    (λ j s g m n u.
    let lt = slice_get_within old.steps j s g in
    let e : length old.main + j - length old.main ≡ j = omega arith in
    let need : IsNeeded old named (length old.main + j) = (t.exact j lt).0 m in
    inr (by_use n (length old.main + j) s need (omega arith, ap (λ (i : ℕ). slice_get old.steps i) e ∙ g) u))
    sound in
    subst (λ (g : Log). IsSound g.main g.steps) (sym t.left) left

pub kept_clauses : (f : ℕ → ℕ) (marks : List Bool) (steps : List Step) → clauses_of (map (renumbered f) (kept_of marks steps)) ≡ kept_of marks (clauses_of steps)
kept_clauses f [] steps = refl
kept_clauses f (m ∷ ms) [] = refl
kept_clauses f (true ∷ ms) (s ∷ ss) = ap (λ (cs : List (List Lit)). s.clause ∷ cs) (kept_clauses f ms ss)
kept_clauses f (false ∷ ms) (s ∷ ss) = kept_clauses f ms ss

pub clauses_length : (steps : List Step) → length (clauses_of steps) ≡ length steps
clauses_length [] = refl
clauses_length (s ∷ ss) = ap (λ (n : ℕ). suc n) (clauses_length ss)

pub known_length : (g : Log) → length (known_of g) ≡ length g.main + length g.steps
known_length g = length-append g.main (clauses_of g.steps) ∙ ap (λ (n : ℕ). length g.main + n) (clauses_length g.steps)

-- the clause of a step that is needed stands under its new number
left_at : (old new : Log) (named numbers : List ℕ) (n : ℕ) (t : IsTrimmed old named new numbers) → IsNeeded old named n → length old.main ≤ n → n < length (known_of old) → IsSameStep old new n (number_after (length old.main) t.marks n)
left_at old new named numbers n t need le lt =
    let whole = known_length old in
    let e : length old.main + (n - length old.main) ≡ n = omega arith in
    let m : get_or t.marks (n - length old.main) false ≡ true = (t.exact (n - length old.main) (omega arith)).1 (subst (λ k. IsNeeded old named k) (sym e) need) in
    let place : number_after (length old.main) t.marks n ≡ length old.main + marked (take (n - length old.main) t.marks) = number_step (length old.main) t.marks n le in
    let main : new.main ≡ old.main = ap (λ (g : Log). g.main) t.left in
    let known : known_of new ≡ old.main ++ kept_of t.marks (clauses_of old.steps) =
    ap (λ (g : Log). known_of g) t.left ∙ ap (λ (cs : List (List Lit)). old.main ++ cs) (kept_clauses (number_after (length old.main) t.marks) t.marks old.steps) in
    let size = ap (λ (cs : List (List Lit)). length cs) main in
    let count = clauses_length old.steps in (
      omega arith,
      ap (λ (cs : List (List Lit)). slice_get cs (number_after (length old.main) t.marks n)) known
          ∙ ap (λ (k : ℕ). slice_get (old.main ++ kept_of t.marks (clauses_of old.steps)) k) place
          ∙ get_right old.main (kept_of t.marks (clauses_of old.steps)) (marked (take (n - length old.main) t.marks))
          ∙ kept_get t.marks (clauses_of old.steps) (n - length old.main) (omega arith) m
          ∙ sym (get_right old.main (clauses_of old.steps) (n - length old.main)) ∙ ap (λ (k : ℕ). slice_get (known_of old) k) e,
    )

named_left : (old new : Log) (named numbers : List ℕ) (t : IsTrimmed old named new numbers) (ns : List ℕ) → ((n : ℕ) → Contains ns n → Contains named n) → AllByRecursion (λ n. (length old.main ≤ n) × (n < length (known_of old))) ns →
    AllZip (IsSameStep old new) ns (map (number_after (length old.main) t.marks) ns)
named_left old new named numbers t [] sub h = tt
named_left old new named numbers t (n ∷ ns) sub h =
    (left_at old new named numbers n t (by_name n (sub n (contains_here n ns))) h.0.0 h.0.1, named_left old new named numbers t ns (λ k c. sub k (contains_later n k ns c)) h.1)

pub left_named : (old new : Log) (named numbers : List ℕ) → IsTrimmed old named new numbers → AllByRecursion (λ n. (length old.main ≤ n) × (n < length (known_of old))) named → AllZip (IsSameStep old new) named numbers
left_named old new named numbers t h = subst (λ ns. AllZip (IsSameStep old new) named ns) (sym t.numbered) (named_left old new named numbers t named (λ n c. c) h)
