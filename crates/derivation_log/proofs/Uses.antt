-- Each step that is left is named, or a later one uses it.
use Rattle.std.proofs.Common.{◌≡◌, ℕ, ◌+◌, ◌-◌, ◌<◌, ◌≤◌, Bool, true, false, List, [], ◌∷◌, ◌⊎◌, inl, inr, length, refl, ap, sym, ◌∙◌, subst, arith, get_or, zero, suc, map, take, Some}
use Rattle.std.specs.Prelude.{slice_get, Contains}
use Rattle.std.proofs.lemmas.List.{length-map}
use Rattle.std.proofs.lemmas.Option.{slice_get_within}
use Rattle.clause_store.specs.Keeping.{kept_of}
use Rattle.derivation_log.specs.declared.step.Link.{Link}
use Rattle.derivation_log.specs.declared.step.Step.{Step}
use Rattle.derivation_log.specs.Logs.{Log, IsSound}
use Rattle.derivation_log.specs.Trimming.{numbers_in, IsNeeded, by_name, by_use, marked, number_after, renumbered, IsTrimmed, IsUsedLater, AreUsed}
use Rattle.derivation_log.specs.Marking.{AreBelow}
use Rattle.derivation_log.proofs.Marks.{contains_map, below_at}
use Rattle.derivation_log.proofs.Sweeps.{NameBefore, name_before, map_get}
use Rattle.derivation_log.proofs.Trims.{kept_get, number_step, known_length}

-- where a member that is left came from
kept_place : {X : Type 0} (marks : List Bool) (xs : List X) (j : ℕ) → j < length (kept_of marks xs) → (i : ℕ) × (i < length xs) × (get_or marks i false ≡ true) × (marked (take i marks) ≡ j)
kept_place [] xs j lt = absurd (omega arith)
kept_place (m ∷ ms) [] j lt = absurd (omega arith)
kept_place (true ∷ ms) (x ∷ xs) zero lt = (zero, omega arith, refl, refl)
kept_place (true ∷ ms) (x ∷ xs) (suc j) lt = let p = kept_place ms xs j (omega arith) in (suc p.0, omega (arith, p.1), p.2, (let e = p.3 in omega arith))
kept_place (false ∷ ms) (x ∷ xs) j lt = let p = kept_place ms xs j lt in (suc p.0, omega (arith, p.1), p.2, p.3)

marked_less : (marks : List Bool) (i j : ℕ) → i < j → j ≤ length marks → get_or marks i false ≡ true → marked (take i marks) < marked (take j marks)
marked_less [] i j lt le m = absurd (omega arith)
marked_less (b ∷ bs) i zero lt le m = absurd (omega arith)
marked_less (true ∷ bs) zero (suc j) lt le m = omega arith
marked_less (false ∷ bs) zero (suc j) lt le m = absurd (cc)
marked_less (true ∷ bs) (suc i) (suc j) lt le m = let h = marked_less bs i j (omega arith) (omega arith) m in omega arith
marked_less (false ∷ bs) (suc i) (suc j) lt le m = marked_less bs i j (omega arith) (omega arith) m

name_at : (main k : ℕ) (uses : List (List ℕ)) (i : ℕ) (used : List ℕ) → NameBefore main k uses → slice_get uses i ≡ Some used → AreBelow (main + (k + i)) used
name_at main k [] i used h e = absurd (cc)
name_at main k (own ∷ rest) zero used h e =
    let s : own ≡ used = cc in let z : main + k ≡ main + (k + 0) = omega arith in
    subst (λ us. AreBelow (main + (k + 0)) us) s (subst (λ n. AreBelow n own) z h.0)
name_at main k (own ∷ rest) (suc i) used h e = let s : main + (k + 1 + i) ≡ main + (k + suc i) = omega arith in subst (λ n. AreBelow n used) s (name_at main (k + 1) rest i used h.1 e)

links_uses : (f : ℕ → ℕ) (links : List Link) → map (λ (l : Link). l.number) (map (λ (l : Link). record l { number = f l.number }) links) ≡ map f (map (λ (l : Link). l.number) links)
links_uses f [] = refl
links_uses f (l ∷ ls) = ap (λ (ns : List ℕ). f l.number ∷ ns) (links_uses f ls)

used_of : (old new : Log) (named numbers : List ℕ) (t : IsTrimmed old named new numbers) → IsSound old.main old.steps → (n k : ℕ) → IsNeeded old named k → length old.main ≤ k → get_or t.marks (k - length old.main) false ≡ true → number_after (length old.main) t.marks k ≡ n → Contains numbers n ⊎ IsUsedLater new n
used_of old new named numbers t sound n _ (by_name k c) le m e =
    inl (subst (λ i. Contains numbers i) e (subst (λ ns. Contains ns (number_after (length old.main) t.marks k)) (sym t.numbered) (contains_map (number_after (length old.main) t.marks) named k c)))
used_of old new named numbers t sound n _ (by_use k q step need at c) le m e =
    let from : length old.main ≤ q = at.0 in
    let inside : q - length old.main < length old.steps = slice_get_within old.steps (q - length old.main) step at.1 in
    let on : length old.main + (q - length old.main) ≡ q = omega arith in
    let later : get_or t.marks (q - length old.main) false ≡ true = (t.exact (q - length old.main) inside).1 (subst (λ i. IsNeeded old named i) (sym on) need) in
    let before : k < length old.main + (0 + (q - length old.main)) =
    below_at (length old.main + (0 + (q - length old.main))) (numbers_in step) k
    (name_at (length old.main) 0 (map numbers_in old.steps) (q - length old.main) (numbers_in step) (name_before (length old.main) 0 old.main old.steps (omega arith) sound) (map_get numbers_in old.steps (q - length old.main) step at.1)) c in
    let size = t.each in
    let less = marked_less t.marks (k - length old.main) (q - length old.main) (omega arith) (omega arith) m in
    let place_k = number_step (length old.main) t.marks k le in
    let place_q = number_step (length old.main) t.marks q from in
    let main : length new.main ≡ length old.main = ap (λ (g : Log). length g.main) t.left in
    let index : number_after (length old.main) t.marks q - length new.main ≡ marked (take (q - length old.main) t.marks) = omega arith in
    let steps : new.steps ≡ map (renumbered (number_after (length old.main) t.marks)) (kept_of t.marks old.steps) = ap (λ (g : Log). g.steps) t.left in
    let there : slice_get new.steps (number_after (length old.main) t.marks q - length new.main) ≡ Some (renumbered (number_after (length old.main) t.marks) step) =
    ap (λ (i : ℕ). slice_get new.steps i) index ∙ ap (λ (ss : List Step). slice_get ss (marked (take (q - length old.main) t.marks))) steps
    ∙ map_get (renumbered (number_after (length old.main) t.marks)) (kept_of t.marks old.steps) (marked (take (q - length old.main) t.marks)) step (kept_get t.marks old.steps (q - length old.main) inside later ∙ at.1) in
    let uses : numbers_in (renumbered (number_after (length old.main) t.marks) step) ≡ map (number_after (length old.main) t.marks) (numbers_in step) =
    ap (λ (ns : List ℕ). number_after (length old.main) t.marks step.first ∷ ns) (links_uses (number_after (length old.main) t.marks) step.chain) in
    inr (
      number_after (length old.main) t.marks q,
      renumbered (number_after (length old.main) t.marks) step,
      omega arith,
      (omega arith, there),
      subst (λ i. Contains (numbers_in (renumbered (number_after (length old.main) t.marks) step)) i) e
          (subst (λ ns. Contains ns (number_after (length old.main) t.marks k)) (sym uses) (contains_map (number_after (length old.main) t.marks) (numbers_in step) k c)),
    )

pub left_used : (old new : Log) (named numbers : List ℕ) → IsTrimmed old named new numbers → IsSound old.main old.steps → AreUsed new numbers
left_used old new named numbers t sound = λ n le lt.
    let whole = known_length new in
    let main : length new.main ≡ length old.main = ap (λ (g : Log). length g.main) t.left in
    let steps : length new.steps ≡ length (kept_of t.marks old.steps) = ap (λ (g : Log). length g.steps) t.left ∙ length-map (kept_of t.marks old.steps) (renumbered (number_after (length old.main) t.marks)) in
    let p = kept_place t.marks old.steps (n - length new.main) (omega arith) in
    let e : length old.main + p.0 - length old.main ≡ p.0 = omega arith in
    let q : marked (take p.0 t.marks) ≡ n - length new.main = p.3 in
    let last : length old.main + marked (take p.0 t.marks) ≡ n = omega arith in
    let there : number_after (length old.main) t.marks (length old.main + p.0) ≡ n =
    number_step (length old.main) t.marks (length old.main + p.0) (omega arith) ∙ ap (λ (i : ℕ). length old.main + marked (take i t.marks)) e ∙ last in
    used_of old new named numbers t sound n (length old.main + p.0) ((t.exact p.0 p.1).0 p.2) (omega arith) (ap (λ (i : ℕ). get_or t.marks i false) e ∙ p.2) there
