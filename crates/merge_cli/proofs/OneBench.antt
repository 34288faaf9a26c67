-- A bench has one text where it is merged.
use Rattle.std.proofs.Common.{◌≡◌, ℕ, ◌+◌, Bool, false, List, [], ◌∷◌, ◌++◌, decimal, refl, sym, ap, ◌∙◌, subst, Ordering, Less, Equal, Greater}
use Rattle.std.specs.Prelude.{codes}
use Rattle.std.specs.Ordering.{is_gt, ordering_reverse}
use Rattle.std.specs.List.{AllZip}
use Rattle.std.proofs.lemmas.Cmp.{nat_list_cmp_total}
use Rattle.std.proofs.lemmas.Map.Lookups.{exact_bytes}
use Rattle.formulas.specs.declared.formula.Formula.{Formula}
use Rattle.merge_model.specs.declared.answer.Shown.{Shown}
use Rattle.merge_model.specs.declared.answer.Verdict.{Verdict}
use Rattle.merge_model.specs.declared.answer.Verdict.TheVariants.{Yes, No}
use Rattle.merge_model.specs.declared.problem.Problem.{Problem}
use Rattle.merge_model.specs.declared.operator.AggregatorName.TheVariants.{Leximax}
use Rattle.merge_model.specs.declared.operator.DistanceName.TheVariants.{Hamming}
use Rattle.merge_model.specs.Answers.{dist_named, rank_named, profile_of, IsVerdict, IsRightMerge}
use Rattle.merge_model.specs.Merging.{Profile, IsClosest, full_of, repeated}
use Rattle.report_words.specs.Words.{line_of}
use Rattle.report_lines.specs.Items.{Item, MeasureLine, VerdictLine}
use Rattle.report_lines.specs.Parts.{items_text}
use Rattle.bench_problem.specs.Bench.{IsBench}
use Rattle.merge_cli.specs.Bench.{Benches, bench_text, is_yes, verdict_lines}
use Rattle.merge_cli.proofs.SameProblems.{equal_benches}

tie : (o r : Ordering) → o ≡ ordering_reverse r → is_gt o ≡ false → is_gt r ≡ false → o ≡ Equal
tie Less Less is a b = absurd (cc)
tie Less Equal is a b = absurd (cc)
tie Less Greater is a b = absurd (cc)
tie Equal r is a b = refl
tie Greater r is a b = absurd (cc)

module _ (dist : List Bool → List Bool → ℕ) (rank : List ℕ → List ℕ) (p : Profile) where
  -- all closest valuations have one rank
  one_rank : (v w : List Bool) → IsClosest dist rank p v → IsClosest dist rank p w → rank (full_of dist p v) ≡ rank (full_of dist p w)
  one_rank v w h i =
      exact_bytes _ _ (tie _ _ (nat_list_cmp_total.antisymm (rank (full_of dist p v)) (rank (full_of dist p w))) (h.best w i.model) (i.best v h.model))

  -- a query has one verdict
  one_verdict : (ask : Formula) (x y : Verdict) → IsVerdict dist rank p ask x → IsVerdict dist rank p ask y → is_yes x ≡ is_yes y
  one_verdict ask Yes Yes h i = refl
  one_verdict ask (No s) (No t) h i = refl
  one_verdict ask Yes (No t) h i = let yes = h t.model i.0 in let no = i.2 in absurd (cc)
  one_verdict ask (No s) Yes h i = let yes = i s.model h.0 in let no = h.2 in absurd (cc)

  same_verdicts : (query : ℕ) (asks : List Formula) (xs ys : List Verdict) → AllZip (IsVerdict dist rank p) asks xs → AllZip (IsVerdict dist rank p) asks ys
      → verdict_lines query xs ≡ verdict_lines query ys
  same_verdicts q [] [] [] h i = refl
  same_verdicts q [] (x ∷ xs) ys h i = absurd h
  same_verdicts q [] [] (y ∷ ys) h i = absurd i
  same_verdicts q (ask ∷ asks) [] ys h i = absurd h
  same_verdicts q (ask ∷ asks) (x ∷ xs) [] h i = absurd i
  same_verdicts q (ask ∷ asks) (x ∷ xs) (y ∷ ys) h i =
      ap (λ (b : Bool). VerdictLine q b ∷ verdict_lines (q + 1) xs) (one_verdict ask x y h.0 i.0)
      ∙ ap (λ (lines : List Item). VerdictLine q (is_yes y) ∷ lines) (same_verdicts (q + 1) asks xs ys h.1 i.1)

  -- right merges have one measure
  same_measures : (asks : List Formula) (best other : Shown) (measure second : List ℕ) (xs ys : List Verdict)
      → IsRightMerge dist rank p asks best measure xs → IsRightMerge dist rank p asks other second ys → measure ≡ second
  same_measures asks best other measure second xs ys h i =
      h.measured ∙ ap (λ (us : List ℕ). rank (repeated p.times us)) h.shown.vector
      ∙ one_rank best.model other.model h.closest i.closest
      ∙ ap (λ (us : List ℕ). rank (repeated p.times us)) (sym i.shown.vector) ∙ sym i.measured

told : (number : ℕ) (measure : List ℕ) (xs ys : List Verdict) → verdict_lines 0 xs ≡ verdict_lines 0 ys → bench_text number measure xs ≡ bench_text number measure ys
told n measure xs ys same =
    ap (λ (lines : List Item). line_of (codes "bench" ∷ decimal n ∷ []) ++ codes "\n" ++ items_text (MeasureLine measure ∷ lines)) same

one_text : (number : ℕ) (problem : Problem) (text other : List ℕ) → Benches number problem text → Benches number problem other → text ≡ other
one_text n p text other h i =
    let dist = dist_named Hamming p.atoms in
    let rank = rank_named Leximax in
    let measures : h.measure ≡ i.measure = same_measures dist rank (profile_of p) p.asks h.best i.best h.measure i.measure h.verdicts i.verdicts h.right i.right in
    let verdicts : verdict_lines 0 h.verdicts ≡ verdict_lines 0 i.verdicts = same_verdicts dist rank (profile_of p) 0 p.asks h.verdicts i.verdicts h.right.judged i.right.judged in
    h.spelled ∙ ap (λ (m : List ℕ). bench_text n m h.verdicts) measures ∙ told n i.measure h.verdicts i.verdicts verdicts ∙ sym i.spelled

pub one_bench : (number : ℕ) (problem second : Problem) (text other : List ℕ) → IsBench number problem → IsBench number second
    → Benches number problem text → Benches number second other → text ≡ other
one_bench n p q text other is same h i =
    one_text n q text other (subst (λ (r : Problem). Benches n r text) (equal_benches n p q is same) h) i
