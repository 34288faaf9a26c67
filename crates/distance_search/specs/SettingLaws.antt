-- Each setting of a problem keeps the laws.
use Rattle.std.proofs.Common.{◌≡◌, ◌≢◌, ℕ, ◌≤◌, Bool, List, [], length, All, sym, ◌∙◌, subst, arith}
use Rattle.std.specs.List.{AllZip}
use Rattle.std.specs.Cmp.Lexicographic.{slice_cmp}
use Rattle.std.specs.Ordering.{nat_cmp}
use Rattle.formulas.specs.Limits.{valuation_limit}
use Rattle.ranks.specs.Limits.{distance_limit}
use Rattle.ranks.specs.Ranks.{IsNoWorse}
use Rattle.merge_model.specs.declared.problem.Problem.{Problem}
use Rattle.merge_model.specs.Answers.{profile_of}
use Rattle.agent_copies.proofs.Copies.{Counts}
use Rattle.merge_encoding.specs.MainDues.{DueCounter, DueLevels}
use Rattle.merge_encoding.proofs.OneAssignment.{Levels, main_is}
use Rattle.merge_encoding.proofs.FrameLaws.{frame_over, frame_distinct}
use Rattle.merge_encoding.proofs.Limits.{is_limited}
use Rattle.distance_search.specs.Setting.{setting_of}
use Rattle.distance_search.specs.Laws.{Laws}

pub laws_of : (dist : List Bool → List Bool → ℕ) (most : ℕ → ℕ) (due : DueCounter) (rank : List ℕ → List ℕ) (values_of : List ℕ → ℕ → List ℕ) (levels_due : DueLevels) → Counts dist most due → Levels values_of levels_due →
    ((n : ℕ) → 1 ≤ n → n ≤ valuation_limit → most n ≤ distance_limit) →
    ((v w : List Bool) → length v ≡ length w → 1 ≤ length v → length v ≤ valuation_limit → dist v w ≤ most (length v)) →
    ((u w : List ℕ) → All (λ k. k ≤ distance_limit) w → u ≢ [] → AllZip (λ j k. j ≤ k) u w → IsNoWorse rank u w) →
    ((top : ℕ) (u w : List ℕ) → All (λ k. k ≤ top) u → All (λ k. k ≤ top) w → length u ≡ length w → slice_cmp nat_cmp (values_of u top) (values_of w top) ≡ slice_cmp nat_cmp (rank u) (rank w)) →
    (problem : Problem) → Laws (setting_of dist most due rank values_of levels_due problem)
laws_of dist most due rank values_of levels_due counts levels bounded within monotone order problem =
    let limited = is_limited problem in
    let n = length problem.atoms in
    record {
      limited = limited;
      small = bounded n limited.some_atom limited.few_atoms;
      main = main_is dist most due values_of levels_due (record { counts = counts; levels = levels; bounded = bounded }) (profile_of problem) problem.asks limited;
      over = frame_over dist most due values_of levels_due (record { counts = counts; levels = levels; bounded = bounded }) (profile_of problem) problem.asks limited;
      distinct = frame_distinct dist most due values_of levels_due (record { counts = counts; levels = levels; bounded = bounded }) (profile_of problem) problem.asks limited;
      within = λ v w ev ew. subst (λ m. dist v w ≤ most m) ev (within v w (ev ∙ sym ew) (omega (arith, ev, limited.some_atom)) (omega (arith, ev, limited.few_atoms)));
      monotone = monotone;
      order = order (most n);
    }
