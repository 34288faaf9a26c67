use Rattle.std.proofs.Common.{◌⊎◌, inl, inr, List}
use Rattle.merge_model.specs.declared.answer.Answer.{Answer}
use Rattle.merge_model.specs.declared.answer.Answer.TheVariants.{Merged, Inconsistent, GaveUp}
use Rattle.merge_model.specs.declared.problem.Problem.{Problem}
use Rattle.merge_model.specs.Answers.{profile_of, IsRight, IsNamed}
use Rattle.log_checker.specs.Laws.{RefuteLaw}
use Rattle.formulas.specs.declared.formula.Formula.{Formula}
use Rattle.merge_model.specs.Merging.{Profile}
use Rattle.merge_encoding.specs.MainDues.{IsMain, IsLimited, main_due}
use Rattle.merge_encoding.specs.Claims.{Assertion, IsTrueThat}
use Rattle.merge_encoding.specs.Assumptions.{NoneSatisfies, assumed}
use Rattle.merge_encoding.proofs.Same.{IsProperOf, proper_in}
use Rattle.report_lines.proofs.Truths.{shared_size}
use Rattle.report_lines.specs.ClaimsDue.{claims_due}
use Rattle.report_lines.specs.Accepted.{Operator, operator, Parts, main_of, values_in, IsWitnessed, AreAccepted}
use Rattle.report_lines.proofs.Refuted.{AreOut, all_out}
use Rattle.report_lines.proofs.Truths.{AreLaws, merged_right, named_right}
use Rattle.merge_encoding.proofs.Limits.{is_limited}
use Rattle.report_lines.proofs.accepted.accepted_law.Goals as goal

module _ (op : Operator) (laws : AreLaws op) (problem : Problem) (m : IsMain op.dist (op.most (profile_of problem).atoms) op.levels_of (profile_of problem) problem.asks (main_of op problem))
    (true_there : (claim : Assertion) → IsProperOf (main_of op problem) (profile_of problem).atoms claim → NoneSatisfies (main_of op problem) (assumed (main_of op problem) claim) → IsTrueThat op.dist (op.most (profile_of problem).atoms) op.levels_of (profile_of problem) problem.asks claim) where
  answer_true : (answer : Answer) → IsWitnessed op (profile_of problem) problem.asks answer → AreOut (main_of op problem) (claims_due (values_in op (profile_of problem)) answer) → IsRight op.dist op.rank problem answer ⊎ IsNamed problem answer
  answer_true (Merged best measure verdicts) w out = inl (merged_right op laws (profile_of problem) problem.asks (is_limited problem) (main_of op problem) m true_there best measure verdicts w out)
  answer_true (Inconsistent constraint agents) w out = inr (named_right op laws (profile_of problem) problem.asks (is_limited problem) (main_of op problem) m true_there constraint agents w out)
  answer_true GaveUp w out = absurd w

accepted_true : (op : Operator) → AreLaws op → RefuteLaw → ((p : Profile) (asks : List Formula) → IsLimited p asks → IsMain op.dist (op.most p.atoms) op.levels_of p asks (main_due op.due op.levels_due p asks)) →
    ((p : Profile) (asks : List Formula) (claim : Assertion) → IsLimited p asks → IsProperOf (main_due op.due op.levels_due p asks) p.atoms claim → NoneSatisfies (main_due op.due op.levels_due p asks) (assumed (main_due op.due op.levels_due p asks) claim) → IsTrueThat op.dist (op.most p.atoms) op.levels_of p asks claim) →
    (parts : Parts) → AreAccepted op parts → IsRight op.dist op.rank parts.problem parts.answer ⊎ IsNamed parts.problem parts.answer
accepted_true op laws refuted frame true_there parts h =
    let p = profile_of parts.problem in
    let asks = parts.problem.asks in
    let lim = is_limited parts.problem in
    let main = main_of op parts.problem in
    answer_true op laws parts.problem (frame p asks lim) (λ claim proper none. true_there p asks claim lim proper none) parts.answer h.witnessed
    (all_out refuted main main.vars parts.steps (claims_due (values_in op p) parts.answer) parts.shown h.sound h.shown)

pub returns : goal.returns
returns g c =
    let d = c.args.distance.now in
    let a = c.args.aggregator.now in
    accepted_true (operator (g.D.Distance.dist d) (g.D.Distance.most d) (g.D.Counted.due d) (g.A.Aggregator.rank a) (g.A.Levelled.levels_of a) (g.A.Levelled.levels_due a))
    (record { within = g.met.D.Distance.within d; in_order = g.met.A.Levelled.in_order a }) c.log_law.ensures.refuted c.frame_law.ensures.means (λ p asks claim lim proper none. (c.claim_law.ensures.exact p asks claim lim (proper_in (main_due (g.D.Counted.due d) (g.A.Levelled.levels_due a) p asks) p.atoms claim (shared_size (c.frame_law.ensures.means p asks lim)) proper)).1 none)
