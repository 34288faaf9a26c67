-- What a search comes to, for what its distance and its aggregator mean.
use Rattle.std.specs.Prelude.{◌≡◌, ℕ, List, []}
use Rattle.derivation_log.specs.Logs.{Log}
use Rattle.solver_laws.specs.Ready.{IsLog}
use Rattle.merge_model.specs.declared.answer.Answer.{Answer}
use Rattle.merge_model.specs.declared.answer.Answer.TheVariants.{Merged, Inconsistent, GaveUp}
use Rattle.merge_model.specs.declared.problem.Problem.{Problem}
use Rattle.distance_search.specs.Setting.{Setting, setting_of, IsOver}
use Rattle.distance_search.specs.Laws.{Laws}
use Rattle.report_lines.specs.declared.report.Proof.{Proof}
use Rattle.report_lines.specs.Accepted.{Operator}
use Rattle.merge_reports.specs.Found.{IsFound, HasSpent, IsSmall}

abbrev pub setting_by : Operator → Problem → Setting
setting_by op problem = setting_of op.dist op.most op.due op.rank op.levels_of op.levels_due problem

-- an answer with its proofs, or a question spent its budget
abbrev pub IsEnd : Setting → Log → ℕ → Answer → List Proof → Type 0
IsEnd s log budget (Merged best measure verdicts) proofs = IsFound s log (Merged best measure verdicts) proofs
IsEnd s log budget (Inconsistent constraint agents) proofs = IsFound s log (Inconsistent constraint agents) proofs
IsEnd s log budget GaveUp proofs = (proofs ≡ []) × HasSpent log budget

-- the log is one over the problem's main clauses, and ends with an answer or with a spent budget
pub record IsOutcome (op : Operator) (conflicts : ℕ) (problem : Problem) (log : Log) (answer : Answer) (proofs : List Proof) : Type 0 where
  pub laws : Laws (setting_by op problem)
  pub over : IsOver (setting_by op problem) log
  pub follows : IsLog log
  pub small : IsSmall log
  pub end : IsEnd (setting_by op problem) log conflicts answer proofs
