-- What a search comes to.
use Rattle.std.proofs.Common.{◌≡◌, ℕ, List, sym, subst}
use Rattle.derivation_log.specs.Logs.{Log}
use Rattle.solver_laws.specs.Ready.{IsLog}
use Rattle.merge_model.specs.declared.answer.Answer.{Answer}
use Rattle.merge_model.specs.declared.problem.Problem.{Problem}
use Rattle.distance_search.specs.Setting.{IsOver}
use Rattle.distance_search.specs.Laws.{Laws}
use Rattle.report_lines.specs.declared.report.Proof.{Proof}
use Rattle.report_lines.specs.Accepted.{Operator}
use Rattle.merge_reports.specs.Found.{IsSmall}
use Rattle.merge_reports.specs.Outcomes.{setting_by, IsEnd, IsOutcome}

-- from what its parts say
pub outcome_of : (op : Operator) → ((p : Problem) → Laws (setting_by op p)) → (conflicts : ℕ) (given problem : Problem) (mid log : Log) (answer : Answer) (proofs : List Proof) → problem ≡ given → log ≡ mid → IsOver (setting_by op given) mid → IsLog mid → IsSmall log → IsEnd (setting_by op given) mid conflicts answer proofs →
    IsOutcome op conflicts problem log answer proofs
outcome_of op laws conflicts given problem mid log answer proofs same grown over follows small end = record {
  laws = laws problem;
  over = subst (λ (p : Problem). IsOver (setting_by op p) log) (sym same) (subst (λ (l : Log). IsOver (setting_by op given) l) (sym grown) over);
  follows = subst IsLog (sym grown) follows;
  small = small;
  end = subst (λ (p : Problem). IsEnd (setting_by op p) log conflicts answer proofs) (sym same) (subst (λ (l : Log). IsEnd (setting_by op given) l conflicts answer proofs) (sym grown) end);
}
