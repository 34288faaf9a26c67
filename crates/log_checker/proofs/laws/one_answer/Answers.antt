use Rattle.log_checker.proofs.Chains.{one_only}
use Rattle.log_checker.proofs.laws.one_answer.Goals as goal

pub returns : goal.returns
returns c = one_only
