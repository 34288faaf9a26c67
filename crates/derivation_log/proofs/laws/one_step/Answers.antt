use Rattle.derivation_log.proofs.StepLaws.{one}
use Rattle.derivation_log.proofs.laws.one_step.Goals as goal

pub returns : goal.returns
returns c = one
