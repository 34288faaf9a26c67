use Rattle.derivation_log.proofs.Narrow.{back}
use Rattle.derivation_log.proofs.laws.read_back.Goals as goal

pub returns : goal.returns
returns c = back
