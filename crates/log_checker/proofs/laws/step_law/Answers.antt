use Rattle.derivation_log.proofs.Sound.{step_sound}
use Rattle.log_checker.proofs.laws.step_law.Goals as goal

pub returns : goal.returns
returns c = step_sound
