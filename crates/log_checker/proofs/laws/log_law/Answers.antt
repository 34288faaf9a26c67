use Rattle.derivation_log.proofs.Sound.{log_sound, log_refutes}
use Rattle.log_checker.proofs.laws.log_law.Goals as goal

pub returns-clause-log : goal.returns-clause-log
returns-clause-log c = log_sound

pub returns-clause-refuted : goal.returns-clause-refuted
returns-clause-refuted c = log_refutes
