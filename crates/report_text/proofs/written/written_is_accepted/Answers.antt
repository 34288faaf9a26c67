use Rattle.report_text.proofs.WrittenWhole.{accepted_law, spent_law}
use Rattle.report_text.proofs.written.written_is_accepted.Goals as goal

pub returns-clause-accepted : goal.returns-clause-accepted
returns-clause-accepted c = accepted_law

pub returns-clause-spent : goal.returns-clause-spent
returns-clause-spent c = spent_law
