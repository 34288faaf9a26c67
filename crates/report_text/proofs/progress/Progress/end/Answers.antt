use Rattle.report_text.proofs.AcceptingFacts.{end_over, end_open}
use Rattle.report_text.proofs.progress.Progress.end.Goals as goal

pub returns-in-Some : goal.returns-in-Some
returns-in-Some c = λ text h. end_over text c.args.self.now h c.in-Some.kind (c.in-Some.ensures h.place h.stands)

pub returns-in-None : goal.returns-in-None
returns-in-None c = λ text h. rw c.stopped.ensures (end_open text c.args.self.now h (c.in-None.ensures h.place h.stands))
