use Rattle.report_text.proofs.FrontSteps.{no_end, spelled}
use Rattle.report_text.proofs.front.lines.ProblemLines.finish.Goals as goal

pub returns-in-Ok : goal.returns-in-Ok
returns-in-Ok c = λ d declares atom agent. spelled c.self.inside.reading c.args.self d c.in-Ok.problem c.in-Ok.ensures.problem c.self.view_is declares

pub returns-in-Err : goal.returns-in-Err
returns-in-Err c = λ d declares atom agent. no_end c.self.inside.reading c.args.self d c.in-Err.field-0 c.in-Err.ensures.stop c.self.view_is declares atom agent
