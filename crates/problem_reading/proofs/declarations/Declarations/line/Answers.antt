use Rattle.std.proofs.Common.{◌↔◌, IsTrue, subst}
use Rattle.problem_reading.specs.Canonical.{IsWritten}
use Rattle.problem_reading.specs.declared.said.Said.{Said}
use Rattle.problem_reading.specs.Views.{draft_of}
use Rattle.problem_reading.proofs.Fitted.{fits}
use Rattle.problem_reading.proofs.OneSaid.{one_said}
use Rattle.problem_reading.proofs.declarations.Declarations.line.Goals as goal

pub take_line-requires : goal.take_line-requires
take_line-requires c = fits (draft_of c.args.self.now) c.args.line.now c.in_ok-said.said c.in_ok-said.ensures.said

pub returns-clause-canonical : goal.returns-clause-canonical
returns-clause-canonical c = λ said says.
    let d = draft_of c.args.self.now in
    let line = c.args.line.now in
    subst (λ (what : Said). IsTrue c.in_ok-take_line.field-0 ↔ IsWritten d line what) (one_said d line c.in_ok-said.said said c.in_ok-said.ensures.said says)
    c.in_ok-take_line.ensures.written
