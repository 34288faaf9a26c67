use Rattle.std.proofs.Common.{ℕ, List, subst}
use Rattle.problem_reading.specs.Lines.{IsCanonicalNext}
use Rattle.problem_laws.proofs.NextLaws.{not_canonical}
use Rattle.report_lines.proofs.LineFacts.{not_true}
use Rattle.report_text.proofs.front.lines.ProblemLines.line.Goals as goal

pub returns-in-Err-Fault-clause-canonical : goal.returns-in-Err-Fault-clause-canonical
returns-in-Err-Fault-clause-canonical c =
    let line = c.args.line.now in
    let fault = rw c.in-Err-Fault.field-0-is at c.in-Err-Fault.ensures.stop in
    let none =
    subst (λ (lines : List (List ℕ)). IsCanonicalNext lines line → ⊥) c.self.view_is
    (not_canonical c.self.inside.reading line c.in-Err-Fault.field-0-0.kind fault.1) in
    (λ yes. absurd (not_true yes), λ next. absurd (none next))
