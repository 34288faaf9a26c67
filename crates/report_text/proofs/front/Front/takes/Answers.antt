use Rattle.std.proofs.Common.{rules, ◌≡◌, sym, ◌∙◌, ap}
use Rattle.report_lines.specs.Places.{Position}
use Rattle.report_text.specs.Front.{takes}
use Rattle.report_text.proofs.FrontJudged.{leaves}
use Rattle.report_text.proofs.front.Front.takes.Goals as goal

pub returns-else-eq-clause-only : goal.returns-else-eq-clause-only
returns-else-eq-clause-only c = λ none p h.
    let test : c.eq-else-eq.result ≡ takes c.args.self.now.due c.args.line.now = search rules in
    leaves c.args.self.now.due p c.args.line.now (ap (λ (r : Position). r.due) h.place) (sym test ∙ none)

pub returns-in-Asks-clause-only : goal.returns-in-Asks-clause-only
returns-in-Asks-clause-only c = λ none p h.
    let test : c.eq-in-Asks.result ≡ takes c.args.self.now.due c.args.line.now = search rules in
    leaves c.args.self.now.due p c.args.line.now (ap (λ (r : Position). r.due) h.place) (sym test ∙ none)
