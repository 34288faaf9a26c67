use Rattle.std.proofs.Common.{rules, ◌≡◌, refl}
use Rattle.problem_reading.specs.Lines.{IsCanonicalNext}
use Rattle.report_lines.specs.Items.{ProblemLine}
use Rattle.report_lines.specs.Judged.{absent, faulty}
use Rattle.report_lines.specs.Places.{first_word}
use Rattle.report_text.proofs.FrontJudged.{no_problem}
use Rattle.report_text.proofs.FrontSteps.{fails, leads}
use Rattle.report_text.proofs.front.Front.problem_line.Goals as goal

pub returns-then-ne : goal.returns-then-ne
returns-then-ne c = λ p h.
    let other : first_word c.args.line.now ≡ c.args.word.now → ⊥ = search rules in
    absent (no_problem c.args.word.now c.args.line.now other) refl

pub returns-then-not-branch : goal.returns-then-not-branch
returns-then-not-branch c = λ p h.
    let line = c.args.line.now in
    let first : first_word line ≡ c.args.word.now = search rules in
    let none : IsCanonicalNext c.args.self.now.lines line → ⊥ = search rules in
    faulty (ProblemLine line) (line, refl, first) refl (fails c.args.self.now p line h none) refl

pub returns : goal.returns
returns c = λ p h.
    let f = c.args.self.now in
    let line = c.args.line.now in
    let first : first_word line ≡ c.args.word.now = search rules in
    let canonical : IsCanonicalNext f.lines line = search rules in
    leads f c.args.next c.line.new.self p c.args.word.now line h c.requires.place c.requires.word first canonical (search rules)
