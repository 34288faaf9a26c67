use Rattle.std.proofs.Common.{rules, ◌≡◌, codes, inl, inr}
use Rattle.report_lines.specs.declared.kinds.Due.TheVariants as due
use Rattle.report_lines.specs.Places.{DueAt, first_word}
use Rattle.report_text.specs.Front.{StandsAtFront}
use Rattle.report_text.proofs.FrontJudged.{ask_taken, moved}
use Rattle.report_text.proofs.front.Front.agent_or_ask.Goals as goal

pub returns-then-eq : goal.returns-then-eq
returns-then-eq c = λ p h.
    let line = c.args.line.now in
    let first : first_word line ≡ codes "agent" = search rules in
    moved (codes "agent") (DueAt due.Agents p) p line (StandsAtFront c.problem_line.new.self) c.problem_line.result first (λ x d. inl d) (c.problem_line.ensures p h)

pub returns-else-eq : goal.returns-else-eq
returns-else-eq c = λ p h.
    let line = c.args.line.now in
    let other : first_word line ≡ codes "agent" → ⊥ = search rules in
    moved (codes "ask") (DueAt due.Agents p) p line (StandsAtFront c.problem_line-else-eq.new.self) c.problem_line-else-eq.result (ask_taken _ line c.requires.due c.requires.taken other)
    (λ x d. inr (inl d)) (c.problem_line-else-eq.ensures p h)
