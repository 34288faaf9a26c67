use Rattle.std.proofs.Common.{codes, ap, ◌∙◌, inl}
use Rattle.report_lines.specs.declared.kinds.Due.TheVariants as due
use Rattle.report_lines.specs.Places.{DueAt, Position}
use Rattle.report_text.specs.Front.{StandsAtFront, due_of}
use Rattle.report_text.proofs.FrontJudged.{asks_taken, at_due, moved}
use Rattle.report_text.proofs.front.Front.line.Goals as goal

pub returns-in-Atoms : goal.returns-in-Atoms
returns-in-Atoms c = λ p h.
    at_due p due.Atoms c.args.line.now (StandsAtFront c.problem_line.new.self) c.problem_line.result (ap (λ (r : Position). r.due) h.place ∙ ap due_of c.in-Atoms.is)
    (c.problem_line.ensures p h)

pub returns-in-Constraint : goal.returns-in-Constraint
returns-in-Constraint c = λ p h.
    at_due p due.Constraint c.args.line.now (StandsAtFront c.problem_line-in-Constraint.new.self) c.problem_line-in-Constraint.result (ap (λ (r : Position). r.due) h.place ∙ ap due_of c.in-Constraint.is)
    (c.problem_line-in-Constraint.ensures p h)

pub returns-in-FirstAgent : goal.returns-in-FirstAgent
returns-in-FirstAgent c = λ p h.
    at_due p due.FirstAgent c.args.line.now (StandsAtFront c.problem_line-in-FirstAgent.new.self) c.problem_line-in-FirstAgent.result (ap (λ (r : Position). r.due) h.place ∙ ap due_of c.in-FirstAgent.is)
    (c.problem_line-in-FirstAgent.ensures p h)

pub returns-in-Agents : goal.returns-in-Agents
returns-in-Agents c = λ p h.
    at_due p due.Agents c.args.line.now (StandsAtFront c.agent_or_ask.new.self) c.agent_or_ask.result (ap (λ (r : Position). r.due) h.place ∙ ap due_of c.in-Agents.is)
    (c.agent_or_ask.ensures p h)

pub returns-in-Asks : goal.returns-in-Asks
returns-in-Asks c = λ p h.
    let line = c.args.line.now in
    let call = c.problem_line-in-Asks in
    let first = asks_taken c.args.self.now.due line c.in-Asks.is c.requires in
    at_due p due.Asks line (StandsAtFront call.new.self) call.result (ap (λ (r : Position). r.due) h.place ∙ ap due_of c.in-Asks.is)
    (moved (codes "ask") (DueAt due.Asks p) p line (StandsAtFront call.new.self) call.result first (λ x d. inl d) (call.ensures p h))
