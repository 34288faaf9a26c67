use Rattle.std.proofs.Common.{◌↔◌, List, ℕ, IsTrue, subst}
use Rattle.problem_reading.specs.Lines.{IsCanonicalNext}
use Rattle.problem_reading.specs.Views.{draft_of}
use Rattle.problem_reading.proofs.ReadingSteps.{read_more, canonical_next}
use Rattle.problem_reading.proofs.reading.Reading.line.Goals as goal

pub invariant_of-self-in-Ok : goal.invariant_of-self-in-Ok
invariant_of-self-in-Ok c =
    let r = c.self.inside in
    read_more r.past.lines c.with-self-inside.result.lines c.args.line.now (draft_of r.declared) (draft_of c.line.new.self) r.count
    c.self.invariant c.in-Ok.ensures.read c.with-self-inside.ensures

pub returns-in-Ok-clause-canonical : goal.returns-in-Ok-clause-canonical
returns-in-Ok-clause-canonical c =
    let r = c.self.inside in
    let line = c.args.line.now in
    subst (λ (lines : List (List ℕ)). IsTrue c.in-Ok.written ↔ IsCanonicalNext lines line) c.self.view_is
    (canonical_next r.past.lines line (draft_of r.declared) (draft_of c.line.new.self) c.in-Ok.written c.self.invariant.declares c.in-Ok.ensures.read c.in-Ok.ensures.canonical)

pub returns-in-Ok-clause-faultless : goal.returns-in-Ok-clause-faultless
returns-in-Ok-clause-faultless c =
    let r = c.self.inside in
    let d = draft_of c.line.new.self in
    let has = read_more r.past.lines c.with-self-inside.result.lines c.args.line.now (draft_of r.declared) d r.count
    c.self.invariant c.in-Ok.ensures.read c.with-self-inside.ensures in
    (d, has.declares)
