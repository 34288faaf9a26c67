use Rattle.std.proofs.Common.{◌≢◌, ◌∙◌, List, sym, subst}
use Rattle.std.specs.Prelude.{AllPairs}
use Rattle.clause_store.specs.declared.lit.Lit.{Lit}
use Rattle.clause_store.specs.Lits.{InRange}
use Rattle.merge_encoding.specs.Assumptions.{assumed_in}
use Rattle.merge_encoding.specs.Claims.{said}
use Rattle.distance_search.proofs.Told.{heard_refuted, heard_found, heard_spent, found_over}
use Rattle.distance_search.proofs.hearing.hear.Goals as goal

pub returns-in-Refuted-clause-answer : goal.returns-in-Refuted-clause-answer
returns-in-Refuted-clause-answer c =
    heard_refuted c.args.engine.now.log c.ask.new.self.log c.deref.result.now (assumed_in c.args.frame.now (said c.args.claim.now)) c.args.budget c.in_ok-number.field-0 c.in-Refuted.number
    (c.deref.ensures.value ∙ c.in_ok-assumed.ensures.lits) c.in-Refuted.is c.in_ok-number.ensures.answered c.in_ok-number.ensures.refuted

pub returns-clause-answer : goal.returns-clause-answer
returns-clause-answer c =
    heard_found c.args.frame.now c.args.engine.now.log c.ask.new.self.log c.deref.result.now (assumed_in c.args.frame.now (said c.args.claim.now)) c.args.budget c.in_ok-number.field-0 c.in-Found.assignment c.in_ok-witness-in-Found.witness
    (c.deref.ensures.value ∙ c.in_ok-assumed.ensures.lits) c.in-Found.is c.in_ok-number.ensures.answered c.in_ok-witness-in-Found.ensures

pub returns-in-GaveUp-clause-answer : goal.returns-in-GaveUp-clause-answer
returns-in-GaveUp-clause-answer c =
    heard_spent c.args.engine.now.log c.ask.new.self.log c.deref.result.now c.args.budget c.in_ok-number.field-0 c.in-GaveUp.number c.in-GaveUp.is c.in_ok-number.ensures.answered c.in_ok-number.ensures.enough

pub ask-requires-clause-in_range : goal.ask-requires-clause-in_range
ask-requires-clause-in_range c =
    subst (λ (ls : List Lit). InRange c.args.engine.now.log.vars ls) (sym (c.deref.ensures.value ∙ c.in_ok-assumed.ensures.lits)) (c.in_ok-assumed.ensures.in_range c.args.engine.now.log.vars c.requires.over)

pub ask-requires-clause-distinct : goal.ask-requires-clause-distinct
ask-requires-clause-distinct c =
    subst (λ (ls : List Lit). AllPairs (λ (k l : Lit). k.var ≢ l.var) ls) (sym (c.deref.ensures.value ∙ c.in_ok-assumed.ensures.lits)) (c.in_ok-assumed.ensures.distinct c.requires.distinct)

pub read-requires : goal.read-requires
read-requires c =
    found_over c.args.engine.now.log c.ask.new.self.log c.deref.result.now c.args.budget c.in_ok-number.field-0 c.in-Found.assignment c.args.frame.now c.in-Found.is c.in_ok-number.ensures.answered c.requires.over
