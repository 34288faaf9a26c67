use Rattle.std.proofs.Common.{arith, ◌∙◌, List, Bool, length, ap, Option, false}
use Rattle.std.specs.Prelude.{unwrap_or}
use Rattle.std.proofs.lemmas.List.{length-replicate}
use Rattle.watch_lists.specs.Trace.{value_of}
use Rattle.clause_store.specs.declared.lit.Lit.{Lit}
use Rattle.cdcl_core.proofs.Finds.{values_step}
use Rattle.cdcl_core.proofs.choice.values.Goals as goal

pub loop-index-init : goal.loop-index-init
loop-index-init c = record { size = ap (λ (bs : List Bool). length bs) c.in_ok-made.ensures ∙ length-replicate c.vars.result _ ∙ c.vars.ensures; each = λ v lt. absurd (omega arith) }

pub set-requires-clause-within : goal.set-requires-clause-within
set-requires-clause-within c = omega (arith, c.loop-index.invariant.size, c.loop-index-test.true, c.vars-index-end.ensures)

pub loop-index-preserved : goal.loop-index-preserved
loop-index-preserved c = let r = values_step c.args.trail.now c.loop-index.made c.set.new.self c.loop-index.index c.unwrap_or.result c.loop-index.invariant.size (omega (arith, c.loop-index-test.true, c.vars-index-end.ensures)) c.loop-index.invariant.each c.set.ensures (c.unwrap_or.ensures ∙ ap (λ (o : Option Bool). unwrap_or o false) (c.value.ensures ∙ ap (λ (l : Lit). value_of c.args.trail.now.entries l) c.positive-lit.ensures)) in record { size = r.0; each = r.1 }

pub returns : goal.returns
returns c = record { size = c.loop-index.invariant.size; each = λ v lt. c.loop-index.invariant.each v (omega (arith, c.loop-index-test.false, c.vars-index-end.ensures)) }
