use Rattle.std.proofs.Common.{arith}
use Rattle.totalizer.proofs.Steps.{invariant_fresh}
use Rattle.aggregators.proofs.Steps.{top_first}
use Rattle.aggregators.proofs.max.MaxLevelled.levels.Goals as goal

pub from_outputs-requires-clause-few : goal.from_outputs-requires-clause-few
from_outputs-requires-clause-few c =
    let top = top_first c.args.aways.now c.index-aways-0.result c.requires.counters.some c.index-aways-0.is in
    let fresh = invariant_fresh c.args.clauses.now.vars c.len-top.result c.in_ok-outputs.outputs.items c.in_ok-outputs.ensures.outputs c.len-top.ensures.some (omega (arith, top, c.requires.counters.small, c.len-top.ensures.len)) in
    fresh.1

pub from_outputs-requires-clause-numbered : goal.from_outputs-requires-clause-numbered
from_outputs-requires-clause-numbered c =
    let top = top_first c.args.aways.now c.index-aways-0.result c.requires.counters.some c.index-aways-0.is in
    let fresh = invariant_fresh c.args.clauses.now.vars c.len-top.result c.in_ok-outputs.outputs.items c.in_ok-outputs.ensures.outputs c.len-top.ensures.some (omega (arith, top, c.requires.counters.small, c.len-top.ensures.len)) in
    fresh.2
