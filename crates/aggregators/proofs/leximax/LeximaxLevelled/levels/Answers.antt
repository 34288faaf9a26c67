use Rattle.std.proofs.Common.{◌≡◌, length, List, ℕ, refl, sym, ap, ◌∙◌, subst, arith, All}
use Rattle.clause_store.proofs.Grows.{grew_none}
use Rattle.clause_store.proofs.Outcomes.{on_err}
use Rattle.totalizer.specs.Counter.{AllVarsWithin}
use Rattle.aggregators.specs.Levels.{top_of, leximax_due}
use Rattle.aggregators.specs.Repeats.{some_repeated, length_repeated, sized_repeated, within_repeated}
use Rattle.aggregators.proofs.Steps.{top_first}
use Rattle.aggregators.proofs.leximax.LeximaxLevelled.levels.Goals as goal

pub returns-in_err-parts-clause-err : goal.returns-in_err-parts-clause-err
returns-in_err-parts-clause-err c =
    on_err c.from_residual.result (grew_none c.args.clauses.now c.args.clauses.now (leximax_due c.args.clauses.now.vars c.args.aways.now c.args.times.now).clauses refl (omega arith))

pub add_levels-requires-clause-some : goal.add_levels-requires-clause-some
add_levels-requires-clause-some c =
    let items = c.deref.ensures.value ∙ c.in_ok-parts.ensures in
    omega (arith, ap length items, some_repeated c.args.clauses.now.vars c.args.aways.now c.args.times.now c.requires.counters)

pub add_levels-requires-clause-few : goal.add_levels-requires-clause-few
add_levels-requires-clause-few c =
    let items = c.deref.ensures.value ∙ c.in_ok-parts.ensures in
    omega (arith, ap length items, length_repeated c.args.times.now c.args.aways.now c.requires.counters.lengths, c.requires.counters.few)

pub add_levels-requires-clause-sized : goal.add_levels-requires-clause-sized
add_levels-requires-clause-sized c =
    let items = c.deref.ensures.value ∙ c.in_ok-parts.ensures in
    let top = top_first c.args.aways.now c.index-aways-0.result c.requires.counters.some c.index-aways-0.is ∙ sym c.len-top.ensures.len in
    subst (λ n. All (λ (part : List ℕ). length part ≡ n) c.deref.result.now) top
    (subst (λ ps. All (λ (part : List ℕ). length part ≡ top_of c.args.aways.now) ps) (sym items) (sized_repeated (top_of c.args.aways.now) c.args.times.now c.args.aways.now c.requires.counters.sized))

pub add_levels-requires-clause-within : goal.add_levels-requires-clause-within
add_levels-requires-clause-within c =
    let items = c.deref.ensures.value ∙ c.in_ok-parts.ensures in
    subst (λ ps. AllVarsWithin c.args.clauses.now.vars ps) (sym items) (within_repeated c.args.clauses.now.vars c.args.times.now c.args.aways.now c.requires.counters.within)
