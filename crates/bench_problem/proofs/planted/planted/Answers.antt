use Rattle.std.proofs.Common.{◌≡◌, ◌≤◌, ◌+◌, ◌-◌, ◌*◌, ap, sym, ◌∙◌, arith}
use Rattle.formulas.specs.declared.formula.Formula.TheVariants.{And}
use Rattle.bench_problem.specs.Draws.{state_after}
use Rattle.bench_problem.specs.Planted.{atom_count, planted, planted_disjunction, planted_values, disjunction_of}
use Rattle.bench_problem.proofs.DrawLaws.{state_after-add}
use Rattle.bench_problem.proofs.PlantedLaws.{planted_first, planted_more}
use Rattle.bench_problem.proofs.planted.planted.Goals as goal

pub loop-init : goal.loop-init
loop-init c =
    let s = c.args.draws.now in
    let same : disjunction_of c.values-values.result c.values-values.new.draws ≡ planted_disjunction s 0 =
    ap (λ values. disjunction_of values c.values-values.new.draws) c.values-values.ensures.values ∙ ap (disjunction_of (planted_values s)) c.values-values.ensures.state in (
      c.in_ok-formula.ensures.formula ∙ same ∙ sym (planted_first s),
      c.in_ok-formula.ensures.state ∙ ap (λ t. state_after t 5) c.values-values.ensures.state ∙ state_after-add s atom_count 5,
    )

pub loop-preserved : goal.loop-preserved
loop-preserved c =
    let s = c.args.draws.now in
    let k = c.loop.counter in
    let next : c.in_ok-next.next ≡ planted_disjunction s k =
    c.in_ok-next.ensures.formula ∙ ap (λ values. disjunction_of values c.loop.draws) c.values-values.ensures.values ∙ ap (disjunction_of (planted_values s)) c.loop.invariant.1 in
    let some : 1 ≤ k = omega arith in
    let places : atom_count + 5 * k + 5 ≡ atom_count + 5 * (k + 1) = omega arith in
    let last : k ≡ k + 1 - 1 = omega arith in (
      c.in_ok-formula-2.ensures ∙ ap (λ f. And f c.in_ok-next.next) c.loop.invariant.0 ∙ ap (And (planted s (k - 1))) next ∙ planted_more s k some ∙ ap (planted s) last,
      c.in_ok-next.ensures.state ∙ ap (λ t. state_after t 5) c.loop.invariant.1 ∙ state_after-add s (atom_count + 5 * k) 5 ∙ ap (state_after s) places,
    )
