use Rattle.std.proofs.Common.{◌≡◌, ◌+◌, ◌*◌, ◌++◌, ◌∷◌, [], map, ap, sym, ◌∙◌, arith}
use Rattle.std.specs.List.{range_with_len}
use Rattle.std.proofs.lemmas.List.FromFn.{map-range_with_len_more}
use Rattle.bench_problem.specs.Draws.{state_after}
use Rattle.bench_problem.specs.Planted.{ask_of}
use Rattle.bench_problem.specs.Bench.{ask_at}
use Rattle.bench_problem.proofs.DrawLaws.{state_after-add, no_draws}
use Rattle.bench_problem.proofs.bench.asks.Goals as goal

pub loop-init : goal.loop-init
loop-init c = (c.new-asks.ensures.items, sym (no_draws c.args.draws.now))

pub loop-preserved : goal.loop-preserved
loop-preserved c =
    let s = c.args.draws.now in
    let k = c.loop.counter in
    let ask : c.in_ok-ask.field-0 ≡ ask_at s k = c.in_ok-ask.ensures.formula ∙ ap ask_of c.loop.invariant.1 in
    let place : 0 + k ≡ k = omega arith in
    let places : 4 * k + 4 ≡ 4 * (k + 1) = omega arith in (
      c.in_ok-push.ensures.items ∙ ap (λ asks. asks ++ c.in_ok-ask.field-0 ∷ []) c.loop.invariant.0
          ∙ ap (λ a. map (ask_at s) (range_with_len 0 k) ++ a ∷ []) ask ∙ sym (map-range_with_len_more (ask_at s) 0 k k place),
      c.in_ok-ask.ensures.state ∙ ap (λ t. state_after t 4) c.loop.invariant.1 ∙ state_after-add s (4 * k) 4 ∙ ap (state_after s) places,
    )
