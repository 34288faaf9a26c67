use Rattle.std.proofs.Common.{◌≡◌, ◌==◌, ◌+◌, ◌<◌, List, ◌++◌, ◌∷◌, [], Bool, length, map, ap, sym, ◌∙◌, arith, refl, length-set}
use Rattle.std.specs.List.{range_with_len}
use Rattle.std.proofs.lemmas.List.{take_more_set}
use Rattle.std.proofs.lemmas.List.FromFn.{map-range_with_len_more}
use Rattle.bench_problem.specs.Draws.{number_below, drawn_bit}
use Rattle.bench_problem.proofs.DrawLaws.{draw_more, no_draws}
use Rattle.bench_problem.proofs.planted.values.Goals as goal

pub loop-place-init : goal.loop-place-init
loop-place-init c = (sym (no_draws c.args.draws.now), refl, refl)

pub loop-place-preserved : goal.loop-place-preserved
loop-place-preserved c =
    let s = c.args.draws.now in
    let k = c.loop-place.place in
    let values = c.loop-place.values in
    let drawn = draw_more s k _ _ c.loop-place.invariant.0 c.draw_bit.ensures.state in
    let bit : c.draw_bit.result ≡ drawn_bit s k = c.draw_bit.ensures.value ∙ ap (λ t. number_below t 2 == 1) drawn in
    let within : k < length values = omega (arith, c.loop-place.invariant.2) in
    let place : 0 + k ≡ k = omega arith in (
      drawn,
      take_more_set values k c.draw_bit.result within ∙ ap (λ (front : List Bool). front ++ c.draw_bit.result ∷ []) c.loop-place.invariant.1
          ∙ ap (λ b. map (drawn_bit s) (range_with_len 0 k) ++ b ∷ []) bit ∙ sym (map-range_with_len_more (drawn_bit s) 0 k k place),
      length-set values k c.draw_bit.result ∙ c.loop-place.invariant.2,
    )
