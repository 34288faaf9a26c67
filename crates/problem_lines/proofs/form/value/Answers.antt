use Rattle.std.proofs.Common.{◌+◌, ◌-◌, ◌*◌, min, drop, drop-cons, add-one, suc, slice_index, sym, ap, ◌∙◌, arith}
use Rattle.problem_lines.specs.Numerals.{times_cap, value_after}
use Rattle.problem_lines.proofs.Digits.{value_step}
use Rattle.problem_lines.proofs.form.value.Goals as goal

pub loop-byte-preserved : goal.loop-byte-preserved
loop-byte-preserved c =
    let items = c.as_bytes-byte-items.result.now in
    let index = c.loop-byte.byte-index in
    let number = c.loop-byte.number in
    let next = drop-cons items index 0 c.loop-byte-test.true in
    let digit = c.with_digit-number.ensures.number in (
      omega (arith, digit),
      ap (λ n. min (value_after n (drop (index + 1) items)) times_cap) digit ∙ ap (λ n. min (value_after (min (number * 10 + (slice_index items index - 48)) times_cap) (drop n items)) times_cap) (add-one index)
          ∙ value_step number (slice_index items index) (drop (suc index) items) ∙ ap (λ w. min (value_after number w) times_cap) (sym next) ∙ c.loop-byte.invariant.1,
    )
