use Rattle.std.proofs.Common.{arith}
use Rattle.formulas.proofs.NameViews.{plain_by_first}
use Rattle.formulas.proofs.names.is_plain_name.Goals as goal

pub returns-then-not-is_ascii_digit : goal.returns-then-not-is_ascii_digit
returns-then-not-is_ascii_digit c = grind (arith, plain_by_first c.args.bytes.now c.in-Some.first.now c.in-Some.ensures.value, c.is_word.ensures)

pub returns-else-not-is_ascii_digit : goal.returns-else-not-is_ascii_digit
returns-else-not-is_ascii_digit c = grind (arith, plain_by_first c.args.bytes.now c.in-Some.first.now c.in-Some.ensures.value)
