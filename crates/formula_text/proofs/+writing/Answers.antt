use Rattle.std.proofs.Common.{arith}
use Rattle.formula_text.specs.CanonicalText.{formula_text}
use Rattle.report_words.proofs.Growth.{part_of_first, stopped}
use Rattle.formula_text.proofs.Growth.{part_of_open, part_of_mark, part_of_right}
use Rattle.formula_text.proofs.+writing.Goals as goal

pub write_negated-returns-in_err-write_bytes : goal.write_negated-returns-in_err-write_bytes
write_negated-returns-in_err-write_bytes t c = stopped _ _ _ _ c.from_residual.ensures.0 (part_of_first _ _ _ _ c.in_err-write_bytes.ensures.written)

pub write_joined-write_formula-requires-2 : goal.write_joined-write_formula-requires-2
write_joined-write_formula-requires-2 t c = (omega (arith, c.decreases), c.requires.right)

pub write_joined-returns-in_err-write_bytes : goal.write_joined-returns-in_err-write_bytes
write_joined-returns-in_err-write_bytes t c = stopped _ _ _ _ c.from_residual.ensures.0 (part_of_open _ _ (formula_text c.args.atoms.now c.args.left.now) c.args.mark.now (formula_text c.args.atoms.now c.args.right.now) c.in_err-write_bytes.ensures.written)

pub write_joined-returns-in_err-write_bytes-2 : goal.write_joined-returns-in_err-write_bytes-2
write_joined-returns-in_err-write_bytes-2 t c =
    stopped _ _ _ _ c.from_residual-in_err-write_bytes-2.ensures.0
    (part_of_mark _ _ _ _ (formula_text c.args.atoms.now c.args.left.now) c.args.mark.now (formula_text c.args.atoms.now c.args.right.now) c.in_ok-write_bytes.ensures.written c.in_ok-write_formula.ensures c.in_err-write_bytes-2.ensures.written)

pub write_joined-returns-in_err-write_formula-2 : goal.write_joined-returns-in_err-write_formula-2
write_joined-returns-in_err-write_formula-2 t c =
    stopped _ _ _ _ c.from_residual-in_err-write_formula-2.ensures.0
    (part_of_right _ _ _ _ _ (formula_text c.args.atoms.now c.args.left.now) c.args.mark.now (formula_text c.args.atoms.now c.args.right.now) c.in_ok-write_bytes.ensures.written c.in_ok-write_formula.ensures c.in_ok-write_bytes-2.ensures.written c.in_err-write_formula-2.ensures)
