use Rattle.std.proofs.Common.{◌++◌, ap, ◌∙◌}
use Rattle.profile_text.proofs.Pieces.{left_step}
use Rattle.profile_text.proofs.lines.write_atoms.Goals as goal

pub loop-number-preserved : goal.loop-number-preserved
loop-number-preserved c =
    left_step c.args.atoms.now c.loop-number.number c.name.result.now c.loop-number.into.items c.write_bytes-in-loop-number.new.into.items _ _
    c.name.ensures c.loop-number.invariant c.in_ok-write_bytes-2.ensures.written
    (c.in_ok-write_bytes-3.ensures.written ∙ ap (λ t. c.write_bytes-in-loop-number.new.into.items ++ t) c.as_bytes.ensures.value)
