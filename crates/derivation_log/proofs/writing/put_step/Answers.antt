use Rattle.std.proofs.Common.{rules}
use Rattle.derivation_log.proofs.Narrow.{put_text}
use Rattle.derivation_log.proofs.writing.put_step.Goals as goal

pub returns : goal.returns
returns c = put_text c.args.number c.args.step.now c.args.text.now.items c.write_bytes.new.into.items c.write_number.new.into.items c.put_kind.new.text.items c.put_literals.new.text.items c.write_number-2.new.into.items c.write_number-3.new.into.items c.put_links.new.text.items c.write_bytes-2.new.into.items
    c.lits.result.now c.as_slice.result.now c.lits.ensures.value c.as_slice.ensures
    (search rules) (search rules) (search rules) (search rules) (search rules) (search rules) (search rules) (search rules)
