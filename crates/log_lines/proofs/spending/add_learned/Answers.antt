use Rattle.std.proofs.Common.{◌+◌, sym, ◌∙◌, arith}
use Rattle.log_lines.specs.Spending.{earlier}
use Rattle.log_lines.proofs.News.{earlier_more, earlier_same}
use Rattle.log_lines.proofs.Indexed.{index_moved}
use Rattle.log_lines.proofs.spending.add_learned.Goals as goal

pub returns-then-not-is_kept : goal.returns-then-not-is_kept
returns-then-not-is_kept c =
    index_moved c.args.index.now c.args.known.now _ _ _ _
    (earlier_same c.args.kinds.now c.args.known.now.list c.args.main c.args.step c.kind_at.result c.requires.known c.requires.step c.kind_at.ensures (sym c.is_kept.ensures ∙ c.if-not-is_kept.true))
    c.requires.index (omega arith)

pub add-requires-clause-index : goal.add-requires-clause-index
add-requires-clause-index c = (earlier c.args.main c.args.kinds.now c.args.known.now.list c.args.step, c.args.main + c.args.step, c.requires.index)

pub returns : goal.returns
returns c =
    index_moved c.add.new.self c.args.known.now _ _ _ _
    (earlier_more c.args.kinds.now c.args.known.now.list c.args.main c.args.step c.kind_at.result c.requires.known c.requires.step c.kind_at.ensures (sym c.is_kept.ensures ∙ c.if-not-is_kept.false))
    (c.add.ensures (earlier c.args.main c.args.kinds.now c.args.known.now.list c.args.step) c.requires.index) (omega arith)
