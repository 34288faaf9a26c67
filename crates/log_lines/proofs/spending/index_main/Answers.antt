use Rattle.std.proofs.Common.{◌≡◌, ℕ, ◌<◌, length, take, ap, arith}
use Rattle.log_lines.proofs.News.{take_more}
use Rattle.log_lines.proofs.Indexed.{index_moved}
use Rattle.log_lines.proofs.spending.index_main.Goals as goal

pub add-requires-clause-index : goal.add-requires-clause-index
add-requires-clause-index c = (take c.loop-number.number c.args.known.now.list, c.loop-number.number, c.loop-number.invariant)

pub loop-number-preserved : goal.loop-number-preserved
loop-number-preserved c =
    let list = c.args.known.now.list in
    let k = c.loop-number.number in
    let lt : k < length list = (let t = c.loop-number-test.true in let m = c.requires in omega arith) in
    index_moved c.add.new.self c.args.known.now _ _ _ _ (take_more list k lt) (c.add.ensures (take k list) c.loop-number.invariant) (omega arith)

pub returns : goal.returns
returns c =
    let same : c.loop-number.number ≡ c.args.main = (let t = c.loop-number-test.false in let n = c.loop-number.auto.number-end in omega arith) in
    index_moved c.loop-number.index c.args.known.now _ _ _ _ (ap (λ (k : ℕ). take k c.args.known.now.list) same) c.loop-number.invariant (omega arith)
