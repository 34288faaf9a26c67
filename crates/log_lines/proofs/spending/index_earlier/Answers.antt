use Rattle.std.proofs.Common.{◌≡◌, ℕ, ap, sym, arith}
use Rattle.log_lines.specs.Spending.{earlier}
use Rattle.log_lines.proofs.News.{earlier_none}
use Rattle.log_lines.proofs.Indexed.{index_moved}
use Rattle.log_lines.proofs.spending.index_earlier.Goals as goal

pub loop-step-init : goal.loop-step-init
loop-step-init c =
    index_moved c.in_ok-index.index c.args.known.now _ _ _ _ (sym (earlier_none c.args.main c.args.kinds.now c.args.known.now.list)) c.in_ok-index.ensures (omega arith)

pub returns : goal.returns
returns c =
    let same : c.loop-step.step ≡ c.args.steps = (let t = c.loop-step-test.false in let n = c.loop-step.auto.step-end in omega arith) in
    index_moved c.loop-step.index c.args.known.now _ _ _ _ (ap (λ (k : ℕ). earlier c.args.main c.args.kinds.now c.args.known.now.list k) same) c.loop-step.invariant (omega arith)
