use Rattle.std.proofs.Common.{ℕ, ◌-◌, ◌<◌, ◌≤◌, length, drop, take, sym, ap, ◌∙◌, arith}
use Rattle.log_lines.specs.Spending.{noted_of}
use Rattle.log_lines.proofs.News.{length-steps, some_at, new_from, new_step, new_stop, new_end}
use Rattle.log_lines.proofs.spending.are_last_new.Goals as goal

pub loop-step-init : goal.loop-step-init
loop-step-init c =
    let list = c.args.known.now.list in
    let ns = noted_of c.args.kinds.now (drop c.args.main list) in
    let size = length-steps c.args.kinds.now list c.args.main c.requires.known in
    record { value = ap (λ (n : ℕ). new_from (take c.args.main list) ns (n - c.args.count)) (sym size); index = c.in_ok-index.ensures }

pub returns-then-not-add_new : goal.returns-then-not-add_new
returns-then-not-add_new c =
    let list = c.args.known.now.list in
    let ns = noted_of c.args.kinds.now (drop c.args.main list) in
    let size = length-steps c.args.kinds.now list c.args.main c.requires.known in
    let here : c.loop-step.step < length ns = (let t = c.loop-step-test.true in omega arith) in
    let s = some_at ns c.loop-step.step here in
    sym (new_stop (take c.args.main list) ns c.loop-step.step s.0 s.1 (sym (c.add_new.ensures.exact s.0 s.1) ∙ c.if-not-add_new.true)) ∙ c.loop-step.invariant.value

pub loop-step-preserved : goal.loop-step-preserved
loop-step-preserved c =
    let list = c.args.known.now.list in
    let ns = noted_of c.args.kinds.now (drop c.args.main list) in
    let size = length-steps c.args.kinds.now list c.args.main c.requires.known in
    let here : c.loop-step.step < length ns = (let t = c.loop-step-test.true in omega arith) in
    let s = some_at ns c.loop-step.step here in
    record {
      value = new_step (take c.args.main list) ns c.loop-step.step s.0 s.1 (sym (c.add_new.ensures.exact s.0 s.1) ∙ c.if-not-add_new.false) ∙ c.loop-step.invariant.value;
      index = c.add_new.ensures.joined c.if-not-add_new.false;
    }

pub returns : goal.returns
returns c =
    let list = c.args.known.now.list in
    let ns = noted_of c.args.kinds.now (drop c.args.main list) in
    let size = length-steps c.args.kinds.now list c.args.main c.requires.known in
    let past : length ns ≤ c.loop-step.step = (let t = c.loop-step-test.false in omega arith) in
    sym (new_end (take c.args.main list) ns c.loop-step.step past) ∙ c.loop-step.invariant.value
