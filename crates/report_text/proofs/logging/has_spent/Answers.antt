use Rattle.std.proofs.Common.{◌≡◌, ◌<◌, ◌≤◌, length, take, drop, arith}
use Rattle.std.proofs.lemmas.Result.{IfOk-weaker}
use Rattle.log_lines.specs.Spending.{noted_of, ends_new, is_spent}
use Rattle.log_lines.proofs.News.{length-steps}
use Rattle.report_text.proofs.LoggingFacts.{too_few, enough}
use Rattle.report_text.proofs.logging.has_spent.Goals as goal

pub returns-then-kinds-conflicts : goal.returns-then-kinds-conflicts
returns-then-kinds-conflicts c =
    let list = c.args.known.now.list in
    let steps = noted_of c.args.kinds.now (drop c.args.main list) in
    let size = length-steps c.args.kinds.now list c.args.main c.requires in
    let few : length steps < c.args.conflicts = (let t = c.if-kinds-conflicts.true in omega arith) in
    too_few (take c.args.main list) steps c.args.conflicts few

pub returns : goal.returns
returns c =
    let list = c.args.known.now.list in
    let steps = noted_of c.args.kinds.now (drop c.args.main list) in
    let size = length-steps c.args.kinds.now list c.args.main c.requires in
    let many : c.args.conflicts ≤ length steps = (let t = c.if-kinds-conflicts.false in omega arith) in
    IfOk-weaker c.are_last_new.result (λ yes. yes ≡ ends_new c.args.conflicts (take c.args.main list) steps) (λ yes. yes ≡ is_spent c.args.conflicts (take c.args.main list) steps)
    (λ yes h. enough (take c.args.main list) steps c.args.conflicts yes many h) c.are_last_new.ensures
