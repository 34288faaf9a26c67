use Rattle.std.proofs.lemmas.Result.{err_from_is_err_and}
use Rattle.problem_reading.proofs.Progress.{stops_here}
use Rattle.problem_reading.proofs.text.read_problem.Goals as goal

pub returns-in_err-line-clause-stop : goal.returns-in_err-line-clause-stop
returns-in_err-line-clause-stop c =
    let p = err_from_is_err_and c.from_residual.result c.from_residual.ensures.1 in
    rw (p.1, p.2)
    (stops_here c.args.bytes.now c.loop-rest.rest.now c.split_line.result.1.now c.split_line.result.0.now c.loop-rest.reading _ c.loop-rest.invariant c.split_line.ensures.lines c.in_err-line.ensures.stop)
