use Rattle.std.proofs.Common.{◌≡◌, ◌<◌, ◌≤◌, length, arith, ◌∙◌}
use Rattle.merge_encoding.specs.Assumptions.{assumed_in}
use Rattle.merge_encoding.specs.Claims.{said}
use Rattle.report_text.proofs.LoggingFacts.{refutes_is}
use Rattle.report_text.proofs.logging.shows.Goals as goal

pub returns : goal.returns
returns c =
    let list = c.args.known.now.list in
    let lits = assumed_in c.args.frame.now (said c.args.claim.now) in
    let same : c.deref.result.now ≡ lits = c.deref.ensures.value ∙ c.in_ok-lits.ensures.lits in
    let low : c.args.main ≤ c.args.number = omega (arith, c.if-number-main.false) in
    let high : c.args.number < length list = omega (arith, c.len.ensures.len, c.if-len-number.false) in
    refutes_is c.args.main c.args.number list c.clause.result.now lits c.refutes.result low high c.clause.ensures.value (rw (← same) c.refutes.ensures)
