use Rattle.std.proofs.Common.{[]}
use Rattle.std.proofs.lemmas.Result.{err_from_is_err_and}
use Rattle.report_text.proofs.AcceptingFacts.{whole_stop}
use Rattle.report_text.proofs.accepting.judge.Goals as goal

pub piece-requires : goal.piece-requires
piece-requires c = ([], c.new-progress.ensures)

pub returns-in_err-piece : goal.returns-in_err-piece
returns-in_err-piece c =
    let p = err_from_is_err_and c.from_residual.result c.from_residual.ensures.1 in
    rw (p.1, p.2) (whole_stop c.args.bytes.now c.in_err-piece.field-0.0 (c.in_err-piece.ensures [] c.new-progress.ensures))

pub returns : goal.returns
returns c = c.end.ensures c.args.bytes.now (c.in_ok-piece.ensures [] c.new-progress.ensures)
