use Rattle.std.proofs.lemmas.Result.{IfOk-weaker}
use Rattle.report_lines.specs.Judged.{IsAccepted}
use Rattle.report_text.specs.Accepting.{IsBorneOutText}
use Rattle.report_text.proofs.AcceptingFacts.{end_ok, end_refused}
use Rattle.report_text.proofs.accepting.accept.Goals as goal

pub returns-clause-ok : goal.returns-clause-ok
returns-clause-ok c = end_ok c.args.bytes.now c.judge.result c.judge.ensures

pub returns-clause-borne_out : goal.returns-clause-borne_out
returns-clause-borne_out c =
    IfOk-weaker c.judge.result (IsAccepted c.args.bytes.now) (IsBorneOutText c.args.bytes.now) (c.accepted_has_parts.ensures c.args.bytes.now) (end_ok c.args.bytes.now c.judge.result c.judge.ensures)

pub returns-clause-refused : goal.returns-clause-refused
returns-clause-refused c = end_refused c.args.bytes.now c.judge.result c.judge.ensures
