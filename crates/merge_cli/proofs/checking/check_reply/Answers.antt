use Rattle.std.specs.Prelude.{[]}
use Rattle.merge_cli.proofs.Replies.{accepted_reply, undecided_reply, wrong_line_reply}
use Rattle.merge_cli.proofs.checking.check_reply.Goals as goal

pub returns-in_ok-says-in-Ok-clause-ok : goal.returns-in_ok-says-in-Ok-clause-ok
returns-in_ok-says-in-Ok-clause-ok g c =
    accepted_reply _ _ _ _ _ _ c.in-Ok.kind _ c.in-Ok.ensures.judged c.line_of_kind.ensures c.in_ok-says-in-Ok.ensures

pub returns-in_ok-wrong_reply-in-Err-Refused-clause-ok : goal.returns-in_ok-wrong_reply-in-Err-Refused-clause-ok
returns-in_ok-wrong_reply-in-Err-Refused-clause-ok g c =
    wrong_line_reply _ _ _ _ _ _ c.in-Err-Refused.field-0 c.in-Err-Refused.refused c.in-Err-Refused.ensures.judged c.in-Err-Refused.field-0-is c.in_ok-wrong_reply-in-Err-Refused.ensures

pub returns-in-Err-Failed-clause-undecided : goal.returns-in-Err-Failed-clause-undecided
returns-in-Err-Failed-clause-undecided g c = λ is. undecided_reply _ _ _ _ 0 [] c.in-Err-Failed.field-0 c.in-Err-Failed.ensures.judged c.in-Err-Failed.field-0-is
