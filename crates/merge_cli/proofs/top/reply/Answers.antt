use Rattle.merge_cli.specs.declared.commands.Command.TheVariants.{Check}
use Rattle.merge_cli.proofs.Laws.{one_command}
use Rattle.merge_cli.proofs.Replies.{answered_by_command}
use Rattle.merge_cli.proofs.top.reply.Goals as goal

pub returns-in-Some-clause-ok : goal.returns-in-Some-clause-ok
returns-in-Some-clause-ok g c =
    answered_by_command c.args.words.now c.in-Some.command _ _ _ _ c.command_reply.result c.in-Some.ensures.some c.command_reply.ensures.ok

pub returns-in-Some-clause-undecided : goal.returns-in-Some-clause-undecided
returns-in-Some-clause-undecided g c = λ is of. c.command_reply.ensures.undecided is (one_command c.args.words.now c.in-Some.command Check c.in-Some.ensures.some of)
