use Rattle.merge_cli.proofs.Replies.{answered_by_merge, answered_by_list}
use Rattle.merge_cli.proofs.answering.problem_reply.Goals as goal

pub returns-in-Merge : goal.returns-in-Merge
returns-in-Merge c = answered_by_merge c.args.command _ _ _ c.args.problem c.merge_reply.result c.in-Merge.is c.merge_reply.ensures

pub returns-in-List : goal.returns-in-List
returns-in-List c = answered_by_list c.args.command _ _ _ _ c.args.problem c.list_reply.result c.in-List.is c.list_reply.ensures
