use Rattle.merge_cli.proofs.Benched.{answered_unread}
use Rattle.merge_cli.proofs.top.command_reply.Goals as goal

pub returns-in_ok-bench_reply-in-Bench-clause-ok : goal.returns-in_ok-bench_reply-in-Bench-clause-ok
returns-in_ok-bench_reply-in-Bench-clause-ok g c = answered_unread c.args.command _ _ _ _ _ c.in-Bench.is c.in_ok-bench_reply-in-Bench.ensures
