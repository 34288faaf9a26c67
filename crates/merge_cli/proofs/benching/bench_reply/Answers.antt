use Rattle.merge_cli.proofs.benching.bench_reply.Goals as goal

pub reported-requires-clause-problem : goal.reported-requires-clause-problem
reported-requires-clause-problem c = rw c.in_ok-report.ensures.problem c.in_ok-problem.ensures

pub invariant_of-report : goal.invariant_of-report
invariant_of-report c = record { limits = c.in_ok-report.report.problem.limits }
