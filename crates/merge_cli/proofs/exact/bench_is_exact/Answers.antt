use Rattle.merge_cli.proofs.OneBench.{one_bench}
use Rattle.merge_cli.proofs.exact.bench_is_exact.Goals as goal

pub returns : goal.returns
returns _ = one_bench
