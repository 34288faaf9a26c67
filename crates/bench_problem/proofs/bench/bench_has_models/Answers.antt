use Rattle.bench_problem.specs.Bench.{draws_of}
use Rattle.bench_problem.specs.Draws.{state_after}
use Rattle.bench_problem.proofs.BenchLaws.{has_models}
use Rattle.bench_problem.proofs.bench.bench_has_models.Goals as goal

pub returns : goal.returns
returns c = λ bench problem is. has_models bench (state_after bench (draws_of 16)) problem is.atoms is.constraint is.agents
