-- Laws on what a solver learns.
use Rattle.std.specs.Prelude.{◌≢◌, ◌<◌, ◌^◌, length, AllPairs}
use Rattle.derivation_log.specs.Logs.{Log, learned_of}
use Rattle.solver_laws.specs.Ready.{IsLog}

-- over V variables there are fewer learned clauses than 3^V
abbrev pub FewLaw : Type 0
FewLaw = (g : Log) → IsLog g → length (learned_of g.steps) < 3 ^ g.vars

-- no learned clause is learned again
abbrev pub DistinctLaw : Type 0
DistinctLaw = (g : Log) → IsLog g → AllPairs (λ c d. c ≢ d) (learned_of g.steps)
