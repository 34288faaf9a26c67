-- What the names of distances and of aggregators stand for in main clauses.
use Rattle.std.specs.Prelude.{ℕ, List}
use Rattle.formulas.specs.declared.formula.Formula.{Formula}
use Rattle.merge_model.specs.declared.operator.AggregatorName.{AggregatorName}
use Rattle.merge_model.specs.declared.operator.AggregatorName.TheVariants.{Sum, Max, Leximax}
use Rattle.merge_model.specs.declared.operator.DistanceName.{DistanceName}
use Rattle.merge_model.specs.declared.operator.DistanceName.TheVariants.{Drastic, Hamming}
use Rattle.merge_model.specs.Merging.{Profile}
use Rattle.agent_copies.specs.Differences.{drastic_due, hamming_due}
use Rattle.aggregators.specs.Levels.{sum_due, max_due, leximax_due}
use Rattle.aggregators.specs.LevelValues.{sum_values, max_values, leximax_values}
use Rattle.merge_encoding.specs.MainDues.{DueCounter, DueLevels, MainDue, main_due}

-- the counter of a distance
abbrev pub counter_named : DistanceName → DueCounter
counter_named Drastic = drastic_due
counter_named Hamming = hamming_due

-- the levels of an aggregator
abbrev pub levels_named : AggregatorName → DueLevels
levels_named Sum = sum_due
levels_named Max = max_due
levels_named Leximax = leximax_due

-- the level values of a full vector whose entries are at most a greatest one
abbrev pub values_named : AggregatorName → List ℕ → ℕ → List ℕ
values_named Sum = sum_values
values_named Max = max_values
values_named Leximax = leximax_values

-- the main clauses that are due
unfoldable pub main_named : DistanceName → AggregatorName → Profile → List Formula → MainDue
main_named distance aggregator p asks = main_due (counter_named distance) (levels_named aggregator) p asks
