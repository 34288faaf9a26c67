-- The words by which distances and aggregators are named.
use Rattle.std.specs.Prelude.{ℕ, List, codes}
use Rattle.merge_model.specs.declared.operator.DistanceName.{DistanceName}
use Rattle.merge_model.specs.declared.operator.DistanceName.TheVariants.{Drastic, Hamming}
use Rattle.merge_model.specs.declared.operator.AggregatorName.{AggregatorName}
use Rattle.merge_model.specs.declared.operator.AggregatorName.TheVariants.{Sum, Max, Leximax}

abbrev pub distance_word : DistanceName → List ℕ
distance_word Drastic = codes "drastic"
distance_word Hamming = codes "hamming"

abbrev pub aggregator_word : AggregatorName → List ℕ
aggregator_word Sum = codes "sum"
aggregator_word Max = codes "max"
aggregator_word Leximax = codes "leximax"
