-- What the names of a distance and of an aggregator mean for a report.
use Rattle.merge_model.specs.declared.operator.AggregatorName.{AggregatorName}
use Rattle.merge_model.specs.declared.operator.DistanceName.{DistanceName}
use Rattle.merge_model.specs.Answers.{dist_named, rank_named, most_named}
use Rattle.formulas.specs.Names.{AtomList}
use Rattle.merge_encoding.specs.Named.{counter_named, levels_named, values_named}
use Rattle.report_lines.specs.Accepted.{Operator}

-- over these atoms
abbrev pub operator_named : DistanceName → AggregatorName → AtomList → Operator
operator_named distance aggregator atoms = record {
  dist = dist_named distance atoms;
  most = most_named distance atoms;
  due = counter_named distance;
  rank = rank_named aggregator;
  levels_of = values_named aggregator;
  levels_due = levels_named aggregator;
}
