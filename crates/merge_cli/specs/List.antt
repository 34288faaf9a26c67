-- What `list` answers to a problem.
use Rattle.std.specs.Prelude.{◌≡◌, ℕ, Bool, List, codes}
use Rattle.merge_model.specs.declared.operator.AggregatorName.{AggregatorName}
use Rattle.merge_model.specs.declared.operator.DistanceName.{DistanceName}
use Rattle.merge_model.specs.declared.problem.Problem.{Problem}
use Rattle.merge_model.specs.Answers.{dist_named, rank_named, profile_of}
use Rattle.merge_model.specs.Merging.{LacksModel}
use Rattle.closest_listing.specs.Lists.{AreFirst, list_text}
use Rattle.report_lines.specs.Parts.{Asked}
use Rattle.merge_cli.specs.declared.commands.Command.{Command}
use Rattle.merge_cli.specs.declared.commands.Command.TheVariants as variants
use Rattle.merge_cli.specs.declared.place.Place.{Place}
use Rattle.merge_cli.specs.Commands.{usual_conflicts}
use Rattle.merge_cli.specs.Merge.{ReportsLack, ReportsSpent}
use Rattle.merge_cli.specs.Places.{IsPlaceOf, above}

-- what a list asks for
pub record Listing : Type 0 where
  pub distance : DistanceName
  pub aggregator : AggregatorName
  pub count : ℕ
  pub place : Place

-- the list that asks for this
abbrev pub list_of : Listing → Command
list_of asked = variants.List asked.distance asked.aggregator asked.count asked.place

-- what the reports of a list say was asked: it has the usual conflicts
abbrev pub usual_asked : DistanceName → AggregatorName → Asked
usual_asked distance aggregator = record { distance = distance; aggregator = aggregator; conflicts = usual_conflicts }

abbrev pub reported_by : Listing → Asked
reported_by asked = usual_asked asked.distance asked.aggregator

-- the place of a list has another number of truth values than the problem has atoms
abbrev pub bad_after_text : List ℕ
bad_after_text = codes "refused: bad after\n"

-- the text is the list of the first closest valuations above the place, at most as many as were asked for; its last line says
-- whether another is above them. No formula lacks a model
pub record Lists (asked : Listing) (problem : Problem) (text : List ℕ) : Type 0 where
  pub valuations : List (List Bool)
  pub more : Bool
  pub first : AreFirst (dist_named asked.distance problem.atoms) (rank_named asked.aggregator) (profile_of problem) (above asked.place) asked.count valuations more
  pub spelled : text ≡ list_text valuations more
  pub consistent : LacksModel (profile_of problem) → ⊥

-- the answers to a problem
pub data ListAnswers (asked : Listing) (problem : Problem) (status : ℕ) (text : List ℕ) : Type 0 where
  bad_after : (IsPlaceOf problem asked.place → ⊥) → status ≡ 1 → text ≡ bad_after_text → ListAnswers asked problem status text
  listed : IsPlaceOf problem asked.place → status ≡ 0 → Lists asked problem text → ListAnswers asked problem status text
  lacking : IsPlaceOf problem asked.place → status ≡ 8 → ReportsLack (reported_by asked) problem text → ListAnswers asked problem status text
  spent : IsPlaceOf problem asked.place → status ≡ 3 → ReportsSpent (reported_by asked) problem text → ListAnswers asked problem status text
