use Rattle.std.proofs.Common.{◌≡◌, ◌++◌, map, drop}
use Rattle.merge_model.specs.Plain.{first_of}
use Rattle.merge_model.proofs.plain.named.firsts.Given as goal

abbrev pub invariant-loop-models : goal.invariant-loop-models
invariant-loop-models l = l.firsts.items ++ map first_of (drop l.models-index l.tables) ≡ map first_of l.tables
