use Rattle.merge_model.specs.DistanceLaws.{xor_counts}
use Rattle.merge_model.proofs.distance.HammingDistance.between.Goals as goal

pub returns : goal.returns
returns c = xor_counts _ _ _ _ _ _ c.left.view_is c.right.view_is c.left.invariant.1 c.right.invariant.1 c.requires
