use Rattle.merge_model.specs.DistanceLaws.{drastic_equal, drastic_other}
use Rattle.merge_model.proofs.distance.DrasticDistance.between.Goals as goal

pub returns-then-left-right : goal.returns-then-left-right
returns-then-left-right c = drastic_equal _ _ _ _ _ _ c.left.view_is c.right.view_is c.if-left-right.true c.requires

pub returns-else-left-right : goal.returns-else-left-right
returns-else-left-right c = drastic_other _ _ _ _ _ _ c.left.view_is c.right.view_is c.left.invariant.1 c.right.invariant.1 c.if-left-right.false c.requires
