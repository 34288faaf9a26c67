use Rattle.merge_encoding.proofs.Better.{assumed_before}
use Rattle.merge_encoding.proofs.laws.better_law.Goals as goal

pub returns : goal.returns
returns c = assumed_before
