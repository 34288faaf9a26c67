use Rattle.merge_encoding.specs.Claims.{said}
use Rattle.merge_encoding.proofs.Counts.{assumed_apart}
use Rattle.merge_encoding.proofs.Ranges.{assumed_over}
use Rattle.merge_encoding.proofs.assuming.assumptions.Goals as goal

pub returns-clause-in_range : goal.returns-clause-in_range
returns-clause-in_range c = λ vars over. assumed_over vars c.args.frame.now (said c.args.claim.now) c.requires over

pub returns-clause-distinct : goal.returns-clause-distinct
returns-clause-distinct c = λ distinct. assumed_apart c.args.frame.now distinct (said c.args.claim.now) c.requires
