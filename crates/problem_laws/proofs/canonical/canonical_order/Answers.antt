use Rattle.problem_laws.proofs.Ordered.{in_order}
use Rattle.problem_laws.proofs.canonical.canonical_order.Goals as goal

pub returns : goal.returns
returns c = λ place p order h. in_order c.args.reading.now place p order h
