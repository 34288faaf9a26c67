use Rattle.std.proofs.Common.{◌≡◌, ◌++◌, drop}
use Rattle.merge_reports.specs.Proofs.{least_proofs}
use Rattle.merge_reports.proofs.proving.push_least.Given as goal

abbrev pub invariant-loop-level : goal.invariant-loop-level
invariant-loop-level l = l.proofs.items ++ least_proofs l.level (drop l.level l.steps) ≡ l.initial.proofs.items ++ least_proofs 0 l.steps
