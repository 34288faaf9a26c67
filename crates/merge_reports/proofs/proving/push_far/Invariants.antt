use Rattle.std.proofs.Common.{◌≡◌, ◌++◌, drop}
use Rattle.merge_reports.specs.Proofs.{far_proofs}
use Rattle.merge_reports.proofs.proving.push_far.Given as goal

abbrev pub invariant-loop-agent : goal.invariant-loop-agent
invariant-loop-agent l = l.proofs.items ++ far_proofs l.shown l.agent (drop l.agent l.steps) ≡ l.initial.proofs.items ++ far_proofs l.shown 0 l.steps
