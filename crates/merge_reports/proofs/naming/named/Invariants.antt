use Rattle.std.proofs.Common.{◌≡◌, ◌++◌, map, drop}
use Rattle.merge_reports.specs.Proofs.{entry_of, agent_proofs}
use Rattle.merge_reports.proofs.naming.named.Given as goal

abbrev pub invariant-loop-agent : goal.invariant-loop-agent
invariant-loop-agent l = record {
  entries : l.agents.items ++ map entry_of (drop l.agent l.named-items) ≡ map entry_of l.named-items;
  proofs : l.proofs.items ++ agent_proofs l.agent (drop l.agent l.named-items) ≡ l.initial.proofs.items ++ agent_proofs 0 l.named-items;
}
