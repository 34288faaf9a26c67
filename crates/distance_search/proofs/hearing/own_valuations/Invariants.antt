use Rattle.std.proofs.Common.{◌≡◌, map, take}
use Rattle.clause_store.specs.Truth.{values_of}
use Rattle.agent_copies.specs.declared.copy.AgentCopy.{AgentCopy}
use Rattle.agent_copies.specs.Counter.{truth_of}
use Rattle.distance_search.proofs.hearing.own_valuations.Given as goal

abbrev pub invariant-loop-agent : goal.invariant-loop-agent
invariant-loop-agent l = l.own.items ≡ map (λ (c : AgentCopy). truth_of (values_of l.assignment) c.own) (take l.agent l.frame.copies)
