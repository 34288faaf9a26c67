use Rattle.std.proofs.Common.{◌≡◌, ◌++◌, map, drop}
use Rattle.merge_model.specs.Merging.{models_of}
use Rattle.merge_model.proofs.plain.tables.base_models.Given as goal

abbrev pub invariant-loop-agent : goal.invariant-loop-agent
invariant-loop-agent l = l.tables.items ++ map (models_of l.atoms) (map (λ agent. agent.base) (drop l.agent-index l.agents)) ≡ map (models_of l.atoms) (map (λ agent. agent.base) l.agents)
