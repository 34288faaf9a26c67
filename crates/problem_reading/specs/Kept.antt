-- What a reading keeps of what it has read.
use Rattle.std.specs.Prelude.{◌≡◌, ℕ, ◌+◌, ◌≤◌, true, List, Option, length, map, unwrap_or, All}
use Rattle.formulas.specs.Limits.{node_limit, agent_limit, times_limit, ask_limit}
use Rattle.formulas.specs.Names.{AtomList, are_names}
use Rattle.formulas.specs.declared.formula.Formula.{Formula}
use Rattle.formulas.specs.declared.formula.Formula as formula
use Rattle.merge_model.specs.Limits.{IsWithin}
use Rattle.merge_model.specs.declared.agent.Agent.{Agent}
use Rattle.problem_reading.specs.Drafts.{constraint_size, other_size, total_times}

pub record IsKept (atoms : AtomList) (constraint : Option Formula) (agents : List Agent) (asks : List Formula) (own others repeats : ℕ) : Type 0 where
  pub own_nodes : own ≡ constraint_size constraint
  pub other_nodes : others ≡ other_size agents asks
  pub times : repeats ≡ total_times agents
  pub few_nodes : own + others ≤ node_limit
  pub few_times : repeats ≤ times_limit
  pub few_agents : length agents ≤ agent_limit
  pub few_asks : length asks ≤ ask_limit
  pub each_counts : All (λ agent. 1 ≤ agent.times) agents
  pub constraint_within : IsWithin (length atoms) (unwrap_or constraint formula.Top)
  pub bases_within : All (λ agent. IsWithin (length atoms) agent.base) agents
  pub asks_within : All (λ ask. IsWithin (length atoms) ask) asks
  pub agent_names : are_names (map (λ agent. agent.name) agents) ≡ true
