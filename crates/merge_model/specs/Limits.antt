-- When the parts of a problem keep its limits, and the limit of merging by enumeration.
use Rattle.std.specs.Prelude.{◌≡◌, ℕ, ◌+◌, ◌≤◌, List, length, map, sum_by, All, true}
use Rattle.formulas.specs.declared.formula.Formula.{Formula}
use Rattle.formulas.specs.Formulas.{nodes_of, depth_of, width_of}
use Rattle.formulas.specs.Limits.{atom_limit, depth_limit, node_limit, agent_limit, times_limit, ask_limit}
use Rattle.formulas.specs.Names.{AtomList, are_names, names_of}
use Rattle.merge_model.specs.declared.agent.Agent.{Agent}

-- the most atoms of a problem that is merged by going through all valuations
abbrev pub enumeration_limit : ℕ
enumeration_limit = 8

-- a formula over n atoms that is not too deep
pub record IsWithin (n : ℕ) (formula : Formula) : Type 0 where
  pub width : width_of formula ≤ n
  pub depth : depth_of formula ≤ depth_limit

pub record KeepsLimits (atoms : AtomList) (constraint : Formula) (agents : List Agent) (asks : List Formula) : Type 0 where
  pub some_atom : 1 ≤ length atoms
  pub few_atoms : length atoms ≤ atom_limit
  pub some_agent : 1 ≤ length agents
  pub few_agents : length agents ≤ agent_limit
  pub few_asks : length asks ≤ ask_limit
  pub each_counts : All (λ agent. 1 ≤ agent.times) agents
  pub few_times : sum_by (λ agent. agent.times) agents ≤ times_limit
  pub few_nodes : nodes_of constraint + sum_by (λ agent. nodes_of agent.base) agents + sum_by nodes_of asks ≤ node_limit
  pub constraint_within : IsWithin (length atoms) constraint
  pub bases_within : All (λ agent. IsWithin (length atoms) agent.base) agents
  pub asks_within : All (λ ask. IsWithin (length atoms) ask) asks
  pub atom_names : are_names (names_of atoms) ≡ true
  pub agent_names : are_names (map (λ agent. agent.name) agents) ≡ true
