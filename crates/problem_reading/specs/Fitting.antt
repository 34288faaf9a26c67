-- What must hold of what a line says, for a reading to take it in.
use Rattle.std.specs.Prelude.{◌≡◌, ◌+◌, ◌≤◌, true, false, length}
use Rattle.formulas.specs.Formulas.{nodes_of}
use Rattle.formulas.specs.Limits.{node_limit, agent_limit, times_limit, ask_limit}
use Rattle.formulas.specs.Names.{is_name}
use Rattle.formulas.specs.declared.formula.Formula.{Formula}
use Rattle.merge_model.specs.Limits.{IsWithin}
use Rattle.merge_model.specs.declared.agent.Agent.{Agent}
use Rattle.problem_reading.specs.declared.said.Said.{Said}
use Rattle.problem_reading.specs.declared.said.Said.TheVariants.{Nothing, Names, Condition, Belief, Query}
use Rattle.problem_reading.specs.Drafts.{Draft, constraint_size, other_size, total_times}
use Rattle.problem_reading.specs.Faults.{is_agent}

pub record FitsCondition (d : Draft) (f : Formula) : Type 0 where
  pub nodes : nodes_of f + other_size d.agents d.asks ≤ node_limit
  pub within : IsWithin (length d.atoms) f

pub record FitsBelief (d : Draft) (agent : Agent) : Type 0 where
  pub room : length d.agents + 1 ≤ agent_limit
  pub times : total_times d.agents + agent.times ≤ times_limit
  pub nodes : constraint_size d.constraint + other_size d.agents d.asks + nodes_of agent.base ≤ node_limit
  pub within : IsWithin (length d.atoms) agent.base
  pub counts : 1 ≤ agent.times
  pub legal : is_name agent.name ≡ true
  pub absent : is_agent d agent.name ≡ false

pub record FitsQuery (d : Draft) (f : Formula) : Type 0 where
  pub room : length d.asks + 1 ≤ ask_limit
  pub nodes : constraint_size d.constraint + other_size d.agents d.asks + nodes_of f ≤ node_limit
  pub within : IsWithin (length d.atoms) f

abbrev pub Fits : Draft → Said → Type 0
Fits d Nothing = Unit {0}
Fits d (Names atoms) = length d.atoms ≤ length atoms
Fits d (Condition f) = FitsCondition d f
Fits d (Belief agent) = FitsBelief d agent
Fits d (Query f) = FitsQuery d f
