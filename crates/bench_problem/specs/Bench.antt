-- The bench problems: a constraint, the bases of the agents and the queries, all drawn in this order
-- from the number of the problem.
use Rattle.std.specs.Prelude.{◌≡◌, ℕ, ◌+◌, ◌-◌, ◌*◌, List, ◌++◌, map, codes, decimal}
use Rattle.std.specs.List.{range_with_len}
use Rattle.formulas.specs.declared.formula.Formula.{Formula}
use Rattle.merge_model.specs.declared.agent.Agent.{Agent}
use Rattle.merge_model.specs.declared.problem.Problem.{Problem}
use Rattle.bench_problem.specs.Draws.{state_after}
use Rattle.bench_problem.specs.Planted.{atom_count, planted, ask_of}

-- how many agents there are
abbrev pub agent_count : ℕ
agent_count = 8

-- how many queries there are
abbrev pub ask_count : ℕ
ask_count = 4

-- how many disjunctions the constraint has
abbrev pub constraint_size : ℕ
constraint_size = 16

-- how many disjunctions a base has
abbrev pub base_size : ℕ
base_size = 10

-- how many draws a planted formula of so many disjunctions takes
abbrev pub draws_of : ℕ → ℕ
draws_of disjunctions = atom_count + 5 * disjunctions

-- x0 to x23
abbrev pub atom_name : ℕ → List ℕ
atom_name number = codes "x" ++ decimal number

-- g1 to g8
abbrev pub agent_name : ℕ → List ℕ
agent_name number = codes "g" ++ decimal (number + 1)

-- the agent with this number, counted from 0, where the first one is drawn from the state
abbrev pub agent_of : ℕ → ℕ → Agent
agent_of state number = record {
  name = agent_name number;
  times = 1;
  base = planted (state_after state (draws_of base_size * number)) (base_size - 1);
}

-- the query with this number, counted from 0, where the first one is drawn from the state
abbrev pub ask_at : ℕ → ℕ → Formula
ask_at state number = ask_of (state_after state (4 * number))

-- the problem is the bench problem with this number
pub record IsBench (bench : ℕ) (problem : Problem) : Type 0 where
  pub atoms : problem.atoms ≡ map atom_name (range_with_len 0 atom_count)
  pub constraint : problem.constraint ≡ planted bench (constraint_size - 1)
  pub agents : problem.agents ≡ map (agent_of (state_after bench (draws_of constraint_size))) (range_with_len 0 agent_count)
  pub asks : problem.asks ≡ map (ask_at (state_after bench (draws_of constraint_size + draws_of base_size * agent_count))) (range_with_len 0 ask_count)
