-- What the lines of a problem text that were read so far declare.
use Rattle.std.specs.Prelude.{ℕ, ◌+◌, Bool, ◌||◌, nat_lt, List, [], Option, Some, None, length, sum_by, count_by}
use Rattle.std.specs.List.{list_any}
use Rattle.formulas.specs.Formulas.{nodes_of}
use Rattle.formulas.specs.Limits.{name_limit, atom_limit, node_limit, agent_limit, times_limit, ask_limit}
use Rattle.formulas.specs.Names.{AtomList}
use Rattle.formulas.specs.declared.formula.Formula.{Formula}
use Rattle.line_tokens.specs.Lexemes.{Lexeme}
use Rattle.formula_grammar.specs.Symbols.{is_node}
use Rattle.merge_model.specs.declared.agent.Agent.{Agent}

pub record Draft : Type 0 where
  pub atoms : AtomList
  pub constraint : Option Formula
  pub agents : List Agent
  pub asks : List Formula

-- of no lines
abbrev pub empty_draft : Draft
empty_draft = record { atoms = []; constraint = None; agents = []; asks = [] }

-- while there is no constraint line, the constraint is true, with one node
abbrev pub constraint_size : Option Formula → ℕ
constraint_size None = 1
constraint_size (Some f) = nodes_of f

-- the nodes of the bases and the queries
abbrev pub other_size : List Agent → List Formula → ℕ
other_size agents asks = sum_by (λ agent. nodes_of agent.base) agents + sum_by nodes_of asks

abbrev pub total_times : List Agent → ℕ
total_times agents = sum_by (λ agent. agent.times) agents

-- the nodes of the formula that the tokens spell
abbrev pub size_of : List Lexeme → ℕ
size_of ts = count_by is_node ts

-- a name of too many bytes
abbrev pub is_long : List ℕ → Bool
is_long name = nat_lt name_limit (length name)

-- too many atoms, or a name that is too long
abbrev pub declares_too_many : Draft → List (List ℕ) → Bool
declares_too_many d names = nat_lt atom_limit (length d.atoms + length names) || list_any is_long names

-- too many nodes
abbrev pub constrains_too_much : Draft → List Lexeme → Bool
constrains_too_much d ts = nat_lt node_limit (other_size d.agents d.asks + size_of ts)

-- too many agents, a name that is too long, too many times or too many nodes
abbrev pub believes_too_much : Draft → List ℕ → ℕ → List Lexeme → Bool
believes_too_much d name times ts =
    nat_lt agent_limit (length d.agents + 1) || is_long name || nat_lt times_limit (total_times d.agents + times)
    || nat_lt node_limit (constraint_size d.constraint + other_size d.agents d.asks + size_of ts)

-- too many queries or too many nodes
abbrev pub asks_too_much : Draft → List Lexeme → Bool
asks_too_much d ts =
    nat_lt ask_limit (length d.asks + 1)
    || nat_lt node_limit (constraint_size d.constraint + other_size d.agents d.asks + size_of ts)
