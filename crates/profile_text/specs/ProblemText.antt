-- The canonical text of a problem.
use Rattle.std.specs.Prelude.{ℕ, ◌==◌, if◌then◌else◌, List, [], ◌∷◌, ◌++◌, map, codes, decimal}
use Rattle.formulas.specs.Names.{AtomList, names_of}
use Rattle.formulas.specs.declared.formula.Formula.{Formula}
use Rattle.formula_text.specs.CanonicalText.{formula_text}
use Rattle.merge_model.specs.declared.agent.Agent.{Agent}
use Rattle.merge_model.specs.declared.problem.Problem.{Problem}

-- each name after one blank
abbrev pub spaced_names : List (List ℕ) → List ℕ
spaced_names [] = []
spaced_names (name ∷ names) = codes " " ++ name ++ spaced_names names

-- the line that declares the atoms
abbrev pub atoms_line : AtomList → List ℕ
atoms_line atoms = codes "atoms" ++ spaced_names (names_of atoms)

-- the line of the constraint, over atoms of these names
abbrev pub constraint_line : List (List ℕ) → Formula → List ℕ
constraint_line names formula = codes "constraint " ++ formula_text names formula

-- how often an agent counts, where that is not once
abbrev pub times_text : ℕ → List ℕ
times_text times = if times == 1 then [] else codes " times " ++ decimal times

-- the line of an agent
abbrev pub agent_line : List (List ℕ) → Agent → List ℕ
agent_line names agent = codes "agent " ++ agent.name ++ times_text agent.times ++ codes " : " ++ formula_text names agent.base

-- the line of a query
abbrev pub ask_line : List (List ℕ) → Formula → List ℕ
ask_line names formula = codes "ask " ++ formula_text names formula

-- the lines of a problem: its atoms, its constraint, its agents and its queries
abbrev pub problem_lines : Problem → List (List ℕ)
problem_lines problem =
    let names = names_of problem.atoms in
    atoms_line problem.atoms ∷ constraint_line names problem.constraint
    ∷ (map (agent_line names) problem.agents ++ map (ask_line names) problem.asks)

-- lines, each ended by a line feed
abbrev pub lines_text : List (List ℕ) → List ℕ
lines_text [] = []
lines_text (line ∷ lines) = line ++ codes "\n" ++ lines_text lines

abbrev pub problem_text : Problem → List ℕ
problem_text problem = lines_text (problem_lines problem)
