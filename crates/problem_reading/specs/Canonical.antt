-- Which lines are written as in a canonical text.
use Rattle.std.specs.Prelude.{◌≡◌, ℕ, List, length, drop}
use Rattle.formulas.specs.Names.{names_of}
use Rattle.problem_reading.specs.declared.said.Said.{Said}
use Rattle.problem_reading.specs.declared.said.Said.TheVariants.{Nothing, Names, Condition, Belief, Query}
use Rattle.problem_reading.specs.Drafts.{Draft}
use Rattle.profile_text.specs.ProblemText.{agent_line, ask_line, atoms_line, constraint_line}

-- a line that says this is the canonical line of it, after what is declared: one blank between
-- words, a canonical formula, no times where an agent counts once, and no comment; a line of atoms
-- has the names that it adds, and a line that says nothing is none
abbrev pub IsWritten : Draft → List ℕ → Said → Type 0
IsWritten d line Nothing = ⊥
IsWritten d line (Names atoms) = line ≡ atoms_line (drop (length d.atoms) atoms)
IsWritten d line (Condition f) = line ≡ constraint_line (names_of d.atoms) f
IsWritten d line (Belief agent) = line ≡ agent_line (names_of d.atoms) agent
IsWritten d line (Query f) = line ≡ ask_line (names_of d.atoms) f
