-- Formulas that are drawn from a state, over 24 atoms.
use Rattle.std.specs.Prelude.{ℕ, zero, suc, ◌+◌, ◌*◌, Bool, true, false, List, map}
use Rattle.std.specs.List.{range_with_len}
use Rattle.formulas.specs.Words.{truth_at}
use Rattle.formulas.specs.declared.formula.Formula.{Formula}
use Rattle.formulas.specs.declared.formula.Formula.TheVariants.{Atom, Not, And, Or}
use Rattle.bench_problem.specs.Draws.{state_after, drawn, drawn_bit}

-- how many atoms there are
abbrev pub atom_count : ℕ
atom_count = 24

-- an atom, or its negation
abbrev pub literal_of : ℕ → Bool → Formula
literal_of atom true = Atom atom
literal_of atom false = Not (Atom atom)

-- three literals from five draws, of which the first is true at the values
abbrev pub disjunction_of : List Bool → ℕ → Formula
disjunction_of values state =
    Or (Or (literal_of (drawn state 0 atom_count) (truth_at values (drawn state 0 atom_count)))
    (literal_of (drawn state 1 atom_count) (drawn_bit state 2)))
    (literal_of (drawn state 3 atom_count) (drawn_bit state 4))

-- the conjunction of the formulas with the numbers from 0 to the last, grouped to the left
unfoldable pub conjunction_to : (ℕ → Formula) → ℕ → Formula
conjunction_to formula zero = formula 0
conjunction_to formula (suc last) = And (conjunction_to formula last) (formula (suc last))

-- the values at which a planted formula is true: a draw for each atom
abbrev pub planted_values : ℕ → List Bool
planted_values state = map (drawn_bit state) (range_with_len 0 atom_count)

-- the disjunction with this number of a planted formula, drawn after the values
abbrev pub planted_disjunction : ℕ → ℕ → Formula
planted_disjunction state number = disjunction_of (planted_values state) (state_after state (atom_count + 5 * number))

-- a planted formula of the disjunctions from 0 to the last
abbrev pub planted : ℕ → ℕ → Formula
planted state last = conjunction_to (planted_disjunction state) last

-- two literals from four draws
abbrev pub ask_of : ℕ → Formula
ask_of state =
    Or (literal_of (drawn state 0 atom_count) (drawn_bit state 1)) (literal_of (drawn state 2 atom_count) (drawn_bit state 3))
