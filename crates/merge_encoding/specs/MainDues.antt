-- The main clauses of a problem, for what is due of any distance and of any aggregator.
use Rattle.std.specs.Prelude.{◌≡◌, ℕ, ◌≤◌, Bool, List, [], ◌∷◌, ◌++◌, length, map, All, sum}
use Rattle.std.specs.List.{AllZip}
use Rattle.clause_store.specs.declared.lit.Lit.{Lit}
use Rattle.clause_store.specs.Extends.{Extends, Always}
use Rattle.clause_store.specs.Truth.{AreTrue}
use Rattle.formulas.specs.Limits.{valuation_limit}
use Rattle.formulas.specs.declared.formula.Formula.{Formula}
use Rattle.formulas.specs.Formulas.{holds, width_of}
use Rattle.clause_translation.specs.Definition.{definition}
use Rattle.totalizer.specs.Counter.{Due, AllUnary}
use Rattle.ranks.specs.Limits.{entry_limit}
use Rattle.merge_model.specs.declared.problem.Problem.{Problem}
use Rattle.merge_model.specs.Answers.{profile_of}
use Rattle.merge_model.specs.Merging.{Profile, repeated}
use Rattle.agent_copies.specs.Counter.{truth_of}
use Rattle.agent_copies.specs.Copy.{CopyDue, copy_due}
use Rattle.clause_store.specs.Fresh.{fresh_lits}
use Rattle.aggregators.specs.Levels.{LevelsDue, FitLevels, counts_of}

-- what is due for a counter of a distance, after so many variables, between two lists of literals
abbrev pub DueCounter : Type 0
DueCounter = ℕ → List Lit → List Lit → Due

-- what is due for the levels of an aggregator, after so many variables, of counters that each count so often
abbrev pub DueLevels : Type 0
DueLevels = ℕ → List (List ℕ) → List ℕ → LevelsDue

-- what is due for formulas: clauses as they are made, the number of variables then, and the roots
pub record DefinedAll : Type 0 where
  pub clauses : List (List Lit)
  pub vars : ℕ
  pub roots : List ℕ

-- formulas over the same literals, one after another
abbrev pub definitions : List Lit → ℕ → List Formula → DefinedAll
definitions atoms v [] = record { clauses = []; vars = v; roots = [] }
definitions atoms v (f ∷ fs) =
    let first = definition atoms f v in
    let rest = definitions atoms first.root fs in
    record { clauses = first.clauses ++ rest.clauses; vars = rest.vars; roots = first.root ∷ rest.roots }

-- what is due for copies: clauses as they are made, the number of variables then, and the copies
pub record CopiesDue : Type 0 where
  pub clauses : List (List Lit)
  pub vars : ℕ
  pub copies : List CopyDue

-- the copies of the agents, one after another
abbrev pub copies_due : DueCounter → List Lit → ℕ → List Formula → CopiesDue
copies_due due shared v [] = record { clauses = []; vars = v; copies = [] }
copies_due due shared v (base ∷ bases) =
    let copy = copy_due due v shared base in
    let rest = copies_due due shared copy.vars bases in
    record { clauses = copy.clauses ++ rest.clauses; vars = rest.vars; copies = copy ∷ rest.copies }

-- the counters of the copies
abbrev pub aways_of : List CopyDue → List (List ℕ)
aways_of copies = map (λ (c : CopyDue). c.away) copies

-- the valuations of the copies
abbrev pub owns_of : (ℕ → Bool) → List CopyDue → List (List Bool)
owns_of b copies = map (λ (c : CopyDue). truth_of b c.own) copies

-- the main clauses as they are made, their number of variables, and where the parts of the problem stand in them
pub record MainDue : Type 0 where
  pub clauses : List (List Lit)
  pub vars : ℕ
  pub shared : List Lit
  pub constraint : ℕ
  pub asks : List ℕ
  pub copies : List CopyDue
  pub levels : List (List ℕ)

-- the shared variables, the constraint and the queries over them, a copy of each agent, and the levels
abbrev pub main_due : DueCounter → DueLevels → Profile → List Formula → MainDue
main_due due levels_due p asks =
    let shared = fresh_lits 0 p.atoms in
    let constraint = definition shared p.constraint p.atoms in
    let asked = definitions shared constraint.root asks in
    let copied = copies_due due shared asked.vars p.bases in
    let leveled = levels_due copied.vars (aways_of copied.copies) p.times in
    record {
      clauses = ((constraint.clauses ++ asked.clauses) ++ copied.clauses) ++ leveled.clauses;
      vars = leveled.vars;
      shared = shared;
      constraint = constraint.root;
      asks = asked.roots;
      copies = copied.copies;
      levels = leveled.levels;
    }

-- the main clauses that are due for a problem
abbrev pub due_for : DueCounter → DueLevels → Problem → MainDue
due_for due levels_due problem = main_due due levels_due (profile_of problem) problem.asks

-- the distances of the copies' valuations from the shared one
abbrev pub distances_in : (List Bool → List Bool → ℕ) → (ℕ → Bool) → MainDue → List ℕ
distances_in dist b main = map (dist (truth_of b main.shared)) (owns_of b main.copies)

-- what the main clauses ask of a profile and of queries; each problem keeps it
pub record IsLimited (p : Profile) (asks : List Formula) : Type 0 where
  pub some_atom : 1 ≤ p.atoms
  pub few_atoms : p.atoms ≤ valuation_limit
  pub some_base : 1 ≤ length p.bases
  pub lengths : length p.bases ≡ length p.times
  pub each_counts : All (λ t. 1 ≤ t) p.times
  pub few_times : sum p.times ≤ entry_limit
  pub constraint_wide : width_of p.constraint ≤ p.atoms
  pub bases_wide : All (λ f. width_of f ≤ p.atoms) p.bases
  pub asks_wide : All (λ f. width_of f ≤ p.atoms) asks

-- What the main clauses mean, for a distance, its greatest value and the level values of an aggregator. For each
-- valuation of the shared variables and each list of valuations of the copies exactly one assignment satisfies them.
-- In each that does, the roots have the values of their formulas, each counter counts the distance of its copy's
-- valuation from the shared one, and the levels count the level values of the repeated distances. The counters have
-- the greatest distance as their length, and the level values of whatever distances fit the levels
pub record IsMain (dist : List Bool → List Bool → ℕ) (top : ℕ) (values_of : List ℕ → ℕ → List ℕ) (p : Profile) (asks : List Formula) (main : MainDue) : Type 0 where
  pub shared_are : main.shared ≡ fresh_lits 0 p.atoms
  pub size : length main.copies ≡ length p.bases
  pub wide : All (λ (c : CopyDue). length c.own ≡ p.atoms) main.copies
  pub one : (v : List Bool) (ws : List (List Bool)) → length v ≡ p.atoms → length ws ≡ length p.bases → All (λ w. length w ≡ p.atoms) ws →
      Extends Always (λ b. ((truth_of b main.shared ≡ v) × (owns_of b main.copies ≡ ws)) × AreTrue main.clauses b) 0 main.vars
  pub constraint_is : (b : ℕ → Bool) → AreTrue main.clauses b → b main.constraint ≡ holds p.constraint (truth_of b main.shared)
  pub asks_are : (b : ℕ → Bool) → AreTrue main.clauses b → map b main.asks ≡ map (λ ask. holds ask (truth_of b main.shared)) asks
  pub roots_are : (b : ℕ → Bool) → AreTrue main.clauses b → AllZip (λ base (c : CopyDue). b c.root ≡ holds base (truth_of b c.own)) p.bases main.copies
  pub counters_in_order : (b : ℕ → Bool) → AreTrue main.clauses b → AllUnary b (aways_of main.copies)
  pub counters_are : (b : ℕ → Bool) → AreTrue main.clauses b → counts_of b (aways_of main.copies) ≡ distances_in dist b main
  pub levels_in_order : (b : ℕ → Bool) → AreTrue main.clauses b → AllUnary b main.levels
  pub levels_are : (b : ℕ → Bool) → AreTrue main.clauses b → counts_of b main.levels ≡ values_of (repeated p.times (distances_in dist b main)) top
  pub asks_size : length main.asks ≡ length asks
  pub counters_sized : All (λ c. length c ≡ top) (aways_of main.copies)
  pub levels_fit : (us : List ℕ) → length us ≡ length p.bases → All (λ u. u ≤ top) us → FitLevels (values_of (repeated p.times us) top) main.levels
