-- What must hold of a line that is due, and the kind of fault where it does not.
use Rattle.std.specs.Prelude.{ℕ, ◌+◌, ◌-◌, ◌==◌, nat_lt, nat_le, Bool, true, not, ◌&&◌, ◌||◌, List, ◌∷◌, ◌++◌, length, map}
use Rattle.std.specs.List.{list_all}
use Rattle.std.specs.Str.{bytes_eq}
use Rattle.formulas.specs.declared.formula.Formula.{Formula}
use Rattle.formulas.specs.Formulas as formulas
use Rattle.clause_store.specs.declared.lit.Lit.{Lit}
use Rattle.clause_store.specs.Clauses.{clause_at}
use Rattle.clause_store.specs.Lits.{sorted_clause, has, negated}
use Rattle.merge_model.specs.Answers.{dist_named}
use Rattle.merge_encoding.specs.Claims.{ask_at, base_at}
use Rattle.merge_encoding.specs.Assumptions.{assumed}
use Rattle.report_lines.specs.declared.kinds.Kind.{Kind}
use Rattle.report_lines.specs.declared.kinds.Kind.TheVariants as kind
use Rattle.report_lines.specs.declared.kinds.RefusedKind.{RefusedKind}
use Rattle.report_lines.specs.declared.kinds.RefusedKind.TheVariants as refused
use Rattle.report_lines.specs.declared.kinds.Subject.{Subject}
use Rattle.report_lines.specs.declared.kinds.Subject.TheVariants.{TheConstraint, BaseOf}
use Rattle.report_lines.specs.Items.{Item, ProblemLine, ModelLine, VectorLine, NearestLine, MeasureLine, HasModelLine, MainLine, LogLine, ShownLine, EndLine}
use Rattle.report_lines.specs.Places.{Position, agents_at, profile_at, top_at, rank_at, measure_at, main_at}
use Rattle.log_lines.specs.Spending.{Noted, is_spent}
use Rattle.log_lines.specs.Taking.{is_step}

-- the stored main clauses, and with them those of the steps so far
abbrev pub stored_main : Position → List (List Lit)
stored_main p = map sorted_clause (main_at p).clauses

abbrev pub known_at : Position → List (List Lit)
known_at p = stored_main p ++ map (λ (s : Noted). s.clause) p.steps

-- each nearest valuation is a model of its base at the distance in the vector
abbrev pub are_near : (List Bool → List Bool → ℕ) → List Bool → List Formula → List ℕ → List (List Bool) → Bool
are_near dist model (base ∷ bases) (d ∷ ds) (w ∷ ws) = (formulas.holds base w && dist model w == d) && are_near dist model bases ds ws
are_near dist model _ _ _ = true

abbrev pub formula_at : Position → Subject → Formula
formula_at p TheConstraint = (profile_at p).constraint
formula_at p (BaseOf i) = base_at (profile_at p) i

-- how many agents are named when the subject is
abbrev pub named_with : Subject → ℕ
named_with TheConstraint = 0
named_with (BaseOf i) = i + 1

-- of a first model nothing is asked here; in a model after a no the last query is false
abbrev pub breaks : Position → List Bool → Bool
breaks p w = (p.verdicts == 0) || not (formulas.holds (ask_at p.draft.asks (p.verdicts - 1)) w)

-- a vector after a no has the measure as its rank
abbrev pub is_as_good : Position → List ℕ → Bool
is_as_good p ds = (p.verdicts == 0) || bytes_eq (rank_at p ds) (measure_at p)

-- some formula has no model, or an agent is still to be named
abbrev pub may_name : Position → Subject → Bool
may_name p s = nat_lt (named_with s) (agents_at p) || nat_lt 0 (length p.claims)

-- each literal of the clause is the negation of an assumption
abbrev pub refutes : List Lit → List Lit → Bool
refutes clause assumptions = list_all (λ l. has (negated l) assumptions) clause

-- the number is that of a step whose clause refutes what the claim assumes
abbrev pub proves : Position → List Lit → ℕ → Bool
proves p assumptions n = (nat_le (length (stored_main p)) n && nat_lt n (length (known_at p))) && refutes (clause_at (known_at p) n) assumptions

abbrev pub is_end : Kind → Position → Bool
is_end kind.Merged p = true
is_end kind.Inconsistent p = true
is_end kind.Spent p = is_spent p.conflicts (stored_main p) p.steps

-- of a line of the problem more is asked than a test: see what follows it
abbrev pub holds : Position → Item → Bool
holds p (ModelLine w) = formulas.holds (profile_at p).constraint w && breaks p w
holds p (VectorLine ds) = list_all (λ d. nat_le d (top_at p)) ds && is_as_good p ds
holds p (NearestLine ws) = are_near (dist_named p.distance p.draft.atoms) p.model (profile_at p).bases p.vector ws
holds p (MeasureLine rs) = bytes_eq rs (measure_at p)
holds p (HasModelLine s w) = formulas.holds (formula_at p s) w && may_name p s
holds p (MainLine v c) = (v == (main_at p).vars) && (c == length (stored_main p))
holds p (LogLine s) = is_step (main_at p).vars (known_at p) s
holds p (ShownLine c n) = proves p (assumed (main_at p) c.says) n
holds p (EndLine n) = is_end p.kind p
holds p _ = true

abbrev pub kind_of : Item → RefusedKind
kind_of (ProblemLine line) = refused.Problem
kind_of (ModelLine w) = refused.Witness
kind_of (VectorLine ds) = refused.Witness
kind_of (NearestLine ws) = refused.Witness
kind_of (MeasureLine rs) = refused.Witness
kind_of (HasModelLine s w) = refused.Witness
kind_of (MainLine v c) = refused.Step
kind_of (LogLine s) = refused.Step
kind_of (ShownLine c n) = refused.Claim
kind_of (EndLine n) = refused.Ended
kind_of _ = refused.Form
