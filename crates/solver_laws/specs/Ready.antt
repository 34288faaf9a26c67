-- What a solver keeps true of its log, its trail and its propagator.
use Rattle.std.specs.Prelude.{◌≡◌, ◌≢◌, ℕ, ◌<◌, ◌≤◌, true, false, List, [], ◌∷◌, ◌++◌, Option, Some, None, map, Contains, ◌⊎◌, slice_get}
use Rattle.std.specs.List.{AllByRecursion}
use Rattle.clause_store.specs.declared.lit.Lit.{Lit}
use Rattle.clause_store.specs.Lits.{negated, without, Ascends, has, InRange}
use Rattle.watch_lists.specs.declared.entry.Entry.{Entry}
use Rattle.watch_lists.specs.Trace.{Trace, Attached, value_of, upto, IsComplete, StandIn, Place, places_of, ExtendsAt}
use Rattle.solver_laws.specs.Digits.{IsFit}
use Rattle.derivation_log.specs.declared.step.Link.{Link}
use Rattle.derivation_log.specs.Logs.{Log, known_of, learned_of, IsSound, IsNew, Comes, is_learned}
use Rattle.derivation_log.specs.declared.step.Step.{Step}

abbrev pub IsFalseIn : List Entry → Lit → Type 0
IsFalseIn es l = value_of es l ≡ Some false

-- the reason is attached, has the literal, and its other literals are false by earlier entries
abbrev pub IsReason : List Attached → List Entry → Lit → Option ℕ → Type 0
IsReason attached es l None = Unit {0}
IsReason attached es l (Some n) = (c : List Lit) × Contains attached (record { number = n; clause = c }) × (has l c ≡ true) × AllByRecursion (IsFalseIn es) (without l c)

abbrev pub IsJustified : List Attached → List Entry → Type 0
IsJustified attached [] = Unit {0}
IsJustified attached (e ∷ es) = IsReason attached es e.lit e.reason × IsJustified attached es

-- the levels up to this one were opened by assumptions
abbrev pub DecidesOnly : List Lit → ℕ → List Entry → Type 0
DecidesOnly assumptions assumed [] = Unit {0}
DecidesOnly assumptions assumed (e ∷ es) = (e.reason ≡ None → e.level ≤ assumed → has e.lit assumptions ≡ true) × DecidesOnly assumptions assumed es

-- each learned clause is not empty, and has no variable twice
abbrev pub AllFit : ℕ → List Step → Type 0
AllFit V [] = Unit {0}
AllFit V (s ∷ ss) = ((is_learned s.kind) ≡ true → IsFit V s.clause) × AllFit V ss

-- each step of the log follows, and no learned one includes a main clause or an earlier learned one
pub record IsLog (log : Log) : Type 0 where
  pub sound : IsSound log.main log.steps
  pub new : IsNew log.main log.steps
  pub fit : AllFit log.vars log.steps

-- each of these clauses is attached
abbrev pub AreAttached : List Attached → List (List Lit) → Type 0
AreAttached attached cs = AllByRecursion (λ c. Contains (map (λ a. a.clause) attached) c) cs

-- what holds between any two steps of the solver; claimed steps may be attached, too
pub record IsReady (g : Log) (watched : List Attached) (done : List Place) (count : ℕ) (t : Trace) : Type 0 where
  pub log : IsLog g
  pub attached : AreAttached watched (g.main ++ learned_of g.steps)
  pub stand : StandIn (known_of g) watched
  pub vars : g.vars ≡ count
  pub trail_vars : t.vars ≡ count
  pub justified : IsJustified watched t.entries
  pub followed : ExtendsAt t.level done (places_of t.entries)
  pub below : (k : ℕ) → k < t.level → IsComplete watched (upto k t.entries)

-- a clause that follows, and the steps to it
pub record IsLesson (known : List (List Lit)) (vars : ℕ) (first : ℕ) (chain : List Link) (clause : List Lit) : Type 0 where
  pub follows : (start : List Lit) × (slice_get known first ≡ Some start) × Comes known start chain clause
  pub ascends : Ascends clause
  pub in_range : InRange vars clause

-- all entries above the first ones have reasons, but for one decision right on them
abbrev pub Tops : List Entry → List Entry → Type 0
Tops low [] = ⊥
Tops low (e ∷ es) = ((e.reason ≡ None) × (es ≡ low)) ⊎ ((e.reason ≢ None) × Tops low es)

-- the literal is the negation of an assumption, or is false
abbrev pub IsBarred : List Lit → List Entry → Lit → Type 0
IsBarred assumptions es l = (has (negated l) assumptions ≡ true) ⊎ (value_of es l ≡ Some false)
