-- Which answers to a problem are right.
use Rattle.std.specs.Prelude.{◌≡◌, ℕ, Bool, false, List, length, map, Contains, ◌⊎◌, Option, None, MatchOption}
use Rattle.std.specs.List.{AllZip}
use Rattle.formulas.specs.declared.formula.Formula.{Formula}
use Rattle.formulas.specs.Formulas.{holds}
use Rattle.formulas.specs.Names.{AtomList}
use Rattle.ranks.specs.Ranks.{sum_rank, max_rank, leximax_rank}
use Rattle.merge_model.specs.declared.answer.Answer.{Answer}
use Rattle.merge_model.specs.declared.answer.Answer.TheVariants.{Merged, Inconsistent, GaveUp}
use Rattle.merge_model.specs.declared.answer.Shown.{Shown}
use Rattle.merge_model.specs.declared.answer.Verdict.{Verdict}
use Rattle.merge_model.specs.declared.answer.Verdict.TheVariants.{Yes, No}
use Rattle.merge_model.specs.declared.operator.AggregatorName.{AggregatorName}
use Rattle.merge_model.specs.declared.operator.AggregatorName.TheVariants.{Sum, Max, Leximax}
use Rattle.merge_model.specs.declared.operator.DistanceName.{DistanceName}
use Rattle.merge_model.specs.declared.operator.DistanceName.TheVariants.{Drastic, Hamming}
use Rattle.merge_model.specs.declared.problem.Problem.{Problem}
use Rattle.merge_model.specs.Distances.{drastic, hamming}
use Rattle.merge_model.specs.Merging.{Profile, IsModel, HasModel, IsClosest, IsEntailed, away, vector_of, repeated}

-- the distance of a name, between valuations of these atoms
abbrev pub dist_named : DistanceName → AtomList → List Bool → List Bool → ℕ
dist_named Drastic atoms = drastic
dist_named Hamming atoms = hamming

-- the greatest distance that it gives over the first n of these atoms
abbrev pub most_named : DistanceName → AtomList → ℕ → ℕ
most_named Drastic atoms n = 1
most_named Hamming atoms n = n

-- the rank of a name
abbrev pub rank_named : AggregatorName → List ℕ → List ℕ
rank_named Sum = sum_rank
rank_named Max = max_rank
rank_named Leximax = leximax_rank

-- what is merged in a problem
abbrev pub profile_of : Problem → Profile
profile_of problem = record {
  atoms = length problem.atoms;
  constraint = problem.constraint;
  times = map (λ agent. agent.times) problem.agents;
  bases = map (λ agent. agent.base) problem.agents;
}

-- the vector is the model's, and each nearest valuation is a model of its base at the distance in the
-- vector
pub record IsShown (dist : List Bool → List Bool → ℕ) (p : Profile) (shown : Shown) : Type 0 where
  pub vector : shown.vector ≡ vector_of dist p.bases shown.model
  pub nearest : AllZip (λ base near. IsModel p.atoms base near × (dist shown.model near ≡ away dist shown.model base)) p.bases shown.nearest

-- yes: the query is true at every closest valuation; no: the model is closest, is shown rightly, and the
-- query is false there, so it is not entailed
abbrev pub IsVerdict : (List Bool → List Bool → ℕ) → (List ℕ → List ℕ) → Profile → Formula → Verdict → Type 0
IsVerdict dist rank p ask Yes = IsEntailed dist rank p ask
IsVerdict dist rank p ask (No shown) = IsClosest dist rank p shown.model × IsShown dist p shown × (holds ask shown.model ≡ false)

-- the first model is closest and is shown rightly, the measure is the rank of its full vector, and there is
-- one verdict for each query, in order
pub record IsRightMerge (dist : List Bool → List Bool → ℕ) (rank : List ℕ → List ℕ) (p : Profile) (asks : List Formula) (best : Shown) (measure : List ℕ) (verdicts : List Verdict) : Type 0 where
  pub closest : IsClosest dist rank p best.model
  pub shown : IsShown dist p best
  pub measured : measure ≡ rank (repeated p.times best.vector)
  pub judged : AllZip (IsVerdict dist rank p) asks verdicts

-- the answer merges the problem rightly
abbrev pub IsRight : (List Bool → List Bool → ℕ) → (List ℕ → List ℕ) → Problem → Answer → Type 0
IsRight dist rank problem (Merged best measure verdicts) = IsRightMerge dist rank (profile_of problem) problem.asks best measure verdicts
IsRight dist rank problem (Inconsistent constraint agents) = ⊥
IsRight dist rank problem GaveUp = ⊥

-- a valuation that satisfies the formula, or none exactly where no valuation does
abbrev pub IsNamedEntry : ℕ → Formula → Option (List Bool) → Type 0
IsNamedEntry n formula entry = MatchOption entry (HasModel n formula → ⊥) (λ v. IsModel n formula v)

-- the constraint and each base, in order, with a model or with none, and at least one with none
pub record NamesModels (p : Profile) (constraint : Option (List Bool)) (agents : List (Option (List Bool))) : Type 0 where
  pub constraint_named : IsNamedEntry p.atoms p.constraint constraint
  pub bases_named : AllZip (IsNamedEntry p.atoms) p.bases agents
  pub some_none : (constraint ≡ None) ⊎ Contains agents None

-- the answer names the formulas of the problem that have no model
abbrev pub IsNamed : Problem → Answer → Type 0
IsNamed problem (Merged best measure verdicts) = ⊥
IsNamed problem (Inconsistent constraint agents) = NamesModels (profile_of problem) constraint agents
IsNamed problem GaveUp = ⊥
