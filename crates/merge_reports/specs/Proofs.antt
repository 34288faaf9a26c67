-- The proofs that are written of what a search answers.
use Rattle.std.specs.Prelude.{ℕ, ◌+◌, Bool, List, [], ◌∷◌, ◌++◌, Option, None, Some, map}
use Rattle.merge_model.specs.declared.answer.Answer.{Answer}
use Rattle.merge_model.specs.declared.answer.Answer.TheVariants.{Inconsistent}
use Rattle.distance_search.specs.declared.answer.Best.{Best}
use Rattle.distance_search.specs.declared.answer.Consistency.{Consistency}
use Rattle.distance_search.specs.declared.answer.Named.{Named}
use Rattle.distance_search.specs.declared.answer.Named.TheVariants.{Model, Empty}
use Rattle.report_lines.specs.declared.kinds.Subject.{Subject}
use Rattle.report_lines.specs.declared.kinds.Subject.TheVariants.{TheConstraint, BaseOf}
use Rattle.report_lines.specs.declared.report.Proof.{Proof}
use Rattle.report_lines.specs.declared.report.Proof.TheVariants as proof

-- a proof by its place, from i on, and by the number of its step, for each step that is there
abbrev pub numbered_proofs : (ℕ → ℕ → Proof) → ℕ → List (Option ℕ) → List Proof
numbered_proofs make i [] = []
numbered_proofs make i (None ∷ steps) = numbered_proofs make (i + 1) steps
numbered_proofs make i (Some n ∷ steps) = make i n ∷ numbered_proofs make (i + 1) steps

-- no model of a base is nearer to shown model k, for the agents from i on
abbrev pub far_proofs : ℕ → ℕ → List (Option ℕ) → List Proof
far_proofs k i steps = numbered_proofs (λ agent n. proof.Far k agent n) i steps

-- nothing is better first, for the levels from j on
abbrev pub least_proofs : ℕ → List (Option ℕ) → List Proof
least_proofs j steps = numbered_proofs (λ level n. proof.Least level n) j steps

-- those of a best answer
abbrev pub best_proofs : Best → List Proof
best_proofs best = far_proofs 0 0 best.far ++ least_proofs 0 best.least

-- a formula has no model, by the step of a number
abbrev pub lack_proof : Subject → ℕ → Proof
lack_proof TheConstraint n = proof.Constraint n
lack_proof (BaseOf i) n = proof.Base i n

-- the model that was found, or none
abbrev pub entry_of : Named → Option (List Bool)
entry_of (Model v) = Some v
entry_of (Empty n) = None

abbrev pub entry_proofs : Subject → Named → List Proof
entry_proofs subject (Model v) = []
entry_proofs subject (Empty n) = lack_proof subject n ∷ []

-- so of the bases of the agents from i on
abbrev pub agent_proofs : ℕ → List Named → List Proof
agent_proofs i [] = []
agent_proofs i (named ∷ rest) = entry_proofs (BaseOf i) named ++ agent_proofs (i + 1) rest

abbrev pub naming_answer : Consistency → Answer
naming_answer found = Inconsistent (entry_of found.constraint) (map entry_of found.agents)

abbrev pub naming_proofs : Consistency → List Proof
naming_proofs found = entry_proofs TheConstraint found.constraint ++ agent_proofs 0 found.agents
