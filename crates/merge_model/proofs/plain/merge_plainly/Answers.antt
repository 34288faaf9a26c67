use Rattle.std.proofs.Common.{◌≡◌, ◌∙◌, ◌≤◌, ◌↔◌, IfOk, List, Bool, ℕ, Result, Ok, Err, All, length, map, ap, inl, inr, sym}
use Rattle.formulas.specs.declared.formula.Formula.{Formula}
use Rattle.edge.specs.declared.NoMemory.{NoMemory}
use Rattle.merge_model.specs.declared.agent.Agent.{Agent}
use Rattle.merge_model.specs.declared.answer.Answer.{Answer}
use Rattle.merge_model.specs.declared.answer.Answer.TheVariants.{Merged, Inconsistent, GaveUp}
use Rattle.merge_model.specs.declared.problem.Problem.{Problem}
use Rattle.merge_model.specs.Answers.{profile_of, IsRight, IsNamed}
use Rattle.merge_model.specs.Merging.{LacksModel, models_of}
use Rattle.merge_model.specs.Plain.{first_of}
use Rattle.merge_model.proofs.Best.{not_true}
use Rattle.merge_model.proofs.Namings.{names, names_lack, right_has}
use Rattle.merge_model.proofs.plain.merge_plainly.Goals as goal

right_only : (dist : List Bool → List Bool → ℕ) (rank : List ℕ → List ℕ) (problem : Problem) (answer : Answer) → IsRight dist rank problem answer → IsNamed problem answer ↔ LacksModel (profile_of problem)
right_only dist rank problem (Merged best measure verdicts) h = ((λ none. absurd none), (λ lacks. right_has dist rank (profile_of problem) problem.asks best measure verdicts h lacks))
right_only dist rank problem (Inconsistent constraint agents) h = absurd h
right_only dist rank problem GaveUp h = absurd h

right_result : (dist : List Bool → List Bool → ℕ) (rank : List ℕ → List ℕ) (problem : Problem) (r : Result Answer NoMemory) → IfOk r (λ answer. IsRight dist rank problem answer) →
    IfOk r (λ answer. IsNamed problem answer ↔ LacksModel (profile_of problem))
right_result dist rank problem (Ok answer) h = right_only dist rank problem answer h
right_result dist rank problem (Err e) h = tt

at_length : (n m : ℕ) (f : Formula) (candidates : List (List Bool)) → n ≡ m → candidates ≡ models_of n f → candidates ≡ models_of m f
at_length n m f candidates same is = is ∙ ap (λ k. models_of k f) same

bases_at : (n m : ℕ) (agents slice : List Agent) (tables : List (List (List Bool))) → n ≡ m → slice ≡ agents → tables ≡ map (models_of n) (map (λ agent. agent.base) slice) →
    tables ≡ map (models_of m) (map (λ agent. agent.base) agents)
bases_at n m agents slice tables same_size same is =
    is ∙ ap (λ (xs : List Agent). map (models_of n) (map (λ agent. agent.base) xs)) same ∙ ap (λ k. map (models_of k) (map (λ agent. agent.base) agents)) same_size

pub returns-then-not-all_have_models-clause-answer : goal.returns-then-not-all_have_models-clause-answer
returns-then-not-all_have_models-clause-answer g c =
    inr (names (profile_of c.args.problem.now) c.deref.result.now c.deref-2.result.now c.first.result c.from_vec.result
    (c.deref.ensures.value ∙ at_length c.len-atoms.result _ c.args.problem.now.constraint c.in_ok-candidates.candidates.items c.len-atoms.ensures.number c.in_ok-candidates.ensures)
    (c.deref-2.ensures.value ∙ bases_at c.len-atoms.result _ c.args.problem.now.agents c.as_slice.result.now c.in_ok-tables.tables.items c.len-atoms.ensures.number c.as_slice.ensures c.in_ok-tables.ensures)
    (c.first.ensures ∙ ap first_of (c.deref-then-not-all_have_models.ensures.value ∙ sym c.deref.ensures.value))
    (c.from_vec.ensures ∙ c.in_ok-firsts.ensures ∙ ap (map first_of) (c.deref-then-not-all_have_models-2.ensures.value ∙ sym c.deref-2.ensures.value))
    (not_true c.all_have_models.result ((1 ≤ length c.deref.result.now) × All (λ models. 1 ≤ length models) c.deref-2.result.now) c.all_have_models.ensures c.if-not-all_have_models.true))

pub returns-then-not-all_have_models-clause-inconsistent : goal.returns-then-not-all_have_models-clause-inconsistent
returns-then-not-all_have_models-clause-inconsistent g c =
    elim (returns-then-not-all_have_models-clause-answer g c) [
      | inl none ↦ absurd none
      | inr named ↦ ((λ _. names_lack (profile_of c.args.problem.now) c.first.result c.from_vec.result named), (λ _. named))
    ]

pub returns-clause-inconsistent : goal.returns-clause-inconsistent
returns-clause-inconsistent g c = right_result (g.D.Distance.dist c.args.distance.now) (g.A.Aggregator.rank c.args.aggregator.now) c.args.problem.now c.merged.result c.merged.ensures
