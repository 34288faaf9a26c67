use Rattle.std.proofs.Common.{◌≡◌, ◌∙◌, ◌≤◌, ℕ, List, Bool, All, length, map, ap, subst, sym, arith}
use Rattle.merge_model.specs.declared.agent.Agent.{Agent}
use Rattle.merge_model.specs.declared.problem.Problem.{Problem}
use Rattle.merge_model.specs.Answers.{profile_of}
use Rattle.merge_model.specs.Merging.{models_of, full_of, repeated}
use Rattle.merge_model.specs.Plain.{AreComparable, IsBestOf, distances_of}
use Rattle.merge_model.proofs.Fulls.{IsBounded, comparable}
use Rattle.merge_model.proofs.Passes.{consistent, all_over, fulls_are}
use Rattle.merge_model.proofs.plain.walk.Walk.new.Goals as goal

pub full_vectors-requires-clause-over : goal.full_vectors-requires-clause-over
full_vectors-requires-clause-over g c =
    all_over (profile_of c.args.problem.now) c.deref.result.now c.deref-2.result.now (c.deref.ensures.value ∙ c.requires.candidates) (c.deref-2.ensures.value ∙ c.requires.tables)
    (subst (λ (ts : List (List (List Bool))). All (λ models. 1 ≤ length models) ts) (sym c.deref-2.ensures.value) c.requires.some_models)

fulls_of : (dist : List Bool → List Bool → ℕ) (problem : Problem) (candidates : List (List Bool)) (tables : List (List (List Bool))) (agents : List Agent) (fulls : List (List ℕ)) →
    candidates ≡ models_of (length problem.atoms) problem.constraint → tables ≡ map (models_of (length problem.atoms)) (map (λ agent. agent.base) problem.agents) → agents ≡ problem.agents →
    All (λ models. 1 ≤ length models) tables →
    fulls ≡ map (λ v. repeated (map (λ agent. agent.times) agents) (distances_of dist tables v)) candidates →
    fulls ≡ map (full_of dist (profile_of problem)) (models_of (length problem.atoms) problem.constraint)
fulls_of dist problem candidates tables agents fulls are_models are_tables same some is =
    is
    ∙ ap (λ (xs : List Agent). map (λ v. repeated (map (λ agent. agent.times) xs) (distances_of dist tables v)) candidates) same
    ∙ fulls_are (profile_of problem) candidates tables are_models are_tables some dist

some_of : (xs ys : List (List (List Bool))) → xs ≡ ys → All (λ models. 1 ≤ length models) ys → All (λ models. 1 ≤ length models) xs
some_of xs ys same h = subst (λ (ts : List (List (List Bool))). All (λ models. 1 ≤ length models) ts) (sym same) h

best_of : (rank : List ℕ → List ℕ) (xs ys : List (List ℕ)) (best : ℕ) → xs ≡ ys → IsBestOf rank xs (length xs) best → IsBestOf rank ys (length ys) best
best_of rank xs ys best same h = subst (λ (zs : List (List ℕ)). IsBestOf rank zs (length zs) best) same h

comparable_of : (dist : List Bool → List Bool → ℕ) (problem : Problem) (fulls : List (List ℕ)) → IsBounded dist →
    fulls ≡ map (full_of dist (profile_of problem)) (models_of (length problem.atoms) problem.constraint) → AreComparable fulls
comparable_of dist problem fulls bounded is = subst (λ (xs : List (List ℕ)). AreComparable xs) (sym is) (comparable dist problem bounded)

pub best_place-best-requires-clause-comparable : goal.best_place-best-requires-clause-comparable
best_place-best-requires-clause-comparable g c =
    comparable_of (g.D.Distance.dist c.args.distance.now) c.args.problem.now c.deref-3.result.now
    (λ v w same some few. omega (arith, g.met.D.Distance.within c.args.distance.now v w same some few, g.met.D.Distance.bounded c.args.distance.now _ some few))
    (c.deref-3.ensures.value
    ∙ fulls_of (g.D.Distance.dist c.args.distance.now) c.args.problem.now c.deref.result.now c.deref-2.result.now c.as_slice.result.now c.in_ok-fulls.fulls.items
    (c.deref.ensures.value ∙ c.requires.candidates) (c.deref-2.ensures.value ∙ c.requires.tables) c.as_slice.ensures
    (some_of c.deref-2.result.now c.args.tables.items c.deref-2.ensures.value c.requires.some_models)
    c.in_ok-fulls.ensures)

pub returns : goal.returns
returns g c =
    let fulls =
    fulls_of (g.D.Distance.dist c.args.distance.now) c.args.problem.now c.deref.result.now c.deref-2.result.now c.as_slice.result.now c.in_ok-fulls.fulls.items
    (c.deref.ensures.value ∙ c.requires.candidates) (c.deref-2.ensures.value ∙ c.requires.tables) c.as_slice.ensures
    (some_of c.deref-2.result.now c.args.tables.items c.deref-2.ensures.value c.requires.some_models)
    c.in_ok-fulls.ensures
    in
    record {
      consistent = consistent (profile_of c.args.problem.now) c.args.candidates.items c.args.tables.items c.requires.candidates c.requires.tables c.requires.some_models;
      candidates = c.requires.candidates;
      tables = c.requires.tables;
      fulls = fulls;
      comparable = comparable_of (g.D.Distance.dist c.args.distance.now) c.args.problem.now c.in_ok-fulls.fulls.items
          (λ v w same some few. omega (arith, g.met.D.Distance.within c.args.distance.now v w same some few, g.met.D.Distance.bounded c.args.distance.now _ some few))
          fulls;
      best = best_of (g.A.Aggregator.rank c.args.aggregator.now) c.deref-3.result.now c.in_ok-fulls.fulls.items c.best_place-best.result c.deref-3.ensures.value c.best_place-best.ensures;
    }
