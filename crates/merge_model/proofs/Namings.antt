-- Which formulas have a model, read off their lists of models.
use Rattle.std.proofs.Common.{◌≡◌, ℕ, zero, suc, ◌≤◌, ◌<◌, Bool, List, [], ◌∷◌, length, map, get_or, Option, None, refl, ap, sym, subst, ◌∙◌, arith, All, ◌⊎◌, inl, inr}
use Rattle.std.specs.List.{AllZip, Any, Contains}
use Rattle.std.proofs.lemmas.List.Elements.{All-cons, All-nil, All-head, All-tail, All-get_or}
use Rattle.formulas.specs.declared.formula.Formula.{Formula}
use Rattle.merge_model.specs.declared.answer.Shown.{Shown}
use Rattle.merge_model.specs.declared.answer.Verdict.{Verdict}
use Rattle.merge_model.specs.Merging.{Profile, HasModel, LacksModel, models_of}
use Rattle.merge_model.specs.Answers.{IsNamedEntry, NamesModels, IsRightMerge}
use Rattle.merge_model.specs.Plain.{first_of}
use Rattle.merge_model.proofs.Among.{Among, model_among, among_model}

-- the first of the models, or none where there is none
named_at : (n : ℕ) (f : Formula) (models : List (List Bool)) → models_of n f ≡ models → IsNamedEntry n f (first_of models)
named_at n f [] is = λ m. subst (λ (ms : List (List Bool)). Among m.0 ms) is (model_among n f m.0 m.1)
named_at n f (v ∷ models) is = among_model n f v (subst (λ (ms : List (List Bool)). Among v ms) (sym is) (inl refl))

pub entry_named : (n : ℕ) (f : Formula) → IsNamedEntry n f (first_of (models_of n f))
entry_named n f = named_at n f (models_of n f) refl

pub entries_named : (n : ℕ) (bases : List Formula) → AllZip (IsNamedEntry n) bases (map first_of (map (models_of n) bases))
entries_named n [] = tt
entries_named n (f ∷ bases) = (entry_named n f, entries_named n bases)

some_model_at : (n : ℕ) (f : Formula) (models : List (List Bool)) → models_of n f ≡ models → 1 ≤ length models → HasModel n f
some_model_at n f [] is some = absurd (omega arith)
some_model_at n f (v ∷ models) is some = (v, among_model n f v (subst (λ (ms : List (List Bool)). Among v ms) (sym is) (inl refl)))

pub some_model : (n : ℕ) (f : Formula) → 1 ≤ length (models_of n f) → HasModel n f
some_model n f some = some_model_at n f (models_of n f) refl some

pub some_models : (n : ℕ) (bases : List Formula) → All (λ models. 1 ≤ length models) (map (models_of n) bases) → All (HasModel n) bases
some_models n [] h = All-nil (HasModel n)
some_models n (f ∷ bases) h =
    let P : List (List Bool) → Type 0 = λ models. 1 ≤ length models in
    All-cons (HasModel n) f bases
    (some_model n f (All-head P (models_of n f) (map (models_of n) bases) h))
    (some_models n bases (All-tail P (models_of n f) (map (models_of n) bases) h))

-- no list is empty, or some entry is none
all_or_none : (tables : List (List (List Bool))) → All (λ models. 1 ≤ length models) tables ⊎ Contains (map first_of tables) None
all_or_none [] = inl (All-nil (λ models. 1 ≤ length models))
all_or_none ([] ∷ tables) = inr (0, omega arith, refl)
all_or_none ((v ∷ models) ∷ tables) =
    let P : List (List Bool) → Type 0 = λ ms. 1 ≤ length ms in
    elim (all_or_none tables) [
      | inl h ↦ inl (All-cons P (v ∷ models) tables (let one : 1 ≤ length (v ∷ models) = omega arith in one) h)
      | inr m ↦ inr (suc m.0, (let less : m.0 < length (map first_of tables) = m.1 in omega arith), m.2)
    ]

some_none : (candidates : List (List Bool)) (tables : List (List (List Bool))) → ((1 ≤ length candidates) × All (λ models. 1 ≤ length models) tables → ⊥) →
    (first_of candidates ≡ None) ⊎ Contains (map first_of tables) None
some_none [] tables h = inl refl
some_none (v ∷ candidates) tables h = elim (all_or_none tables) [ inl all ↦ absurd (h (omega arith, all)) | inr m ↦ inr m ]

-- where not every formula has a model, the first models name them
pub names : (p : Profile) (candidates : List (List Bool)) (tables : List (List (List Bool))) (constraint : Option (List Bool)) (agents : List (Option (List Bool))) →
    candidates ≡ models_of p.atoms p.constraint → tables ≡ map (models_of p.atoms) p.bases → constraint ≡ first_of candidates → agents ≡ map first_of tables →
    ((1 ≤ length candidates) × All (λ models. 1 ≤ length models) tables → ⊥) → NamesModels p constraint agents
names p candidates tables constraint agents are_models are_tables first firsts lacking =
    let none : (first_of candidates ≡ None) ⊎ Contains (map first_of tables) None = some_none candidates tables lacking in
    record {
      constraint_named = subst (λ (entry : Option (List Bool)). IsNamedEntry p.atoms p.constraint entry) (sym (first ∙ ap first_of are_models)) (entry_named p.atoms p.constraint);
      bases_named = subst (λ (entries : List (Option (List Bool))). AllZip (IsNamedEntry p.atoms) p.bases entries) (sym (firsts ∙ ap (map first_of) are_tables)) (entries_named p.atoms p.bases);
      some_none = elim none [
        | inl e ↦ inl (first ∙ e)
        | inr m ↦ inr (subst (λ (entries : List (Option (List Bool))). Contains entries None) (sym firsts) m)
      ];
    }

-- an entry that is none stands for a base without a model
lacks_at : (n : ℕ) (bases : List Formula) (entries : List (Option (List Bool))) (k : ℕ) → AllZip (IsNamedEntry n) bases entries → k < length entries → get_or entries k None ≡ None →
    Any (λ base. HasModel n base → ⊥) bases
lacks_at n [] [] k h less is = absurd (omega arith)
lacks_at n [] (e ∷ entries) k h less is = absurd h
lacks_at n (f ∷ bases) [] k h less is = absurd h
lacks_at n (f ∷ bases) (e ∷ entries) zero h less is = (0, f, omega arith, refl, subst (λ (entry : Option (List Bool)). IsNamedEntry n f entry) is h.0)
lacks_at n (f ∷ bases) (e ∷ entries) (suc k) h less is =
    let r = lacks_at n bases entries k h.1 (omega arith) is in
    (suc r.0, r.1, (let l : r.0 < length bases = r.2 in omega arith), r.3, r.4)

pub names_lack : (p : Profile) (constraint : Option (List Bool)) (agents : List (Option (List Bool))) → NamesModels p constraint agents → LacksModel p
names_lack p constraint agents h =
    elim h.some_none [
      | inl e ↦ inl (subst (λ (entry : Option (List Bool)). IsNamedEntry p.atoms p.constraint entry) e h.constraint_named)
      | inr m ↦ inr (lacks_at p.atoms p.bases agents m.0 h.bases_named m.1 m.2)
    ]

-- a right merge lacks no model
pub right_has : (dist : List Bool → List Bool → ℕ) (rank : List ℕ → List ℕ) (p : Profile) (asks : List Formula) (best : Shown) (measure : List ℕ) (verdicts : List Verdict) →
    IsRightMerge dist rank p asks best measure verdicts → LacksModel p → ⊥
right_has dist rank p asks best measure verdicts h (inl none) = none (best.model, h.closest.model)
right_has dist rank p asks best measure verdicts h (inr any) =
    any.4 (subst (λ (f : Formula). HasModel p.atoms f) any.3 (All-get_or (HasModel p.atoms) p.bases any.0 any.1 any.2 h.closest.consistent))
