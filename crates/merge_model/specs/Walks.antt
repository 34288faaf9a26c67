-- What one pass over all valuations finds of a problem in which every formula has a model.
use Rattle.std.specs.Prelude.{◌≡◌, ℕ, Bool, List, length, map, All}
use Rattle.merge_model.specs.declared.plain.walk.Walk.{Walk}
use Rattle.merge_model.specs.Merging.{Profile, HasModel, models_of, full_of}
use Rattle.merge_model.specs.Plain.{AreComparable, IsBestOf}

pub record IsWalk (dist : List Bool → List Bool → ℕ) (rank : List ℕ → List ℕ) (p : Profile) (walk : Walk) : Type 0 where
  pub consistent : All (HasModel p.atoms) p.bases
  pub candidates : walk.candidates.items ≡ models_of p.atoms p.constraint
  pub tables : walk.tables.items ≡ map (models_of p.atoms) p.bases
  pub fulls : walk.fulls.items ≡ map (full_of dist p) (models_of p.atoms p.constraint)
  pub comparable : AreComparable walk.fulls.items
  pub best : IsBestOf rank walk.fulls.items (length walk.fulls.items) walk.best
