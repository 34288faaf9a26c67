-- A problem has one list.
use Rattle.std.proofs.Common.{◌≡◌, ℕ, ◌+◌, Bool, true, false, List, [], ◌∷◌, ◌++◌, length, take, Option, refl, sym, ap, ◌∙◌, arith, inl, inr, length-append}
use Rattle.merge_model.specs.Merging.{Profile, Keeps, IsListed}
use Rattle.merge_model.specs.declared.problem.Problem.{Problem}
use Rattle.closest_listing.specs.Lists.{AreFirst, list_text}
use Rattle.merge_cli.specs.List.{Listing, Lists}

-- the members with a property, in order, are one list
keeps_once : {X : Type 0} (P : X → Type 0) (xs a b : List X) → Keeps P xs a → Keeps P xs b → a ≡ b
keeps_once P [] a b h k = h ∙ sym k
keeps_once P (x ∷ xs) a b (inl h) (inl k) = h.2 ∙ ap (λ (rest : List _). x ∷ rest) (keeps_once P xs h.1 k.1 h.3 k.3) ∙ sym k.2
keeps_once P (x ∷ xs) a b (inl h) (inr k) = absurd (k.0 h.0)
keeps_once P (x ∷ xs) a b (inr h) (inl k) = absurd (h.0 k.0)
keeps_once P (x ∷ xs) a b (inr h) (inr k) = keeps_once P xs a b h.1 k.1

module _ (dist : List Bool → List Bool → ℕ) (rank : List ℕ → List ℕ) (p : Profile) (after : Option (List Bool)) where
  listed_once : (k : ℕ) (vs ws : List (List Bool)) → IsListed dist rank p after k vs → IsListed dist rank p after k ws → vs ≡ ws
  listed_once k vs ws h i = h.2 ∙ ap (λ (all : List (List Bool)). take k all) (keeps_once _ _ h.0 i.0 h.1 i.1) ∙ sym i.2

  -- one list is not longer than itself
  apart : (count : ℕ) (vs ws : List (List Bool)) → AreFirst dist rank p after count vs true → AreFirst dist rank p after count ws false → ⊥
  apart count vs ws h i =
      let next = h.further refl in
      let same : vs ≡ ws = listed_once count vs ws h.first i.first in
      let longer : vs ++ next.0 ∷ [] ≡ ws = listed_once (count + 1) (vs ++ next.0 ∷ []) ws next.1 (i.all refl) in
      let n : length vs + 1 ≡ length ws = sym (length-append vs (next.0 ∷ [])) ∙ ap length longer in
      let m : length vs ≡ length ws = ap length same in
      omega (arith, n, m)

  first_once : (count : ℕ) (vs ws : List (List Bool)) (more other : Bool) → AreFirst dist rank p after count vs more → AreFirst dist rank p after count ws other → list_text vs more ≡ list_text ws other
  first_once count vs ws true true h i = ap (λ (us : List (List Bool)). list_text us true) (listed_once count vs ws h.first i.first)
  first_once count vs ws false false h i = ap (λ (us : List (List Bool)). list_text us false) (listed_once count vs ws h.first i.first)
  first_once count vs ws true false h i = absurd (apart count vs ws h i)
  first_once count vs ws false true h i = absurd (apart count ws vs i h)

pub one_list : (asked : Listing) (problem : Problem) (text other : List ℕ) → Lists asked problem text → Lists asked problem other → text ≡ other
one_list asked p text other h i = h.spelled ∙ first_once _ _ _ _ asked.count h.valuations i.valuations h.more i.more h.first i.first ∙ sym i.spelled
