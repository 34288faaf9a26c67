-- The words of a list.
use Rattle.std.proofs.Common.{◌≡◌, ℕ, List, length, drop, refl, sym, ap, ◌∙◌, subst, arith}
use Rattle.std.specs.Prelude.{Option, Some, None, IfNone, slice_get, codes}
use Rattle.merge_model.specs.declared.operator.AggregatorName.{AggregatorName}
use Rattle.merge_model.specs.declared.operator.DistanceName.{DistanceName}
use Rattle.merge_cli.specs.declared.commands.Command.TheVariants as variants
use Rattle.merge_cli.specs.declared.place.Place.{Place}
use Rattle.merge_cli.specs.Commands.{IsNoCommand, unstated, stated, IsList}
use Rattle.merge_cli.specs.Places.{IsPlace}

-- one word stands at a place
one_there : (words : List (List ℕ)) (k : ℕ) (u w : List ℕ) → slice_get words k ≡ Some u → slice_get words k ≡ Some w → u ≡ w
one_there words k u w p q = let same : Some u ≡ Some w = sym p ∙ q in cc

-- words that begin with `list` are those of a command only as those of a list
pub no_list : (words : List (List ℕ)) → slice_get words 0 ≡ Some (codes "list")
    → ((distance : DistanceName) (aggregator : AggregatorName) (count : ℕ) (place : Place) → IsList words distance aggregator count place → ⊥) → IsNoCommand words
no_list words first none (variants.List d a c p) of = none d a c p of
no_list words first none (variants.Merge d a b) (unstated is usual) =
    let there : slice_get words 0 ≡ Some (codes "merge") = rw is refl in
    let same : codes "list" ≡ codes "merge" = one_there words 0 _ _ first there in
    let size : 4 ≡ 5 = ap (λ (w : List ℕ). length w) same in
    omega (arith, size)
no_list words first none (variants.Merge d a b) (stated is few) =
    let there : slice_get words 0 ≡ Some (codes "merge") = rw is refl in
    let same : codes "list" ≡ codes "merge" = one_there words 0 _ _ first there in
    let size : 4 ≡ 5 = ap (λ (w : List ℕ). length w) same in
    omega (arith, size)
no_list words first none variants.Check of =
    let there : slice_get words 0 ≡ Some (codes "check") = rw of refl in
    let same : codes "list" ≡ codes "check" = one_there words 0 _ _ first there in
    let size : 4 ≡ 5 = ap (λ (w : List ℕ). length w) same in
    omega (arith, size)
no_list words first none (variants.Bench n) of =
    let spelled = of.0 in
    let there : slice_get words 0 ≡ Some (codes "bench") = rw spelled refl in
    let same : codes "list" ≡ codes "bench" = one_there words 0 _ _ first there in
    let size : 4 ≡ 5 = ap (λ (w : List ℕ). length w) same in
    omega (arith, size)

pub list_place : (words : List (List ℕ)) (distance : DistanceName) (aggregator : AggregatorName) (count : ℕ) (place : Place)
    → IsList words distance aggregator count place → IsPlace (drop 4 words) place
list_place words distance aggregator count place h =
    let same : drop 4 words ≡ h.last = ap (λ (ws : List (List ℕ)). drop 4 ws) h.spelled in
    subst (λ (ws : List (List ℕ)). IsPlace ws place) (sym same) h.begins

-- nothing is found, for what holds anyway
pub if_none : {A : Type 0} (found : Option A) (none : Type 0) → none → IfNone found none
if_none None none h = h
if_none (Some x) none h = tt
