-- Formulas that are defined one after another.
use Rattle.std.proofs.Common.{◌≡◌, ℕ, suc, ◌+◌, ◌≤◌, Bool, List, [], ◌∷◌, length, map, refl, ap, ◌∙◌, arith, All}
use Rattle.std.specs.Prelude.{sum_by}
use Rattle.std.proofs.lemmas.List.Elements.{All-head, All-tail}
use Rattle.std.proofs.lemmas.List.Sums.{sum_by-cons}
use Rattle.clause_store.specs.declared.lit.Lit.{Lit}
use Rattle.clause_store.specs.Lits.{InRange}
use Rattle.clause_store.specs.Truth.{AreTrue}
use Rattle.clause_store.specs.Extends.{Extends, Always}
use Rattle.clause_store.proofs.Truths.{within_more, both_true}
use Rattle.clause_store.proofs.Blocks.{no_clause, next_are}
use Rattle.formulas.specs.declared.formula.Formula.{Formula}
use Rattle.formulas.specs.Formulas.{holds, nodes_of, width_of}
use Rattle.clause_translation.specs.Definition.{definition}
use Rattle.clause_translation.proofs.Defines.{defines}
use Rattle.clause_translation.proofs.Parts.{root_is, some_node}
use Rattle.totalizer.specs.Counter.{AreFresh, AreVarsWithin}
use Rattle.totalizer.proofs.Distinct.{fresh_none}
use Rattle.agent_copies.specs.Counter.{truth_of}
use Rattle.agent_copies.proofs.Copies.{fresh_cons}
use Rattle.merge_encoding.specs.MainDues.{DefinedAll, definitions}

-- formulas one after another
pub record AreAllDefined (v : ℕ) (atoms : List Lit) (fs : List Formula) (d : DefinedAll) : Type 0 where
  pub extends : Extends Always (AreTrue d.clauses) v d.vars
  pub values : (b : ℕ → Bool) → AreTrue d.clauses b → map b d.roots ≡ map (λ f. holds f (truth_of b atoms)) fs

pub definitions_are : (atoms : List Lit) (v : ℕ) (fs : List Formula) → InRange v atoms → All (λ f. width_of f ≤ length atoms) fs → AreAllDefined v atoms fs (definitions atoms v fs)
definitions_are atoms v [] in_range wide = record { extends = no_clause Always v (λ a b h p. tt); values = λ b r. refl }
definitions_are atoms v (f ∷ fs) in_range wide =
    let d = definition atoms f v in
    let ds = definitions atoms d.root fs in
    let first = defines f v atoms in_range (All-head (λ g. width_of g ≤ length atoms) f fs wide) in
    let rest = definitions_are atoms d.root fs (within_more v d.root atoms first.extends.grows in_range) (All-tail (λ g. width_of g ≤ length atoms) f fs wide) in
    record {
      extends = next_are Always Always v d.root ds.vars d.clauses ds.clauses first.extends rest.extends (λ b p r. tt);
      values = λ b r.
          let s = both_true b d.clauses ds.clauses r in
          ap (λ x. x ∷ map b ds.roots) (first.value b s.0) ∙ ap (λ xs. holds f (truth_of b atoms) ∷ xs) (rest.values b s.1);
    }

pub roots_size : (atoms : List Lit) (v : ℕ) (fs : List Formula) → length (definitions atoms v fs).roots ≡ length fs
roots_size atoms v [] = refl
roots_size atoms v (f ∷ fs) = ap suc (roots_size atoms (definition atoms f v).root fs)

-- each node takes one variable
pub definitions_room : (atoms : List Lit) (v : ℕ) (fs : List Formula) → (definitions atoms v fs).vars ≡ v + sum_by nodes_of fs
definitions_room atoms v [] = omega arith
definitions_room atoms v (f ∷ fs) = omega (arith, root_is f atoms v, definitions_room atoms (definition atoms f v).root fs, sum_by-cons nodes_of f fs)

pub fresh_within : (v w : ℕ) (xs : List ℕ) → AreFresh v w xs → AreVarsWithin w xs
fresh_within v w xs f = λ k lt. let lo = f.above k lt in let hi = f.within k lt in (omega arith, hi)

-- the roots are distinct and fresh
pub definitions_fresh : (atoms : List Lit) (v : ℕ) (fs : List Formula) → (v ≤ (definitions atoms v fs).vars) × AreFresh v (definitions atoms v fs).vars (definitions atoms v fs).roots
definitions_fresh atoms v [] = (omega arith, fresh_none v v)
definitions_fresh atoms v (f ∷ fs) =
    let d = definition atoms f v in
    let ds = definitions atoms d.root fs in
    let is = root_is f atoms v in
    let some = some_node f in
    let rest = definitions_fresh atoms d.root fs in
    let le = rest.0 in
    (omega arith, fresh_cons v d.root ds.vars d.root ds.roots (omega (arith, is, some)) (omega arith) rest.0 rest.1)
