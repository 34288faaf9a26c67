-- Joins the walks to what the code reads.
use Rattle.std.proofs.Common.{◌≡◌, ℕ, ◌+◌, ◌-◌, ◌<◌, ◌≤◌, List, ◌∷◌, length, ap, ◌∙◌, arith, subst, Some, Option}
use Rattle.std.specs.Prelude.{slice_get}
use Rattle.std.proofs.lemmas.Option.{slice_get_within}
use Rattle.clause_store.specs.declared.lit.Lit.{Lit}
use Rattle.watch_lists.specs.declared.entry.Entry.{Entry}
use Rattle.watch_lists.specs.Trace.{Attached, StandIn, oldest}
use Rattle.solver_laws.specs.Ready.{IsReason}
use Rattle.watch_lists.proofs.Scans.{contains_all}

pub at_entry : (P : List Entry → Type 0) (left : ℕ) (es : List Entry) (e : Entry) → 1 ≤ left → oldest (left - 1 + 1) es ≡ e ∷ oldest (left - 1) es → P (oldest left es) → P (e ∷ oldest (left - 1) es)
at_entry P left es e h q p = let n : left ≡ left - 1 + 1 = omega arith in subst P (ap (λ (k : ℕ). oldest k es) n ∙ q) p

pub reason_within : (watched : List Attached) (known : List (List Lit)) (es : List Entry) (l : Lit) (r : Option ℕ) (n : ℕ) → StandIn known watched → IsReason watched es l r → r ≡ Some n → n < length known
reason_within watched known es l r n st j q =
    let one = subst (λ (o : Option ℕ). IsReason watched es l o) q j in
    slice_get_within known n one.0 (contains_all (λ (a : Attached). slice_get known a.number ≡ Some a.clause) watched (record { number = n; clause = one.0 }) st one.1)
