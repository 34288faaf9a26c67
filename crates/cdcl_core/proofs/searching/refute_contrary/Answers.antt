use Rattle.std.proofs.Common.{arith, ◌≡◌, ℕ, List, sym, ◌∙◌, subst, Some, None, true, false, ap, [], ◌∷◌, Option}
use Rattle.std.proofs.lemmas.Bool.{cases_eq}
use Rattle.std.proofs.Common.{eqb, inl, inr}
use Rattle.std.specs.Prelude.{slice_get, unwrap_or}
use Rattle.std.proofs.lemmas.Option.{slice_get_within}
use Rattle.clause_store.specs.declared.lit.Lit.{Lit}
use Rattle.clause_store.specs.Lits.{has}
use Rattle.derivation_log.specs.Logs.{known_of}
use Rattle.watch_lists.specs.declared.entry.Entry.{Entry}
use Rattle.watch_lists.specs.Trace.{Attached, entry_of, reason_in}
use Rattle.clause_store.specs.Clauses.{clause_at}
use Rattle.solver_laws.specs.Ready.{IsBarred}
use Rattle.std.specs.List.{AllByRecursion}
use Rattle.watch_lists.proofs.Scans.{contains_all}
use Rattle.cdcl_core.proofs.Claims.{decides_all, AllDecided}
use Rattle.cdcl_core.proofs.Finds.{against, reason_of_entry, contrary_barred, no_opposite}
use Rattle.cdcl_core.proofs.searching.refute_contrary.Goals as goal

decided_entry : (asked : List Lit) (v : ℕ) (es : List Entry) (e : Entry) → AllDecided asked es → entry_of es v ≡ Some e → e.reason ≡ None → has e.lit asked ≡ true
decided_entry asked v [] e d h r = absurd (cc)
decided_entry asked v (x ∷ xs) e d h r =
    elim (cases_eq x.lit.var v) [
      | inl g ↦ (let t : eqb x.lit.var v ≡ true = grind arith in let h' = rw t at h in let q : x ≡ e = cc in subst (λ (y : Entry). has y.lit asked ≡ true) q (d.0 (ap (λ (y : Entry). y.reason) q ∙ r)))
      | inr g ↦ (let t : eqb x.lit.var v ≡ false = grind arith in decided_entry asked v xs e d.1 (rw t at h) r)
    ]

pub refute-requires-clause-within : goal.refute-requires-clause-within
refute-requires-clause-within g c =
    let w : List Attached = g.P.Propagator.attached c.args.propagator.now in
    let a = against c.args.trail.now.entries c.args.lit c.requires.is_false in
    let r : a.entry.reason ≡ Some c.in-Some.first = sym (ap reason_in a.at) ∙ sym c.in-Some.ensures in
    let s = reason_of_entry w c.args.trail.now.vars c.args.lit.var c.args.trail.now.entries a.entry c.in-Some.first c.requires.ready.justified c.facts.ensures.apart a.at r in
    slice_get_within (known_of c.args.log.now) c.in-Some.first s.0 (contains_all (λ (x : Attached). slice_get (known_of c.args.log.now) x.number ≡ Some x.clause) w (record { number = c.in-Some.first; clause = s.0 }) c.requires.ready.stand s.1)

pub refute-requires-clause-barred : goal.refute-requires-clause-barred
refute-requires-clause-barred g c =
    let w : List Attached = g.P.Propagator.attached c.args.propagator.now in
    let a = against c.args.trail.now.entries c.args.lit c.requires.is_false in
    let r : a.entry.reason ≡ Some c.in-Some.first = sym (ap reason_in a.at) ∙ sym c.in-Some.ensures in
    let s = reason_of_entry w c.args.trail.now.vars c.args.lit.var c.args.trail.now.entries a.entry c.in-Some.first c.requires.ready.justified c.facts.ensures.apart a.at r in
    let q = contains_all (λ (x : Attached). slice_get (known_of c.args.log.now) x.number ≡ Some x.clause) w (record { number = c.in-Some.first; clause = s.0 }) c.requires.ready.stand s.1 in
    let e : clause_at (known_of c.args.log.now) c.in-Some.first ≡ s.0 = ap (λ (o : Option (List Lit)). unwrap_or o []) q in
    subst (AllByRecursion (IsBarred c.args.assumptions.now c.args.trail.now.entries)) (sym e) (contrary_barred c.args.assumptions.now c.args.trail.now.entries c.args.lit a.entry.lit s.0 a.lit c.requires.asked s.3)

pub unreachable-requires : goal.unreachable-requires
unreachable-requires g c =
    let a = against c.args.trail.now.entries c.args.lit c.requires.is_false in
    let r : a.entry.reason ≡ None = sym (ap reason_in a.at) ∙ sym c.in-None.ensures in
    let d = decides_all c.args.assumptions.now c.args.trail.now.level c.args.trail.now.level c.args.trail.now.entries c.facts.ensures.stacked (omega arith) c.requires.decides in
    no_opposite c.args.assumptions.now c.args.lit c.requires.distinct c.requires.asked (subst (λ (x : Lit). has x c.args.assumptions.now ≡ true) a.lit (decided_entry c.args.assumptions.now c.args.lit.var c.args.trail.now.entries a.entry d a.at r))
