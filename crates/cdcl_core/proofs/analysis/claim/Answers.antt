use Rattle.std.proofs.Common.{arith, ◌≡◌, ◌<◌, ◌-◌, ℕ, List, Bool, sym, ◌∙◌, subst, Some, true, ap, [], ◌∷◌, ◌++◌, length, refl, Option}
use Rattle.std.specs.Prelude.{slice_get, unwrap_or}
use Rattle.std.specs.List.{AllByRecursion}
use Rattle.clause_store.specs.declared.lit.Lit.{Lit}
use Rattle.clause_store.specs.Lits.{InRange, negated}
use Rattle.clause_store.specs.Clauses.{clause_at}
use Rattle.clause_store.specs.Refutes.{Refutes}
use Rattle.clause_store.proofs.Numbered.{clause_at-within}
use Rattle.derivation_log.specs.declared.step.Link.{Link}
use Rattle.watch_lists.specs.declared.entry.Entry.{Entry}
use Rattle.watch_lists.specs.Trace.{Attached, oldest}
use Rattle.watch_lists.proofs.Fresh.{oldest_zero}
use Rattle.solver_laws.specs.Ready.{IsLesson, IsBarred}
use Rattle.cdcl_core.specs.Marked.{mark_of}
use Rattle.cdcl_core.proofs.Walks.{at_entry, reason_within}
use Rattle.cdcl_core.proofs.Claims.{IsClaiming, claim_end, decides_all, oldest_all}
use Rattle.cdcl_core.proofs.Learning.{There, added_first, there_skip, there_stays, there_step, there_end}
use Rattle.cdcl_core.proofs.analysis.claim.Goals as goal

pub back-init : goal.back-init
back-init g c =
    let w : List Attached = g.P.Propagator.attached c.args.propagator.now in
    let known : List (List Lit) = c.args.known.now.list in
    let es : List Entry = c.args.trail.now.entries in
    let vars : ℕ = c.args.trail.now.vars in
    let asked : List Lit = c.args.assumptions.now in
    let d : List Lit = c.clause.result.now in
    let m : List Bool = c.args.marks.now.marked.items in
    let k : List Lit = c.args.marks.now.kept.items in
    let m' : List Bool = c.add.new.self.marked.items in
    let k' : List Lit = c.add.new.self.kept.items in
    let r : InRange vars d = subst (λ (v : ℕ). InRange v d) (sym c.requires.can.vars) c.clause.ensures.in_range in
    let b : AllByRecursion (IsBarred asked es) d = subst (AllByRecursion (IsBarred asked es)) (ap (λ (o : Option (List Lit)). unwrap_or o []) c.clause.ensures.value) c.requires.barred in
    let s : IsClaiming known w vars asked es c.args.first [] d = record {
      decided = decides_all asked c.args.trail.now.level c.args.trail.now.level es c.facts.ensures.stacked (omega arith) c.requires.decides;
      barred = b;
      justified = c.requires.can.justified;
      lesson = record { follows = (d, c.clause.ensures.value, refl); ascends = c.clause.ensures.ascends; in_range = r };
    } in
    let one = added_first es [] vars m m' k k' d c.in_ok-add.field-0 c.requires.clear c.clause.ensures.ascends c.in_ok-add.ensures.added in
    let h : There known w vars asked es es c.args.first [] m' k' = record { clause = d; claiming = s; held = one.0; apart = c.facts.ensures.apart } in
    let o : oldest c.len-left.result es ≡ es = ap (λ (n : ℕ). oldest n es) c.len-left.ensures ∙ oldest_all es in
    let h1 = subst (λ (rest : List Entry). There known w vars asked rest es c.args.first [] m' k') (sym o) h in
    record {
      within = omega (arith, c.len-left.ensures);
      size = c.add.ensures.size;
      there = subst (λ (ch : List Link). There known w vars asked (oldest c.len-left.result es) es c.args.first ch m' k') (sym c.new-chain.ensures.items) h1;
    }

pub resolve-requires-clause-within : goal.resolve-requires-clause-within
resolve-requires-clause-within g c =
    let w : List Attached = g.P.Propagator.attached c.args.propagator.now in
    let known : List (List Lit) = c.args.known.now.list in
    let es : List Entry = c.args.trail.now.entries in
    let vars : ℕ = c.args.trail.now.vars in
    let asked : List Lit = c.args.assumptions.now in
    let e : Entry = c.entry-entry.result in
    let rest : List Entry = oldest (c.back.left - 1) es in
    let m : List Bool = c.back.marks.marked.items in
    let k : List Lit = c.back.marks.kept.items in
    let x = at_entry (λ (rs : List Entry). There known w vars asked rs es c.args.first c.back.chain.items m k) c.back.left es e (omega (arith, c.back-test.true)) c.entry-entry.ensures c.back.invariant.there in
    reason_within w known rest e.lit e.reason c.in-Some.number c.requires.can.stand x.claiming.justified.0 c.in-Some.is

pub back-preserved-in-Some : goal.back-preserved-in-Some
back-preserved-in-Some g c =
    let w : List Attached = g.P.Propagator.attached c.args.propagator.now in
    let known : List (List Lit) = c.args.known.now.list in
    let es : List Entry = c.args.trail.now.entries in
    let vars : ℕ = c.args.trail.now.vars in
    let asked : List Lit = c.args.assumptions.now in
    let e : Entry = c.entry-entry.result in
    let rest : List Entry = oldest (c.back.left - 1) es in
    let m : List Bool = c.back.marks.marked.items in
    let k : List Lit = c.back.marks.kept.items in
    let x = at_entry (λ (rs : List Entry). There known w vars asked rs es c.args.first c.back.chain.items m k) c.back.left es e (omega (arith, c.back-test.true)) c.entry-entry.ensures c.back.invariant.there in
    let d : List Lit = clause_at known c.in-Some.number in
    let j = reason_within w known rest e.lit e.reason c.in-Some.number c.requires.can.stand x.claiming.justified.0 c.in-Some.is in
    let get : slice_get known c.in-Some.number ≡ Some d = clause_at-within known c.in-Some.number j in
    let mark : mark_of m e.lit.var ≡ true = sym c.is_marked.ensures ∙ c.if-is_marked.true in
    let lt : e.lit.var < length m = omega (arith, x.apart.2, c.back.invariant.size) in
    let n = c.in_ok-resolve-in-Some.field-0 in
    let s = there_step known w vars asked rest es c.args.first c.back.chain.items m c.resolve.new.marks.marked.items k c.resolve.new.marks.kept.items e d c.in-Some.number n c.requires.can.stand x mark c.in-Some.is get c.in_ok-resolve-in-Some.ensures.ascends c.in_ok-resolve-in-Some.ensures.in_range lt c.in_ok-resolve-in-Some.ensures.added in
    record {
      within = omega (arith, c.back.invariant.within);
      size = c.resolve.ensures.size;
      there = subst (λ (ch : List Link). There known w vars asked rest es c.args.first ch c.resolve.new.marks.marked.items c.resolve.new.marks.kept.items) (sym c.in_ok-resolve-in-Some.ensures.chain) s;
    }

pub back-preserved-in_ok-keep-in-None : goal.back-preserved-in_ok-keep-in-None
back-preserved-in_ok-keep-in-None g c =
    let w : List Attached = g.P.Propagator.attached c.args.propagator.now in
    let known : List (List Lit) = c.args.known.now.list in
    let es : List Entry = c.args.trail.now.entries in
    let vars : ℕ = c.args.trail.now.vars in
    let asked : List Lit = c.args.assumptions.now in
    let e : Entry = c.entry-entry.result in
    let rest : List Entry = oldest (c.back.left - 1) es in
    let m : List Bool = c.back.marks.marked.items in
    let k : List Lit = c.back.marks.kept.items in
    let x = at_entry (λ (rs : List Entry). There known w vars asked rs es c.args.first c.back.chain.items m k) c.back.left es e (omega (arith, c.back-test.true)) c.entry-entry.ensures c.back.invariant.there in
    let s = there_stays known w vars asked rest es c.args.first c.back.chain.items m k e x (sym c.is_marked.ensures ∙ c.if-is_marked.true) c.in-None.is in
    let kept : c.keep.new.self.kept.items ≡ k ++ negated e.lit ∷ [] = c.in_ok-keep-in-None.ensures.kept ∙ ap (λ (y : Lit). k ++ y ∷ []) c.negated.ensures in
    let s1 = subst (λ (ks : List Lit). There known w vars asked rest es c.args.first c.back.chain.items m ks) (sym kept) s in
    record {
      within = omega (arith, c.back.invariant.within);
      size = ap (λ (bs : List Bool). length bs) c.keep.ensures.marked ∙ c.back.invariant.size;
      there = subst (λ (bs : List Bool). There known w vars asked rest es c.args.first c.back.chain.items bs c.keep.new.self.kept.items) (sym c.keep.ensures.marked) s1;
    }

pub back-preserved : goal.back-preserved
back-preserved g c =
    let w : List Attached = g.P.Propagator.attached c.args.propagator.now in
    let known : List (List Lit) = c.args.known.now.list in
    let es : List Entry = c.args.trail.now.entries in
    let vars : ℕ = c.args.trail.now.vars in
    let asked : List Lit = c.args.assumptions.now in
    let e : Entry = c.entry-entry.result in
    let rest : List Entry = oldest (c.back.left - 1) es in
    let m : List Bool = c.back.marks.marked.items in
    let k : List Lit = c.back.marks.kept.items in
    let x = at_entry (λ (rs : List Entry). There known w vars asked rs es c.args.first c.back.chain.items m k) c.back.left es e (omega (arith, c.back-test.true)) c.entry-entry.ensures c.back.invariant.there in
    record {
      within = omega (arith, c.back.invariant.within);
      size = c.back.invariant.size;
      there = there_skip known w vars asked rest es c.args.first c.back.chain.items m k e x (sym c.is_marked.ensures ∙ c.if-is_marked.false);
    }

pub finish-requires : goal.finish-requires
finish-requires g c v t =
    let w : List Attached = g.P.Propagator.attached c.args.propagator.now in
    let known : List (List Lit) = c.args.known.now.list in
    let es : List Entry = c.args.trail.now.entries in
    let vars : ℕ = c.args.trail.now.vars in
    let asked : List Lit = c.args.assumptions.now in
    let m : List Bool = c.back.marks.marked.items in
    let k : List Lit = c.back.marks.kept.items in
    let z : c.back.left ≡ 0 = omega (arith, c.back-test.false) in
    let o : oldest c.back.left es ≡ [] = ap (λ (n : ℕ). oldest n es) z ∙ oldest_zero es in
    let x = subst (λ (rs : List Entry). There known w vars asked rs es c.args.first c.back.chain.items m k) o c.back.invariant.there in
    let end = there_end known w vars asked es c.args.first c.back.chain.items m k x in
    end.marks v t

pub returns-clause-lesson : goal.returns-clause-lesson
returns-clause-lesson g c =
    let w : List Attached = g.P.Propagator.attached c.args.propagator.now in
    let known : List (List Lit) = c.args.known.now.list in
    let es : List Entry = c.args.trail.now.entries in
    let vars : ℕ = c.args.trail.now.vars in
    let asked : List Lit = c.args.assumptions.now in
    let m : List Bool = c.back.marks.marked.items in
    let k : List Lit = c.back.marks.kept.items in
    let z : c.back.left ≡ 0 = omega (arith, c.back-test.false) in
    let o : oldest c.back.left es ≡ [] = ap (λ (n : ℕ). oldest n es) z ∙ oldest_zero es in
    let x = subst (λ (rs : List Entry). There known w vars asked rs es c.args.first c.back.chain.items m k) o c.back.invariant.there in
    let end = there_end known w vars asked es c.args.first c.back.chain.items m k x in
    let is : c.in_ok-finish.field-0 ≡ x.clause = c.in_ok-finish.ensures.clause ∙ end.is in
    subst (λ (ch : List Link). IsLesson known c.args.known.now.vars c.args.first ch c.in_ok-finish.field-0) (sym c.from_vec.ensures)
    (subst (λ (n : ℕ). IsLesson known n c.args.first c.back.chain.items c.in_ok-finish.field-0) c.requires.can.vars
    (subst (λ (zs : List Lit). IsLesson known vars c.args.first c.back.chain.items zs) (sym is) end.lesson))

pub returns-clause-refutes : goal.returns-clause-refutes
returns-clause-refutes g c =
    let w : List Attached = g.P.Propagator.attached c.args.propagator.now in
    let known : List (List Lit) = c.args.known.now.list in
    let es : List Entry = c.args.trail.now.entries in
    let vars : ℕ = c.args.trail.now.vars in
    let asked : List Lit = c.args.assumptions.now in
    let m : List Bool = c.back.marks.marked.items in
    let k : List Lit = c.back.marks.kept.items in
    let z : c.back.left ≡ 0 = omega (arith, c.back-test.false) in
    let o : oldest c.back.left es ≡ [] = ap (λ (n : ℕ). oldest n es) z ∙ oldest_zero es in
    let x = subst (λ (rs : List Entry). There known w vars asked rs es c.args.first c.back.chain.items m k) o c.back.invariant.there in
    let end = there_end known w vars asked es c.args.first c.back.chain.items m k x in
    let is : c.in_ok-finish.field-0 ≡ x.clause = c.in_ok-finish.ensures.clause ∙ end.is in
    subst (λ (zs : List Lit). Refutes zs asked) (sym is) (claim_end asked x.clause x.claiming.barred)
