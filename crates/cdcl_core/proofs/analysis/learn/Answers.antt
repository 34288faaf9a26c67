use Rattle.std.proofs.Common.{arith, ◌≡◌, ◌≤◌, ◌<◌, ◌-◌, ◌+◌, ℕ, List, Bool, sym, ◌∙◌, subst, Some, None, true, false, ap, [], ◌∷◌, ◌++◌, set, length}
use Rattle.std.specs.Prelude.{slice_get}
use Rattle.std.specs.List.{AllByRecursion}
use Rattle.clause_store.specs.declared.lit.Lit.{Lit}
use Rattle.clause_store.specs.Lits.{InRange, sorted_clause, negated, has}
use Rattle.clause_store.specs.Clauses.{clause_at}
use Rattle.clause_store.proofs.Numbered.{clause_at-within}
use Rattle.derivation_log.specs.declared.step.Link.{Link}
use Rattle.watch_lists.specs.declared.entry.Entry.{Entry}
use Rattle.watch_lists.specs.Trace.{Attached, room_of, upto, oldest}
use Rattle.solver_laws.specs.Ready.{IsFalseIn, IsLesson}
use Rattle.solver_laws.proofs.Steps.{walk_start, walk_reason, tops_pos}
use Rattle.cdcl_core.specs.Marked.{mark_of, lower, others, IsAdded}
use Rattle.cdcl_core.proofs.Walks.{at_entry, reason_within}
use Rattle.cdcl_core.proofs.Claims.{oldest_all}
use Rattle.cdcl_core.proofs.Learning.{Here, lower_is, added_first, here_skip, here_step, here_end, rooms_few, room_low}
use Rattle.cdcl_core.proofs.analysis.learn.Goals as goal

pub back-init : goal.back-init
back-init g c =
    let w : List Attached = g.P.Propagator.attached c.args.propagator.now in
    let known : List (List Lit) = c.args.known.now.list in
    let es : List Entry = c.args.trail.now.entries in
    let vars : ℕ = c.args.trail.now.vars in
    let low : List Entry = upto (c.args.trail.now.level - 1) es in
    let d : List Lit = c.clause.result.now in
    let m : List Bool = c.args.marks.now.marked.items in
    let k : List Lit = c.args.marks.now.kept.items in
    let m' : List Bool = c.add.new.self.marked.items in
    let k' : List Lit = c.add.new.self.kept.items in
    let r : InRange vars d = subst (λ (v : ℕ). InRange v d) (sym c.requires.can.vars) c.clause.ensures.in_range in
    let s = walk_start known w c.args.trail.now c.args.first d c.requires.can.stand c.requires.can.justified c.facts.ensures c.requires.level c.requires.complete c.requires.falsified c.clause.ensures.value c.clause.ensures.ascends r in
    let lw : lower c.level-level.result es ≡ low = ap (λ (n : ℕ). lower n es) c.level-level.ensures ∙ lower_is c.args.trail.now.level es c.requires.level in
    let add = subst (λ (lo : List Entry). IsAdded es lo m k m' k' (others None d) c.in_ok-count.count) lw c.in_ok-count.ensures.added in
    let one = added_first es low vars m m' k k' d c.in_ok-count.count c.requires.clear c.clause.ensures.ascends add in
    let h : Here known w vars low es es c.args.first [] m' k' c.in_ok-count.count = record { clause = d; walked = s; held = one.0; counted = sym (one.1 s.whole) } in
    let o : oldest c.len-left.result es ≡ es = ap (λ (n : ℕ). oldest n es) c.len-left.ensures ∙ oldest_all es in
    let h1 = subst (λ (rest : List Entry). Here known w vars low rest es c.args.first [] m' k' c.in_ok-count.count) (sym o) h in
    record {
      within = omega (arith, c.len-left.ensures);
      size = c.add.ensures.size;
      here = subst (λ (ch : List Link). Here known w vars low (oldest c.len-left.result es) es c.args.first ch m' k' c.in_ok-count.count) (sym c.new-chain.ensures.items) h1;
    }

pub unreachable-requires : goal.unreachable-requires
unreachable-requires g c =
    let w : List Attached = g.P.Propagator.attached c.args.propagator.now in
    let known : List (List Lit) = c.args.known.now.list in
    let es : List Entry = c.args.trail.now.entries in
    let vars : ℕ = c.args.trail.now.vars in
    let low : List Entry = upto (c.args.trail.now.level - 1) es in
    let e : Entry = c.entry-entry.result in
    let rest : List Entry = oldest (c.back.left - 1) es in
    let m : List Bool = c.back.marks.marked.items in
    let k : List Lit = c.back.marks.kept.items in
    let pos = tops_pos low es c.back.left c.back.invariant.here.walked.tops in
    let x = at_entry (λ (rs : List Entry). Here known w vars low rs es c.args.first c.back.chain.items m k c.back.count) c.back.left es e pos c.entry-entry.ensures c.back.invariant.here in
    let two : 2 ≤ room_of low x.clause = omega (arith, x.counted, x.walked.one, c.if-count-eq1.false) in
    walk_reason known w vars c.args.first low rest es e c.back.chain.items x.clause x.walked two c.in_default.is

pub resolve-requires-clause-within : goal.resolve-requires-clause-within
resolve-requires-clause-within g c =
    let w : List Attached = g.P.Propagator.attached c.args.propagator.now in
    let known : List (List Lit) = c.args.known.now.list in
    let es : List Entry = c.args.trail.now.entries in
    let vars : ℕ = c.args.trail.now.vars in
    let low : List Entry = upto (c.args.trail.now.level - 1) es in
    let e : Entry = c.entry-entry.result in
    let rest : List Entry = oldest (c.back.left - 1) es in
    let m : List Bool = c.back.marks.marked.items in
    let k : List Lit = c.back.marks.kept.items in
    let pos = tops_pos low es c.back.left c.back.invariant.here.walked.tops in
    let x = at_entry (λ (rs : List Entry). Here known w vars low rs es c.args.first c.back.chain.items m k c.back.count) c.back.left es e pos c.entry-entry.ensures c.back.invariant.here in
    reason_within w known rest e.lit e.reason c.in-Some.number c.requires.can.stand x.walked.justified.0 c.in-Some.is

pub overflow_add-count : goal.overflow_add-count
overflow_add-count g c =
    let w : List Attached = g.P.Propagator.attached c.args.propagator.now in
    let known : List (List Lit) = c.args.known.now.list in
    let es : List Entry = c.args.trail.now.entries in
    let vars : ℕ = c.args.trail.now.vars in
    let low : List Entry = upto (c.args.trail.now.level - 1) es in
    let e : Entry = c.entry-entry.result in
    let rest : List Entry = oldest (c.back.left - 1) es in
    let m : List Bool = c.back.marks.marked.items in
    let k : List Lit = c.back.marks.kept.items in
    let pos = tops_pos low es c.back.left c.back.invariant.here.walked.tops in
    let x = at_entry (λ (rs : List Entry). Here known w vars low rs es c.args.first c.back.chain.items m k c.back.count) c.back.left es e pos c.entry-entry.ensures c.back.invariant.here in
    let d : List Lit = clause_at known c.in-Some.number in
    let j = reason_within w known rest e.lit e.reason c.in-Some.number c.requires.can.stand x.walked.justified.0 c.in-Some.is in
    let get : slice_get known c.in-Some.number ≡ Some d = clause_at-within known c.in-Some.number j in
    let lw : lower c.level-level.result es ≡ low = ap (λ (n : ℕ). lower n es) c.level-level.ensures ∙ lower_is c.args.trail.now.level es c.requires.level in
    let add = subst (λ (lo : List Entry). IsAdded es lo (set m e.lit.var false) k c.resolve.new.marks.marked.items c.resolve.new.marks.kept.items (others (Some e.lit) d) c.in_ok-count-2.field-0) lw c.in_ok-count-2.ensures.added in
    let mark : mark_of m e.lit.var ≡ true = sym c.is_marked.ensures ∙ c.if-is_marked.true in
    let lt : e.lit.var < length m = omega (arith, x.walked.apart.2, c.back.invariant.size) in
    let s = here_step known w vars low rest es c.args.first c.back.chain.items m c.resolve.new.marks.marked.items k c.resolve.new.marks.kept.items c.back.count e d c.in-Some.number c.in_ok-count-2.field-0 c.requires.can.stand c.requires.complete x mark c.in-Some.is get c.in_ok-count-2.ensures.ascends c.in_ok-count-2.ensures.in_range lt add in
    let few = rooms_few low es vars s.clause c.facts.ensures.apart (λ l f. room_low c.args.trail.now (c.args.trail.now.level - 1) l c.facts.ensures f) s.walked.lesson.ascends s.walked.whole in
    omega (arith, few, s.counted, c.facts.ensures.within, c.facts.ensures.fits)

pub back-preserved-then-is_marked : goal.back-preserved-then-is_marked
back-preserved-then-is_marked g c =
    let w : List Attached = g.P.Propagator.attached c.args.propagator.now in
    let known : List (List Lit) = c.args.known.now.list in
    let es : List Entry = c.args.trail.now.entries in
    let vars : ℕ = c.args.trail.now.vars in
    let low : List Entry = upto (c.args.trail.now.level - 1) es in
    let e : Entry = c.entry-entry.result in
    let rest : List Entry = oldest (c.back.left - 1) es in
    let m : List Bool = c.back.marks.marked.items in
    let k : List Lit = c.back.marks.kept.items in
    let pos = tops_pos low es c.back.left c.back.invariant.here.walked.tops in
    let x = at_entry (λ (rs : List Entry). Here known w vars low rs es c.args.first c.back.chain.items m k c.back.count) c.back.left es e pos c.entry-entry.ensures c.back.invariant.here in
    let d : List Lit = clause_at known c.in-Some.number in
    let j = reason_within w known rest e.lit e.reason c.in-Some.number c.requires.can.stand x.walked.justified.0 c.in-Some.is in
    let get : slice_get known c.in-Some.number ≡ Some d = clause_at-within known c.in-Some.number j in
    let lw : lower c.level-level.result es ≡ low = ap (λ (n : ℕ). lower n es) c.level-level.ensures ∙ lower_is c.args.trail.now.level es c.requires.level in
    let add = subst (λ (lo : List Entry). IsAdded es lo (set m e.lit.var false) k c.resolve.new.marks.marked.items c.resolve.new.marks.kept.items (others (Some e.lit) d) c.in_ok-count-2.field-0) lw c.in_ok-count-2.ensures.added in
    let mark : mark_of m e.lit.var ≡ true = sym c.is_marked.ensures ∙ c.if-is_marked.true in
    let lt : e.lit.var < length m = omega (arith, x.walked.apart.2, c.back.invariant.size) in
    let s = here_step known w vars low rest es c.args.first c.back.chain.items m c.resolve.new.marks.marked.items k c.resolve.new.marks.kept.items c.back.count e d c.in-Some.number c.in_ok-count-2.field-0 c.requires.can.stand c.requires.complete x mark c.in-Some.is get c.in_ok-count-2.ensures.ascends c.in_ok-count-2.ensures.in_range lt add in
    record {
      within = omega (arith, c.back.invariant.within);
      size = c.resolve.ensures.size;
      here = subst (λ (ch : List Link). Here known w vars low rest es c.args.first ch c.resolve.new.marks.marked.items c.resolve.new.marks.kept.items (c.back.count - 1 + c.in_ok-count-2.field-0)) (sym c.in_ok-count-2.ensures.chain) s;
    }

pub back-preserved : goal.back-preserved
back-preserved g c =
    let w : List Attached = g.P.Propagator.attached c.args.propagator.now in
    let known : List (List Lit) = c.args.known.now.list in
    let es : List Entry = c.args.trail.now.entries in
    let vars : ℕ = c.args.trail.now.vars in
    let low : List Entry = upto (c.args.trail.now.level - 1) es in
    let e : Entry = c.entry-entry.result in
    let rest : List Entry = oldest (c.back.left - 1) es in
    let m : List Bool = c.back.marks.marked.items in
    let k : List Lit = c.back.marks.kept.items in
    let pos = tops_pos low es c.back.left c.back.invariant.here.walked.tops in
    let x = at_entry (λ (rs : List Entry). Here known w vars low rs es c.args.first c.back.chain.items m k c.back.count) c.back.left es e pos c.entry-entry.ensures c.back.invariant.here in
    record {
      within = omega (arith, c.back.invariant.within);
      size = c.back.invariant.size;
      here = here_skip known w vars low rest es c.args.first c.back.chain.items m k c.back.count e x (sym c.is_marked.ensures ∙ c.if-is_marked.false);
    }

pub finish-requires : goal.finish-requires
finish-requires g c v t =
    let w : List Attached = g.P.Propagator.attached c.args.propagator.now in
    let known : List (List Lit) = c.args.known.now.list in
    let es : List Entry = c.args.trail.now.entries in
    let vars : ℕ = c.args.trail.now.vars in
    let low : List Entry = upto (c.args.trail.now.level - 1) es in
    let e : Entry = c.entry-entry.result in
    let rest : List Entry = oldest (c.back.left - 1) es in
    let m : List Bool = c.back.marks.marked.items in
    let k : List Lit = c.back.marks.kept.items in
    let pos = tops_pos low es c.back.left c.back.invariant.here.walked.tops in
    let x = at_entry (λ (rs : List Entry). Here known w vars low rs es c.args.first c.back.chain.items m k c.back.count) c.back.left es e pos c.entry-entry.ensures c.back.invariant.here in
    let one : c.back.count ≡ 1 = c.if-count-eq1.true in
    let end = here_end known w vars low rest es c.args.first c.back.chain.items m k c.back.count e x (sym c.is_marked.ensures ∙ c.if-is_marked.true) one in
    let kept : c.keep.new.self.kept.items ≡ k ++ negated e.lit ∷ [] = c.in_ok-keep.ensures.kept ∙ ap (λ (y : Lit). k ++ y ∷ []) c.negated.ensures in
    subst (λ (ks : List Lit). (y : Lit) × (y.var ≡ v) × (has y ks ≡ true)) (sym kept) (end.marks v (sym (ap (λ (bs : List Bool). mark_of bs v) c.keep.ensures.marked) ∙ t))

pub returns-clause-lesson : goal.returns-clause-lesson
returns-clause-lesson g c =
    let w : List Attached = g.P.Propagator.attached c.args.propagator.now in
    let known : List (List Lit) = c.args.known.now.list in
    let es : List Entry = c.args.trail.now.entries in
    let vars : ℕ = c.args.trail.now.vars in
    let low : List Entry = upto (c.args.trail.now.level - 1) es in
    let e : Entry = c.entry-entry.result in
    let rest : List Entry = oldest (c.back.left - 1) es in
    let m : List Bool = c.back.marks.marked.items in
    let k : List Lit = c.back.marks.kept.items in
    let pos = tops_pos low es c.back.left c.back.invariant.here.walked.tops in
    let x = at_entry (λ (rs : List Entry). Here known w vars low rs es c.args.first c.back.chain.items m k c.back.count) c.back.left es e pos c.entry-entry.ensures c.back.invariant.here in
    let one : c.back.count ≡ 1 = c.if-count-eq1.true in
    let end = here_end known w vars low rest es c.args.first c.back.chain.items m k c.back.count e x (sym c.is_marked.ensures ∙ c.if-is_marked.true) one in
    let kept : c.keep.new.self.kept.items ≡ k ++ negated e.lit ∷ [] = c.in_ok-keep.ensures.kept ∙ ap (λ (y : Lit). k ++ y ∷ []) c.negated.ensures in
    let is : c.in_ok-finish.field-0 ≡ x.clause = c.in_ok-finish.ensures.clause ∙ ap sorted_clause kept ∙ end.is in
    subst (λ (ch : List Link). IsLesson known c.args.known.now.vars c.args.first ch c.in_ok-finish.field-0) (sym c.from_vec.ensures)
    (subst (λ (n : ℕ). IsLesson known n c.args.first c.back.chain.items c.in_ok-finish.field-0) c.requires.can.vars
    (subst (λ (zs : List Lit). IsLesson known vars c.args.first c.back.chain.items zs) (sym is) end.lesson))

pub returns-clause-is_false : goal.returns-clause-is_false
returns-clause-is_false g c =
    let w : List Attached = g.P.Propagator.attached c.args.propagator.now in
    let known : List (List Lit) = c.args.known.now.list in
    let es : List Entry = c.args.trail.now.entries in
    let vars : ℕ = c.args.trail.now.vars in
    let low : List Entry = upto (c.args.trail.now.level - 1) es in
    let e : Entry = c.entry-entry.result in
    let rest : List Entry = oldest (c.back.left - 1) es in
    let m : List Bool = c.back.marks.marked.items in
    let k : List Lit = c.back.marks.kept.items in
    let pos = tops_pos low es c.back.left c.back.invariant.here.walked.tops in
    let x = at_entry (λ (rs : List Entry). Here known w vars low rs es c.args.first c.back.chain.items m k c.back.count) c.back.left es e pos c.entry-entry.ensures c.back.invariant.here in
    let one : c.back.count ≡ 1 = c.if-count-eq1.true in
    let end = here_end known w vars low rest es c.args.first c.back.chain.items m k c.back.count e x (sym c.is_marked.ensures ∙ c.if-is_marked.true) one in
    let kept : c.keep.new.self.kept.items ≡ k ++ negated e.lit ∷ [] = c.in_ok-keep.ensures.kept ∙ ap (λ (y : Lit). k ++ y ∷ []) c.negated.ensures in
    let is : c.in_ok-finish.field-0 ≡ x.clause = c.in_ok-finish.ensures.clause ∙ ap sorted_clause kept ∙ end.is in
    subst (AllByRecursion (IsFalseIn es)) (sym is) x.walked.whole

pub returns-clause-one : goal.returns-clause-one
returns-clause-one g c =
    let w : List Attached = g.P.Propagator.attached c.args.propagator.now in
    let known : List (List Lit) = c.args.known.now.list in
    let es : List Entry = c.args.trail.now.entries in
    let vars : ℕ = c.args.trail.now.vars in
    let low : List Entry = upto (c.args.trail.now.level - 1) es in
    let e : Entry = c.entry-entry.result in
    let rest : List Entry = oldest (c.back.left - 1) es in
    let m : List Bool = c.back.marks.marked.items in
    let k : List Lit = c.back.marks.kept.items in
    let pos = tops_pos low es c.back.left c.back.invariant.here.walked.tops in
    let x = at_entry (λ (rs : List Entry). Here known w vars low rs es c.args.first c.back.chain.items m k c.back.count) c.back.left es e pos c.entry-entry.ensures c.back.invariant.here in
    let one : c.back.count ≡ 1 = c.if-count-eq1.true in
    let end = here_end known w vars low rest es c.args.first c.back.chain.items m k c.back.count e x (sym c.is_marked.ensures ∙ c.if-is_marked.true) one in
    let kept : c.keep.new.self.kept.items ≡ k ++ negated e.lit ∷ [] = c.in_ok-keep.ensures.kept ∙ ap (λ (y : Lit). k ++ y ∷ []) c.negated.ensures in
    let is : c.in_ok-finish.field-0 ≡ x.clause = c.in_ok-finish.ensures.clause ∙ ap sorted_clause kept ∙ end.is in
    ap (room_of low) is ∙ sym x.counted ∙ one
