use Rattle.std.proofs.Common.{ℕ, ◌≤◌, length, List, All, sym, ap, ◌∙◌, subst, arith}
use Rattle.std.specs.Prelude.{sum_by}
use Rattle.formulas.specs.declared.formula.Formula.{Formula}
use Rattle.formulas.specs.Formulas.{nodes_of, width_of}
use Rattle.merge_model.specs.declared.agent.Agent.{Agent}
use Rattle.merge_model.specs.Answers.{profile_of}
use Rattle.aggregators.specs.Levels.{LevelsDue, HaveLevels}
use Rattle.formulas.specs.Limits.{node_limit}
use Rattle.merge_encoding.specs.MainDues.{aways_of}
use Rattle.merge_encoding.proofs.Limits.{is_limited}
use Rattle.merge_encoding.proofs.OneAssignment.{copied_of, have_levels, constraint_room}
use Rattle.merge_encoding.proofs.Encoded.{shared_size, shared_in, started, constrained, asked, copied, aways_is, times_are, leveled, asks_room, agents_nodes, whole_list, whole_frame}
use Rattle.merge_encoding.proofs.encoding.encoded.Goals as goal

pub define-requires-clause-known : goal.define-requires-clause-known
define-requires-clause-known g c =
    let p = c.args.problem.now in
    let s = started p c.new-clauses.result c.fresh_lits.new.self c.in_ok-shared.shared.items c.len.result c.new-clauses.ensures c.len.ensures.number c.in_ok-shared.ensures.lits c.in_ok-shared.ensures.ok in
    let lim = is_limited p in
    omega (arith, shared_size p c.deref.result.now (c.deref.ensures.value ∙ s.shared_are), lim.constraint_wide)

pub define-requires-clause-room : goal.define-requires-clause-room
define-requires-clause-room g c =
    let p = c.args.problem.now in
    let s = started p c.new-clauses.result c.fresh_lits.new.self c.in_ok-shared.shared.items c.len.result c.new-clauses.ensures c.len.ensures.number c.in_ok-shared.ensures.lits c.in_ok-shared.ensures.ok in
    let k = p.limits in
    omega (arith, s.vars, k.few_atoms, k.few_nodes)

pub define-requires-clause-in_range : goal.define-requires-clause-in_range
define-requires-clause-in_range g c =
    let p = c.args.problem.now in
    let s = started p c.new-clauses.result c.fresh_lits.new.self c.in_ok-shared.shared.items c.len.result c.new-clauses.ensures c.len.ensures.number c.in_ok-shared.ensures.lits c.in_ok-shared.ensures.ok in
    shared_in p c.deref.result.now c.fresh_lits.new.self.vars (c.deref.ensures.value ∙ s.shared_are) (omega (arith, s.vars))

pub define_all-requires-clause-known : goal.define_all-requires-clause-known
define_all-requires-clause-known g c =
    let p = c.args.problem.now in
    let s = started p c.new-clauses.result c.fresh_lits.new.self c.in_ok-shared.shared.items c.len.result c.new-clauses.ensures c.len.ensures.number c.in_ok-shared.ensures.lits c.in_ok-shared.ensures.ok in
    let lim = is_limited p in
    subst (λ (m : ℕ). All (λ f. width_of f ≤ m) c.as_slice.result.now) (sym (shared_size p c.deref-2.result.now (c.deref-2.ensures.value ∙ s.shared_are)))
    (subst (λ (fs : List Formula). All (λ f. width_of f ≤ length p.atoms) fs) (sym c.as_slice.ensures) lim.asks_wide)

pub define_all-requires-clause-room : goal.define_all-requires-clause-room
define_all-requires-clause-room g c =
    let p = c.args.problem.now in
    let s = started p c.new-clauses.result c.fresh_lits.new.self c.in_ok-shared.shared.items c.len.result c.new-clauses.ensures c.len.ensures.number c.in_ok-shared.ensures.lits c.in_ok-shared.ensures.ok in
    let f = constrained p _ c.deref.result.now c.fresh_lits.new.self c.define.new.clauses c.in_ok-constraint.constraint s c.deref.ensures.value c.in_ok-constraint.ensures.root c.in_ok-constraint.ensures.vars c.in_ok-constraint.ensures.list in
    let k = p.limits in
    omega (arith, f.vars, constraint_room (profile_of p), k.few_atoms, k.few_nodes, ap (sum_by nodes_of) c.as_slice.ensures)

pub define_all-requires-clause-in_range : goal.define_all-requires-clause-in_range
define_all-requires-clause-in_range g c =
    let p = c.args.problem.now in
    let s = started p c.new-clauses.result c.fresh_lits.new.self c.in_ok-shared.shared.items c.len.result c.new-clauses.ensures c.len.ensures.number c.in_ok-shared.ensures.lits c.in_ok-shared.ensures.ok in
    let f = constrained p _ c.deref.result.now c.fresh_lits.new.self c.define.new.clauses c.in_ok-constraint.constraint s c.deref.ensures.value c.in_ok-constraint.ensures.root c.in_ok-constraint.ensures.vars c.in_ok-constraint.ensures.list in
    shared_in p c.deref-2.result.now c.define.new.clauses.vars (c.deref-2.ensures.value ∙ s.shared_are) (omega (arith, f.vars, constraint_room (profile_of p)))

pub copy_all-requires-clause-some : goal.copy_all-requires-clause-some
copy_all-requires-clause-some g c =
    let p = c.args.problem.now in
    let s = started p c.new-clauses.result c.fresh_lits.new.self c.in_ok-shared.shared.items c.len.result c.new-clauses.ensures c.len.ensures.number c.in_ok-shared.ensures.lits c.in_ok-shared.ensures.ok in
    let lim = is_limited p in
    omega (arith, shared_size p c.deref-3.result.now (c.deref-3.ensures.value ∙ s.shared_are), lim.some_atom)

pub copy_all-requires-clause-few : goal.copy_all-requires-clause-few
copy_all-requires-clause-few g c =
    let p = c.args.problem.now in
    let s = started p c.new-clauses.result c.fresh_lits.new.self c.in_ok-shared.shared.items c.len.result c.new-clauses.ensures c.len.ensures.number c.in_ok-shared.ensures.lits c.in_ok-shared.ensures.ok in
    let lim = is_limited p in
    omega (arith, shared_size p c.deref-3.result.now (c.deref-3.ensures.value ∙ s.shared_are), lim.few_atoms)

pub copy_all-requires-clause-shared_in : goal.copy_all-requires-clause-shared_in
copy_all-requires-clause-shared_in g c =
    let p = c.args.problem.now in
    let s = started p c.new-clauses.result c.fresh_lits.new.self c.in_ok-shared.shared.items c.len.result c.new-clauses.ensures c.len.ensures.number c.in_ok-shared.ensures.lits c.in_ok-shared.ensures.ok in
    let f = constrained p _ c.deref.result.now c.fresh_lits.new.self c.define.new.clauses c.in_ok-constraint.constraint s c.deref.ensures.value c.in_ok-constraint.ensures.root c.in_ok-constraint.ensures.vars c.in_ok-constraint.ensures.list in
    let q = asked p _ c.deref-2.result.now c.as_slice.result.now c.fresh_lits.new.self c.define.new.clauses c.define_all.new.clauses _ c.in_ok-asks.asks.items s f c.deref-2.ensures.value c.as_slice.ensures c.in_ok-asks.ensures.roots c.in_ok-asks.ensures.vars c.in_ok-asks.ensures.list in
    let room = asks_room p in
    shared_in p c.deref-3.result.now c.define_all.new.clauses.vars (c.deref-3.ensures.value ∙ s.shared_are) (omega (arith, q.vars, room.0))

pub copy_all-requires-clause-few_nodes : goal.copy_all-requires-clause-few_nodes
copy_all-requires-clause-few_nodes g c =
    let p = c.args.problem.now in
    subst (λ (xs : List Agent). All (λ (a : Agent). nodes_of a.base ≤ node_limit) xs) (sym c.as_slice-2.ensures) (agents_nodes p)

pub copy_all-requires-clause-known : goal.copy_all-requires-clause-known
copy_all-requires-clause-known g c =
    let p = c.args.problem.now in
    let s = started p c.new-clauses.result c.fresh_lits.new.self c.in_ok-shared.shared.items c.len.result c.new-clauses.ensures c.len.ensures.number c.in_ok-shared.ensures.lits c.in_ok-shared.ensures.ok in
    let k = p.limits in
    let all : All (λ (a : Agent). width_of a.base ≤ length p.atoms) p.agents = λ i d lt. let w = k.bases_within i d lt in w.width in
    subst (λ (m : ℕ). All (λ (a : Agent). width_of a.base ≤ m) c.as_slice-2.result.now) (sym (shared_size p c.deref-3.result.now (c.deref-3.ensures.value ∙ s.shared_are)))
    (subst (λ (xs : List Agent). All (λ (a : Agent). width_of a.base ≤ length p.atoms) xs) (sym c.as_slice-2.ensures) all)

pub copy_all-requires-clause-room : goal.copy_all-requires-clause-room
copy_all-requires-clause-room g c =
    let p = c.args.problem.now in
    let s = started p c.new-clauses.result c.fresh_lits.new.self c.in_ok-shared.shared.items c.len.result c.new-clauses.ensures c.len.ensures.number c.in_ok-shared.ensures.lits c.in_ok-shared.ensures.ok in
    let f = constrained p _ c.deref.result.now c.fresh_lits.new.self c.define.new.clauses c.in_ok-constraint.constraint s c.deref.ensures.value c.in_ok-constraint.ensures.root c.in_ok-constraint.ensures.vars c.in_ok-constraint.ensures.list in
    let q = asked p _ c.deref-2.result.now c.as_slice.result.now c.fresh_lits.new.self c.define.new.clauses c.define_all.new.clauses _ c.in_ok-asks.asks.items s f c.deref-2.ensures.value c.as_slice.ensures c.in_ok-asks.ensures.roots c.in_ok-asks.ensures.vars c.in_ok-asks.ensures.list in
    let room = asks_room p in
    let k = p.limits in
    omega (arith, q.vars, room.1, ap length c.as_slice-2.ensures, k.few_agents)

pub levels-requires-clause-counters : goal.levels-requires-clause-counters
levels-requires-clause-counters g c =
    let p = c.args.problem.now in
    let due = g.D.Counted.due c.args.distance.now in
    let s = started p c.new-clauses.result c.fresh_lits.new.self c.in_ok-shared.shared.items c.len.result c.new-clauses.ensures c.len.ensures.number c.in_ok-shared.ensures.lits c.in_ok-shared.ensures.ok in
    let f = constrained p _ c.deref.result.now c.fresh_lits.new.self c.define.new.clauses c.in_ok-constraint.constraint s c.deref.ensures.value c.in_ok-constraint.ensures.root c.in_ok-constraint.ensures.vars c.in_ok-constraint.ensures.list in
    let q = asked p _ c.deref-2.result.now c.as_slice.result.now c.fresh_lits.new.self c.define.new.clauses c.define_all.new.clauses _ c.in_ok-asks.asks.items s f c.deref-2.ensures.value c.as_slice.ensures c.in_ok-asks.ensures.roots c.in_ok-asks.ensures.vars c.in_ok-asks.ensures.list in
    let k = copied due p _ c.deref-3.result.now c.as_slice-2.result.now c.fresh_lits.new.self c.define_all.new.clauses c.copy_all.new.clauses _ c.in_ok-copies.copies.items s q c.deref-3.ensures.value c.as_slice-2.ensures c.in_ok-copies.ensures.copies c.in_ok-copies.ensures.vars c.in_ok-copies.ensures.list in
    let aways = c.deref-5.ensures.value ∙ aways_is due p _ c.deref-4.result.now c.copy_all.new.clauses c.in_ok-aways.aways.items k c.deref-4.ensures.value c.in_ok-aways.ensures in
    let times = c.deref-6.ensures.value ∙ times_are p c.as_slice-3.result.now c.in_ok-times.times.items c.as_slice-3.ensures c.in_ok-times.ensures in
    let lim = is_limited p in
    let have = have_levels (g.D.Distance.dist c.args.distance.now) (g.D.Distance.most c.args.distance.now) due (g.A.Levelled.levels_of c.args.aggregator.now) (g.A.Levelled.levels_due c.args.aggregator.now)
    (record { counts = g.met.D.Counted.counts c.args.distance.now; levels = g.met.A.Levelled.are_levels c.args.aggregator.now; bounded = g.met.D.Distance.bounded c.args.distance.now }) (profile_of p) p.asks lim in
    subst (λ (v : ℕ). HaveLevels v c.deref-5.result.now c.deref-6.result.now) (sym k.vars)
    (subst (λ (xs : List (List ℕ)). HaveLevels (copied_of due (profile_of p) p.asks).vars xs c.deref-6.result.now) (sym aways)
    (subst (λ (xs : List ℕ). HaveLevels (copied_of due (profile_of p) p.asks).vars (aways_of (copied_of due (profile_of p) p.asks).copies) xs) (sym times) have))

pub levels-requires-clause-room : goal.levels-requires-clause-room
levels-requires-clause-room g c =
    let p = c.args.problem.now in
    let s = started p c.new-clauses.result c.fresh_lits.new.self c.in_ok-shared.shared.items c.len.result c.new-clauses.ensures c.len.ensures.number c.in_ok-shared.ensures.lits c.in_ok-shared.ensures.ok in
    let f = constrained p _ c.deref.result.now c.fresh_lits.new.self c.define.new.clauses c.in_ok-constraint.constraint s c.deref.ensures.value c.in_ok-constraint.ensures.root c.in_ok-constraint.ensures.vars c.in_ok-constraint.ensures.list in
    let q = asked p _ c.deref-2.result.now c.as_slice.result.now c.fresh_lits.new.self c.define.new.clauses c.define_all.new.clauses _ c.in_ok-asks.asks.items s f c.deref-2.ensures.value c.as_slice.ensures c.in_ok-asks.ensures.roots c.in_ok-asks.ensures.vars c.in_ok-asks.ensures.list in
    let room = asks_room p in
    let k = p.limits in
    omega (arith, q.vars, room.1, ap length c.as_slice-2.ensures, k.few_agents, c.in_ok-copies.ensures.room)

pub returns-clause-frame : goal.returns-clause-frame
returns-clause-frame g c =
    let p = c.args.problem.now in
    let due = g.D.Counted.due c.args.distance.now in
    let s = started p c.new-clauses.result c.fresh_lits.new.self c.in_ok-shared.shared.items c.len.result c.new-clauses.ensures c.len.ensures.number c.in_ok-shared.ensures.lits c.in_ok-shared.ensures.ok in
    let f = constrained p _ c.deref.result.now c.fresh_lits.new.self c.define.new.clauses c.in_ok-constraint.constraint s c.deref.ensures.value c.in_ok-constraint.ensures.root c.in_ok-constraint.ensures.vars c.in_ok-constraint.ensures.list in
    let q = asked p _ c.deref-2.result.now c.as_slice.result.now c.fresh_lits.new.self c.define.new.clauses c.define_all.new.clauses _ c.in_ok-asks.asks.items s f c.deref-2.ensures.value c.as_slice.ensures c.in_ok-asks.ensures.roots c.in_ok-asks.ensures.vars c.in_ok-asks.ensures.list in
    let k = copied due p _ c.deref-3.result.now c.as_slice-2.result.now c.fresh_lits.new.self c.define_all.new.clauses c.copy_all.new.clauses _ c.in_ok-copies.copies.items s q c.deref-3.ensures.value c.as_slice-2.ensures c.in_ok-copies.ensures.copies c.in_ok-copies.ensures.vars c.in_ok-copies.ensures.list in
    let aways = c.deref-5.ensures.value ∙ aways_is due p _ c.deref-4.result.now c.copy_all.new.clauses c.in_ok-aways.aways.items k c.deref-4.ensures.value c.in_ok-aways.ensures in
    let times = c.deref-6.ensures.value ∙ times_are p c.as_slice-3.result.now c.in_ok-times.times.items c.as_slice-3.ensures c.in_ok-times.ensures in
    let levels_due = g.A.Levelled.levels_due c.args.aggregator.now in
    let e = leveled due levels_due p _ c.copy_all.new.clauses c.deref-5.result.now c.deref-6.result.now k aways times in
    whole_frame due levels_due p c.from_vec.result c.in_ok-constraint.constraint c.from_vec-2.result c.from_vec-3.result c.from_vec-4.result
    (c.from_vec.ensures ∙ s.shared_are) f.root_is (c.from_vec-2.ensures ∙ q.roots_are) (c.from_vec-3.ensures ∙ k.copies_are) (c.from_vec-4.ensures ∙ c.in_ok-levels.ensures.levels ∙ ap (λ (x : LevelsDue). x.levels) e)

pub returns-clause-vars : goal.returns-clause-vars
returns-clause-vars g c =
    let p = c.args.problem.now in
    let due = g.D.Counted.due c.args.distance.now in
    let s = started p c.new-clauses.result c.fresh_lits.new.self c.in_ok-shared.shared.items c.len.result c.new-clauses.ensures c.len.ensures.number c.in_ok-shared.ensures.lits c.in_ok-shared.ensures.ok in
    let f = constrained p _ c.deref.result.now c.fresh_lits.new.self c.define.new.clauses c.in_ok-constraint.constraint s c.deref.ensures.value c.in_ok-constraint.ensures.root c.in_ok-constraint.ensures.vars c.in_ok-constraint.ensures.list in
    let q = asked p _ c.deref-2.result.now c.as_slice.result.now c.fresh_lits.new.self c.define.new.clauses c.define_all.new.clauses _ c.in_ok-asks.asks.items s f c.deref-2.ensures.value c.as_slice.ensures c.in_ok-asks.ensures.roots c.in_ok-asks.ensures.vars c.in_ok-asks.ensures.list in
    let k = copied due p _ c.deref-3.result.now c.as_slice-2.result.now c.fresh_lits.new.self c.define_all.new.clauses c.copy_all.new.clauses _ c.in_ok-copies.copies.items s q c.deref-3.ensures.value c.as_slice-2.ensures c.in_ok-copies.ensures.copies c.in_ok-copies.ensures.vars c.in_ok-copies.ensures.list in
    let aways = c.deref-5.ensures.value ∙ aways_is due p _ c.deref-4.result.now c.copy_all.new.clauses c.in_ok-aways.aways.items k c.deref-4.ensures.value c.in_ok-aways.ensures in
    let times = c.deref-6.ensures.value ∙ times_are p c.as_slice-3.result.now c.in_ok-times.times.items c.as_slice-3.ensures c.in_ok-times.ensures in
    let levels_due = g.A.Levelled.levels_due c.args.aggregator.now in
    let e = leveled due levels_due p _ c.copy_all.new.clauses c.deref-5.result.now c.deref-6.result.now k aways times in
    c.in_ok-levels.ensures.vars ∙ ap (λ (x : LevelsDue). x.vars) e

pub returns-clause-list : goal.returns-clause-list
returns-clause-list g c =
    let p = c.args.problem.now in
    let due = g.D.Counted.due c.args.distance.now in
    let s = started p c.new-clauses.result c.fresh_lits.new.self c.in_ok-shared.shared.items c.len.result c.new-clauses.ensures c.len.ensures.number c.in_ok-shared.ensures.lits c.in_ok-shared.ensures.ok in
    let f = constrained p _ c.deref.result.now c.fresh_lits.new.self c.define.new.clauses c.in_ok-constraint.constraint s c.deref.ensures.value c.in_ok-constraint.ensures.root c.in_ok-constraint.ensures.vars c.in_ok-constraint.ensures.list in
    let q = asked p _ c.deref-2.result.now c.as_slice.result.now c.fresh_lits.new.self c.define.new.clauses c.define_all.new.clauses _ c.in_ok-asks.asks.items s f c.deref-2.ensures.value c.as_slice.ensures c.in_ok-asks.ensures.roots c.in_ok-asks.ensures.vars c.in_ok-asks.ensures.list in
    let k = copied due p _ c.deref-3.result.now c.as_slice-2.result.now c.fresh_lits.new.self c.define_all.new.clauses c.copy_all.new.clauses _ c.in_ok-copies.copies.items s q c.deref-3.ensures.value c.as_slice-2.ensures c.in_ok-copies.ensures.copies c.in_ok-copies.ensures.vars c.in_ok-copies.ensures.list in
    let aways = c.deref-5.ensures.value ∙ aways_is due p _ c.deref-4.result.now c.copy_all.new.clauses c.in_ok-aways.aways.items k c.deref-4.ensures.value c.in_ok-aways.ensures in
    let times = c.deref-6.ensures.value ∙ times_are p c.as_slice-3.result.now c.in_ok-times.times.items c.as_slice-3.ensures c.in_ok-times.ensures in
    let levels_due = g.A.Levelled.levels_due c.args.aggregator.now in
    let e = leveled due levels_due p _ c.copy_all.new.clauses c.deref-5.result.now c.deref-6.result.now k aways times in
    whole_list due levels_due p _ c.copy_all.new.clauses c.levels.new.clauses _ k e c.in_ok-levels.ensures.list
