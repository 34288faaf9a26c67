use Rattle.std.proofs.Common.{arith, ◌≡◌, ◌≤◌, ◌-◌, ℕ, List, length, sym, ◌∙◌, subst, true, ap, [], ◌∷◌, ◌++◌, refl, Option, inr}
use Rattle.clause_store.specs.declared.lit.Lit.{Lit}
use Rattle.clause_store.specs.Lits.{Ascends}
use Rattle.clause_store.specs.Clauses.{Clauses, clause_at}
use Rattle.derivation_log.specs.Logs.{Log, known_of, Follows, is_learned}
use Rattle.derivation_log.specs.declared.step.Step.{Step}
use Rattle.derivation_log.specs.declared.step.StepKind.TheVariants.{Learned}
use Rattle.watch_lists.specs.declared.entry.Entry.{Entry}
use Rattle.watch_lists.specs.Trace.{Place, Trace, Attached, room_of, upto}
use Rattle.solver_laws.specs.Ready.{IsReady, IsLog, IsLesson}
use Rattle.solver_laws.proofs.Turns.{ready_learned, is_new, log_more, ready_same, back_two, stand_more, push_get}
use Rattle.watch_lists.specs.Trace.{StandIn}
use Rattle.std.specs.Prelude.{unwrap_or}
use Rattle.solver_laws.specs.Ready.{IsFalseIn}
use Rattle.std.specs.List.{AllByRecursion}
use Rattle.solver_laws.proofs.Fits.{fit_law}
use Rattle.cdcl_core.specs.Turns.{IsKept}
use Rattle.cdcl_core.proofs.engine.keep.Goals as goal

attached_eq : {n m : ℕ} {c d : List Lit} → n ≡ m → c ≡ d → (let x : Attached = record { number = n; clause = c } in let y : Attached = record { number = m; clause = d } in x ≡ y)
attached_eq p q = simp (p, q)

kept : (g g' : Log) (s : Step) → (is_learned s.kind) ≡ true → IsLog (record g { steps = g.steps ++ s ∷ [] }) → (let x : Log = record g { steps = g.steps ++ s ∷ [] } in g' ≡ x) → IsKept g g'
kept g g' s u l e = record {
  log = subst IsLog (sym e) l;
  main = ap (λ (x : Log). x.main) e;
  vars = ap (λ (x : Log). x.vars) e;
  steps = inr (s, u, ap (λ (x : Log). x.steps) e);
}

new_log : (g : Log) (w : List Attached) (f : List Place) (n : ℕ) (t : Trace) (s : Step) (known : List (List Lit)) → IsReady g w f n t → 1 ≤ t.level → known ≡ known_of g → AllByRecursion Ascends known → Follows (known_of g) s → room_of (upto (t.level - 1) t.entries) s.clause ≡ 1 → IsLesson (known_of g) g.vars s.first s.chain s.clause → AllByRecursion (IsFalseIn t.entries) s.clause → IsLog (record g { steps = g.steps ++ s ∷ [] })
new_log g w f n t s known r lv k asc fl one ls fa =
    let low : List Entry = upto (t.level - 1) t.entries in
    log_more g s r.log fl (λ e. is_new g w f n t low s.clause r (r.below (t.level - 1) (omega arith)) (subst (AllByRecursion Ascends) k asc) one) (λ e. fit_law g.vars t.entries low s.clause ls.ascends ls.in_range fa one)

pub attach-requires-clause-stand : goal.attach-requires-clause-stand
attach-requires-clause-stand g c =
    let s : Step = record { kind = Learned; clause = c.args.lesson.clause; first = c.args.lesson.first; chain = c.args.lesson.chain } in
    let w : List Attached = g.P.Propagator.attached c.retreat.new.propagator in
    let k : c.known-2.result.now.list ≡ known_of (record c.args.log.now { steps = c.args.log.now.steps ++ s ∷ [] }) = ap (λ (x : Clauses). x.list) c.known-2.ensures ∙ ap known_of c.in_ok-number.ensures.ok in
    subst (λ (zs : List (List Lit)). StandIn zs w) (sym k) (stand_more c.args.log.now w s c.retreat.ensures.ready.stand)

pub returns-in_err-attach-clause-log : goal.returns-in_err-attach-clause-log
returns-in_err-attach-clause-log g c =
    let s : Step = record { kind = Learned; clause = c.args.lesson.clause; first = c.args.lesson.first; chain = c.args.lesson.chain } in
    kept c.args.log.now c.append.new.self s refl (new_log c.args.log.now (g.P.Propagator.attached c.args.propagator.now) (g.P.Propagator.followed c.args.propagator.now) (g.P.Propagator.vars c.args.propagator.now) c.args.trail.now s c.known.result.now.list c.requires.ready c.requires.level (ap (λ (x : Clauses). x.list) c.known.ensures) c.len.ensures.whole.ascend c.requires.lesson.follows c.requires.one c.requires.lesson c.requires.is_false) c.in_ok-number.ensures.ok

pub returns-clause-log : goal.returns-clause-log
returns-clause-log g c =
    let s : Step = record { kind = Learned; clause = c.args.lesson.clause; first = c.args.lesson.first; chain = c.args.lesson.chain } in
    kept c.args.log.now c.append.new.self s refl (new_log c.args.log.now (g.P.Propagator.attached c.args.propagator.now) (g.P.Propagator.followed c.args.propagator.now) (g.P.Propagator.vars c.args.propagator.now) c.args.trail.now s c.known.result.now.list c.requires.ready c.requires.level (ap (λ (x : Clauses). x.list) c.known.ensures) c.len.ensures.whole.ascend c.requires.lesson.follows c.requires.one c.requires.lesson c.requires.is_false) c.in_ok-number.ensures.ok

pub returns-clause-ready : goal.returns-clause-ready
returns-clause-ready g c =
    let g0 : Log = c.args.log.now in
    let s : Step = record { kind = Learned; clause = c.args.lesson.clause; first = c.args.lesson.first; chain = c.args.lesson.chain } in
    let g1 : Log = record g0 { steps = g0.steps ++ s ∷ [] } in
    let w : List Attached = g.P.Propagator.attached c.retreat.new.propagator in
    let f : List Place = g.P.Propagator.followed c.retreat.new.propagator in
    let n : ℕ = g.P.Propagator.vars c.retreat.new.propagator in
    let lg = new_log g0 (g.P.Propagator.attached c.args.propagator.now) (g.P.Propagator.followed c.args.propagator.now) (g.P.Propagator.vars c.args.propagator.now) c.args.trail.now s c.known.result.now.list c.requires.ready c.requires.level (ap (λ (x : Clauses). x.list) c.known.ensures) c.len.ensures.whole.ascend c.requires.lesson.follows c.requires.one c.requires.lesson c.requires.is_false in
    let two = back_two c.args.trail.now c.retreat.new.trail c.back_level-level.result c.lits.result.now c.args.lesson.clause c.retreat.ensures.trail c.lits.ensures.value c.requires.one c.back_level-level.ensures.room in
    let r = ready_learned g0 w f n c.retreat.new.trail s c.retreat.ensures.ready refl lg two in
    let k : c.known-2.result.now.list ≡ known_of g1 = ap (λ (x : Clauses). x.list) c.known-2.ensures ∙ ap known_of c.in_ok-number.ensures.ok in
    let cl : clause_at c.known-2.result.now.list c.in_ok-number.number ≡ s.clause =
    ap (λ (zs : List (List Lit)). clause_at zs c.in_ok-number.number) k ∙ ap (clause_at (known_of g1)) c.in_ok-number.ensures.number ∙ ap (λ (o : Option (List Lit)). unwrap_or o []) (push_get g0 s) in
    let at : (let x : Attached = record { number = length (known_of g0); clause = s.clause } in let y : Attached = record { number = c.in_ok-number.number; clause = clause_at c.known-2.result.now.list c.in_ok-number.number } in x ≡ y) = attached_eq (sym c.in_ok-number.ensures.number) (sym cl) in
    let w1 : w ++ record { number = length (known_of g0); clause = s.clause } ∷ [] ≡ g.P.Propagator.attached c.attach.new.self = ap (λ (x : Attached). w ++ x ∷ []) at ∙ sym c.in_ok-attach.ensures.ok in
    ready_same g1 c.append.new.self (w ++ record { number = length (known_of g0); clause = s.clause } ∷ []) (g.P.Propagator.attached c.attach.new.self) f (g.P.Propagator.followed c.attach.new.self) n (g.P.Propagator.vars c.attach.new.self) c.retreat.new.trail c.retreat.new.trail r (sym c.in_ok-number.ensures.ok) w1 (sym c.attach.ensures.followed) (sym c.attach.ensures.vars) refl
