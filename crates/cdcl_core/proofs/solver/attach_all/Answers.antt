use Rattle.std.proofs.Common.{arith, ◌≡◌, ◌<◌, ℕ, List, [], ◌∷◌, ◌++◌, length, sym, ◌∙◌, subst, refl, ap, map, take, get_or, zero, suc}
use Rattle.std.proofs.lemmas.List.{take_more}
use Rattle.clause_store.specs.declared.lit.Lit.{Lit}
use Rattle.clause_store.specs.Clauses.{Clauses, clause_at}
use Rattle.derivation_log.specs.Logs.{known_of, clauses_of}
use Rattle.watch_lists.specs.Trace.{Attached, StandIn}
use Rattle.solver_laws.proofs.Turns.{attached_push}
use Rattle.cdcl_core.proofs.solver.attach_all.Goals as goal

at_front : (xs ys : List (List Lit)) (n : ℕ) → n < length xs → clause_at (xs ++ ys) n ≡ get_or xs n []
at_front [] ys n h = absurd (omega arith)
at_front (x ∷ xs) ys zero h = refl
at_front (x ∷ xs) ys (suc n) h = at_front xs ys n (omega arith)

pub loop-number-preserved : goal.loop-number-preserved
loop-number-preserved g c =
    let w : List Attached = g.P.Propagator.attached c.loop-number.propagator in
    let n : ℕ = c.loop-number.number in
    let lt : n < length c.args.log.now.main = omega (arith, c.loop-number-test.true, c.main_len-number-end.ensures) in
    let k : c.known.result.now.list ≡ known_of c.args.log.now = ap (λ (x : Clauses). x.list) c.known.ensures in
    let a : Attached = record { number = n; clause = clause_at c.known.result.now.list n } in
    let cl : clause_at c.known.result.now.list n ≡ get_or c.args.log.now.main n [] = ap (λ (zs : List (List Lit)). clause_at zs n) k ∙ at_front c.args.log.now.main (clauses_of c.args.log.now.steps) n lt in
    record {
      attached = ap (λ (zs : List Attached). map (λ (x : Attached). x.clause) zs) c.in_ok-attach.ensures.ok ∙ attached_push w a ∙ ap (λ (zs : List (List Lit)). zs ++ a.clause ∷ []) c.loop-number.invariant.attached ∙ ap (λ (x : List Lit). take n c.args.log.now.main ++ x ∷ []) cl ∙ sym (take_more c.args.log.now.main n [] lt);
      stand = subst (λ (zs : List (List Lit)). StandIn zs (g.P.Propagator.attached c.attach.new.self)) k c.attach.ensures.stand;
      followed = c.attach.ensures.followed ∙ c.loop-number.invariant.followed;
      vars = c.attach.ensures.vars ∙ c.loop-number.invariant.vars;
    }
