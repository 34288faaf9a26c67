use Rattle.std.proofs.Common.{◌≡◌, ℕ, ◌+◌, List, ◌++◌, length, sym, ap, ◌∙◌, subst, arith}
use Rattle.std.specs.Prelude.{map}
use Rattle.clause_store.specs.declared.lit.Lit.{Lit}
use Rattle.clause_store.specs.Grew.{Grew}
use Rattle.clause_store.specs.Lits.{InRange, sorted_clause}
use Rattle.clause_store.proofs.Truths.{within_more}
use Rattle.clause_store.proofs.Grows.{grew_none, grew_front, grew_next, grew_vars}
use Rattle.clause_store.proofs.Outcomes.{on_err}
use Rattle.clause_store.specs.Fresh.{fresh_lits}
use Rattle.clause_store.proofs.Fresh.{length-fresh_lits, fresh_lits_in}
use Rattle.clause_store.specs.Clauses.{Clauses}
use Rattle.clause_translation.specs.Definition.{Definition, definition}
use Rattle.agent_copies.specs.Copy.{copy_due}
use Rattle.agent_copies.proofs.Copies.{copy_is}
use Rattle.agent_copies.proofs.copy.copy_agent.Goals as goal

pub returns-in_err-own-clause-err : goal.returns-in_err-own-clause-err
returns-in_err-own-clause-err g c =
    on_err c.from_residual.result (grew_none c.args.clauses.now c.fresh_lits.new.self (copy_due (g.D.Counted.due c.args.distance.now) c.args.clauses.now.vars c.args.shared.now c.args.base.now).clauses c.fresh_lits.ensures.list c.fresh_lits.ensures.more)

pub define-requires-clause-known : goal.define-requires-clause-known
define-requires-clause-known g c =
    let items = c.deref.ensures.value ∙ c.in_ok-own.ensures.lits in
    omega (arith, ap length items, length-fresh_lits c.args.clauses.now.vars (length c.args.shared.now), c.requires.known)

pub define-requires-clause-in_range : goal.define-requires-clause-in_range
define-requires-clause-in_range g c =
    let items = c.deref.ensures.value ∙ c.in_ok-own.ensures.lits in
    subst (λ xs. InRange c.fresh_lits.new.self.vars xs) (sym items) (fresh_lits_in c.args.clauses.now.vars (length c.args.shared.now) c.fresh_lits.new.self.vars (omega (arith, (ap (λ (s : Clauses). s.vars) c.in_ok-own.ensures.ok))))

pub returns-in_err-root-clause-err : goal.returns-in_err-root-clause-err
returns-in_err-root-clause-err g c =
    let items = c.deref.ensures.value ∙ c.in_ok-own.ensures.lits in
    let d = definition (fresh_lits c.args.clauses.now.vars (length c.args.shared.now)) c.args.base.now (c.args.clauses.now.vars + length c.args.shared.now) in
    let due = ap (λ xs. definition xs c.args.base.now c.fresh_lits.new.self.vars) items ∙ ap (definition (fresh_lits c.args.clauses.now.vars (length c.args.shared.now)) c.args.base.now) (ap (λ (s : Clauses). s.vars) c.in_ok-own.ensures.ok) in
    on_err c.from_residual-in_err-root.result
    (grew_front c.args.clauses.now c.define.new.clauses d.clauses (g.D.Counted.due c.args.distance.now d.root c.args.shared.now (fresh_lits c.args.clauses.now.vars (length c.args.shared.now))).clauses
    (grew_vars c.args.clauses.now c.fresh_lits.new.self c.define.new.clauses d.clauses c.fresh_lits.ensures.list c.fresh_lits.ensures.more
    (subst (λ (d : Definition). Grew c.fresh_lits.new.self c.define.new.clauses d.clauses) due c.in_err-root.ensures.err)))

pub returns-in_err-away-clause-err : goal.returns-in_err-away-clause-err
returns-in_err-away-clause-err g c =
    let items = c.deref.ensures.value ∙ c.in_ok-own.ensures.lits in
    let own = fresh_lits c.args.clauses.now.vars (length c.args.shared.now) in
    let d = definition own c.args.base.now (c.args.clauses.now.vars + length c.args.shared.now) in
    let due = ap (λ xs. definition xs c.args.base.now c.fresh_lits.new.self.vars) items ∙ ap (definition own c.args.base.now) (ap (λ (s : Clauses). s.vars) c.in_ok-own.ensures.ok) in
    let list : c.define.new.clauses.list ≡ c.args.clauses.now.list ++ map sorted_clause d.clauses = c.in_ok-root.ensures.list ∙ ap (λ (e : Definition). c.fresh_lits.new.self.list ++ map sorted_clause e.clauses) due ∙ ap (λ (cs : List (List Lit)). cs ++ map sorted_clause d.clauses) c.fresh_lits.ensures.list in
    let root : c.define.new.clauses.vars ≡ d.root = c.in_ok-root.ensures.vars ∙ ap (λ (e : Definition). e.root) due in
    on_err c.from_residual-in_err-away.result
    (grew_next c.args.clauses.now c.define.new.clauses c.counter.new.clauses d.clauses (g.D.Counted.due c.args.distance.now d.root c.args.shared.now own).clauses list (omega (arith, c.in_ok-root.ensures.vars, c.define.ensures.fresh, c.fresh_lits.ensures.more))
    (subst (λ (xs : List Lit). Grew c.define.new.clauses c.counter.new.clauses (g.D.Counted.due c.args.distance.now d.root c.args.shared.now xs).clauses) (c.deref-2.ensures.value ∙ c.in_ok-own.ensures.lits)
    (subst (λ (n : ℕ). Grew c.define.new.clauses c.counter.new.clauses (g.D.Counted.due c.args.distance.now n c.args.shared.now c.deref-2.result.now).clauses) root c.in_err-away.ensures.err)))

pub counter-requires-clause-lengths : goal.counter-requires-clause-lengths
counter-requires-clause-lengths g c =
    let items = c.deref-2.ensures.value ∙ c.in_ok-own.ensures.lits in
    sym (ap length items ∙ length-fresh_lits c.args.clauses.now.vars (length c.args.shared.now))

pub counter-requires-clause-shared_in : goal.counter-requires-clause-shared_in
counter-requires-clause-shared_in g c =
    within_more c.args.clauses.now.vars c.define.new.clauses.vars c.args.shared.now (omega (arith, c.in_ok-root.ensures.vars, c.define.ensures.fresh, c.fresh_lits.ensures.more)) c.requires.shared_in

pub counter-requires-clause-own_in : goal.counter-requires-clause-own_in
counter-requires-clause-own_in g c =
    let items = c.deref-2.ensures.value ∙ c.in_ok-own.ensures.lits in
    subst (λ xs. InRange c.define.new.clauses.vars xs) (sym items) (fresh_lits_in c.args.clauses.now.vars (length c.args.shared.now) c.define.new.clauses.vars (omega (arith, c.in_ok-root.ensures.vars, c.define.ensures.fresh, (ap (λ (s : Clauses). s.vars) c.in_ok-own.ensures.ok))))

pub returns-in_err-own-clause-copies : goal.returns-in_err-own-clause-copies
returns-in_err-own-clause-copies g c =
    copy_is (g.D.Distance.dist c.args.distance.now) (g.D.Distance.most c.args.distance.now) (g.D.Counted.due c.args.distance.now) (g.met.D.Counted.counts c.args.distance.now) c.args.clauses.now.vars c.args.shared.now c.args.base.now c.requires.some c.requires.few c.requires.shared_in c.requires.known

pub returns-in_err-root-clause-copies : goal.returns-in_err-root-clause-copies
returns-in_err-root-clause-copies g c =
    copy_is (g.D.Distance.dist c.args.distance.now) (g.D.Distance.most c.args.distance.now) (g.D.Counted.due c.args.distance.now) (g.met.D.Counted.counts c.args.distance.now) c.args.clauses.now.vars c.args.shared.now c.args.base.now c.requires.some c.requires.few c.requires.shared_in c.requires.known

pub returns-in_err-away-clause-copies : goal.returns-in_err-away-clause-copies
returns-in_err-away-clause-copies g c =
    copy_is (g.D.Distance.dist c.args.distance.now) (g.D.Distance.most c.args.distance.now) (g.D.Counted.due c.args.distance.now) (g.met.D.Counted.counts c.args.distance.now) c.args.clauses.now.vars c.args.shared.now c.args.base.now c.requires.some c.requires.few c.requires.shared_in c.requires.known

pub returns-clause-copies : goal.returns-clause-copies
returns-clause-copies g c =
    copy_is (g.D.Distance.dist c.args.distance.now) (g.D.Distance.most c.args.distance.now) (g.D.Counted.due c.args.distance.now) (g.met.D.Counted.counts c.args.distance.now) c.args.clauses.now.vars c.args.shared.now c.args.base.now c.requires.some c.requires.few c.requires.shared_in c.requires.known
