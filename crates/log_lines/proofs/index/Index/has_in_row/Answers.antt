use Rattle.std.proofs.Common.{◌≡◌, ◌<◌, ◌≤◌, List, [], length, ap, sym, ◌∙◌, arith, inl, inr}
use Rattle.std.specs.Prelude.{Option, unwrap_or}
use Rattle.clause_store.specs.declared.lit.Lit.{Lit}
use Rattle.clause_store.specs.Clauses.{clause_at}
use Rattle.clause_store.specs.Lits.{rank_of}
use Rattle.watch_lists.proofs.Walks.{rank_lt}
use Rattle.log_lines.proofs.Indexed.{round_begin, round_on, round_over, round_in, round_row, round_number, round_next}
use Rattle.log_lines.proofs.index.Index.has_in_row.Goals as goal

pub loop-turn-init : goal.loop-turn-init
loop-turn-init c = λ before bound lists h.
    let self = c.args.self.now in
    let low = rank_lt c.args.lit c.args.known.now.vars c.requires.within in
    let lt : rank_of c.args.lit < length self.heads.items = omega (arith, low, h.all_heads) in
    round_begin self.heads.items self.next.items self.empty c.args.known.now before bound c.args.clause.now c.args.lit lists c.rank-row.result c.index-number.result.now h lt c.rank-row.ensures c.index-number.ensures

pub loop-turn-preserved : goal.loop-turn-preserved
loop-turn-preserved c = λ before bound lists h.
    let self = c.loop-turn.self in
    let known = c.args.known.now in
    let value : clause_at known.list c.loop-turn.number ≡ c.clause.result.now =
    ap (clause_at known.list) (sym c.from.ensures) ∙ ap (λ (o : Option (List Lit)). unwrap_or o []) c.clause.ensures.value in
    round_on self.heads.items self.next.items self.empty known before bound c.args.clause.now c.args.lit lists c.loop-turn.number c.loop-turn.turn
    c.push.new.self.heads.items c.push.new.self.next.items c.push.new.self.empty c.rank.result c.index-after.result.now c.clause.result.now c.in-Some.other
    (c.loop-turn.invariant before bound lists h) c.if-number.false value c.in-Some.ensures.0 c.in-Some.ensures.1 c.requires.own c.clause.ensures.in_range c.rank.ensures
    c.push.ensures.heads c.push.ensures.next c.push.ensures.empty c.index-after.ensures

pub index-after-requires : goal.index-after-requires
index-after-requires c =
    let self = c.loop-turn.self in
    let q = c.requires.index in
    let lt = round_next self.heads.items self.next.items self.empty c.args.known.now q.0 q.1 c.args.clause.now c.args.lit q.2.0 c.loop-turn.number c.loop-turn.turn (c.loop-turn.invariant q.0 q.1 q.2.0 q.2.1) c.if-number.false in
    omega (arith, lt, self.next.ok.0)

pub clause-requires : goal.clause-requires
clause-requires c =
    let self = c.loop-turn.self in
    let q = c.requires.index in
    let lt = round_number self.heads.items self.next.items self.empty c.args.known.now q.0 q.1 c.args.clause.now c.args.lit q.2.0 c.loop-turn.number c.loop-turn.turn (c.loop-turn.invariant q.0 q.1 q.2.0 q.2.1) c.if-number.false in
    omega (arith, lt, c.from.ensures)

pub returns-in-None-clause-found : goal.returns-in-None-clause-found
returns-in-None-clause-found c = λ t before bound h.
    let self = c.loop-turn.self in
    let value : clause_at c.args.known.now.list c.loop-turn.number ≡ c.clause.result.now =
    ap (clause_at c.args.known.now.list) (sym c.from.ensures) ∙ ap (λ (o : Option (List Lit)). unwrap_or o []) c.clause.ensures.value in
    round_in self.heads.items self.next.items self.empty c.args.known.now before bound c.args.clause.now c.args.lit h.0 c.loop-turn.number c.loop-turn.turn (c.loop-turn.invariant before bound h.0 h.1) c.if-number.false c.clause.result.now value c.in-None.ensures

pub push-requires-clause-row : goal.push-requires-clause-row
push-requires-clause-row c =
    let self = c.loop-turn.self in
    let q = c.requires.index in
    let lt = round_row self.heads.items self.next.items self.empty c.args.known.now q.0 q.1 c.args.clause.now c.args.lit q.2.0 c.loop-turn.number c.loop-turn.turn (c.loop-turn.invariant q.0 q.1 q.2.0 q.2.1) c.clause.result.now c.in-Some.other c.in-Some.ensures.0 c.clause.ensures.in_range in
    omega (arith, lt, c.rank.ensures)

pub push-requires-clause-number : goal.push-requires-clause-number
push-requires-clause-number c =
    let self = c.loop-turn.self in
    let q = c.requires.index in
    round_next self.heads.items self.next.items self.empty c.args.known.now q.0 q.1 c.args.clause.now c.args.lit q.2.0 c.loop-turn.number c.loop-turn.turn (c.loop-turn.invariant q.0 q.1 q.2.0 q.2.1) c.if-number.false

pub returns-after-loop-turn-clause-none : goal.returns-after-loop-turn-clause-none
returns-after-loop-turn-clause-none c = λ e before bound lists h.
    let self = c.loop-turn.self in
    let r = c.loop-turn.invariant before bound lists h in
    let past : length self.next.items ≤ c.loop-turn.turn = omega (arith, c.loop-turn-test.false, c.len-turn-end.ensures, c.args.self.now.next.ok.0, r.2.all_next, h.all_next) in
    round_over self.heads.items self.next.items self.empty c.args.known.now before bound c.args.clause.now c.args.lit lists c.loop-turn.number c.loop-turn.turn r (inr past)

pub returns-then-number-clause-none : goal.returns-then-number-clause-none
returns-then-number-clause-none c = λ e before bound lists h.
    let self = c.loop-turn.self in
    round_over self.heads.items self.next.items self.empty c.args.known.now before bound c.args.clause.now c.args.lit lists c.loop-turn.number c.loop-turn.turn (c.loop-turn.invariant before bound lists h) (inl c.if-number.true)
