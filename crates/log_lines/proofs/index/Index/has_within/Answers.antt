use Rattle.std.proofs.Common.{◌≡◌, ◌<◌, ℕ, List, [], get_or, length, ap, sym, ◌∙◌, arith, inl, inr, true, false}
use Rattle.std.specs.Prelude.{Contains}
use Rattle.std.proofs.lemmas.Bool.{cases_eq}
use Rattle.std.proofs.lemmas.List.{get_or_default}
use Rattle.clause_store.specs.declared.lit.Lit.{Lit}
use Rattle.clause_store.specs.Lits.{rank_of, has}
use Rattle.watch_lists.specs.Chains.{list_at}
use Rattle.log_lines.proofs.Included.{contains_has, has_contains}
use Rattle.log_lines.proofs.Indexed.{none_within}
use Rattle.log_lines.proofs.index.Index.has_within.Goals as goal

-- a literal of a place is in the clause
own_at : (clause : List Lit) (k : ℕ) (d : Lit) → k < length clause → has (get_or clause k d) clause ≡ true
own_at clause k d lt = contains_has (get_or clause k d) clause (k, lt, get_or_default clause k (get_or clause k d) d lt)

pub has_in_row-requires-clause-index : goal.has_in_row-requires-clause-index
has_in_row-requires-clause-index c =
    let r = c.requires.index in
    let s = c.loop-lit.invariant r.0 r.1 r.2 in
    (r.0, r.1, (s.0, s.1))

pub has_in_row-requires-clause-own : goal.has_in_row-requires-clause-own
has_in_row-requires-clause-own c = own_at c.args.clause.now c.loop-lit.lit-index (record { var = 0; positive = false }) c.loop-lit-test.true

pub returns-then-has_in_row-clause-found : goal.returns-then-has_in_row-clause-found
returns-then-has_in_row-clause-found c = λ t before bound h.
    let s = c.loop-lit.invariant before bound h in
    c.has_in_row.ensures.found c.if-has_in_row.true before bound (s.0, s.1)

pub loop-lit-preserved : goal.loop-lit-preserved
loop-lit-preserved c = λ before bound h.
    let clause = c.args.clause.now in
    let i = c.loop-lit.lit-index in
    let s = c.loop-lit.invariant before bound h in
    let r = c.has_in_row.ensures.none c.if-has_in_row.false before bound s.0 s.1 in (
      r.0,
      r.1,
      λ k d lt. elim (cases_eq k i) [
        | inl e ↦ ap (λ (j : ℕ). list_at r.0 (rank_of (get_or clause j d))) e
            ∙ ap (λ (l : Lit). list_at r.0 (rank_of l)) (get_or_default clause i d (record { var = 0; positive = false }) c.loop-lit-test.true) ∙ r.2.own
        | inr n ↦ (let below : k < i = omega arith in let t = c.loop-lit-test.true in
            r.2.others (get_or clause k d) (own_at clause k d (omega arith)) (s.2 k d below))
      ],
    )

pub returns-clause-none : goal.returns-clause-none
returns-clause-none c = λ e before bound h.
    let clause = c.args.clause.now in
    let s = c.loop-lit.invariant before bound h in
    let t = c.loop-lit-test.false in
    let lack : Contains before [] → ⊥ = λ own. (let yes = h.1.flagged own in let none = c.if-self.false in absurd (cc)) in (
      none_within c.loop-lit.self.heads.items c.loop-lit.self.next.items c.loop-lit.self.empty c.args.known.now before bound clause s.0 s.1 lack
          (λ l own. let k = has_contains l clause own in ap (λ (m : Lit). list_at s.0 (rank_of m)) (sym k.2) ∙ s.2 k.0 l (omega (arith, k.1))),
      (s.0, s.1),
    )
