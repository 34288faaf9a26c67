use Rattle.std.proofs.Common.{◌≡◌, ◌∙◌, true, false, List, sym, ap, arith, refl, inr, drop, ◌+◌}
use Rattle.std.specs.Prelude.{slice_index_or}
use Rattle.clause_store.specs.declared.lit.Lit.{Lit}
use Rattle.clause_store.specs.Lits.{has, negated}
use Rattle.derivation_log.specs.declared.step.Link.{Link}
use Rattle.log_checker.specs.Verdicts.{chain_from}
use Rattle.clause_store.specs.Clauses.{clause_at}
use Rattle.log_checker.proofs.Chains.{walk_stop, walk_on, and_false}
use Rattle.log_checker.proofs.checking.end_of_chain.Goals as goal

pub returns-then-not-has_lit : goal.returns-then-not-has_lit
returns-then-not-has_lit c =
    let d : Link = record { pivot = record { var = 0; positive = false }; number = 0 } in
    let known = c.args.known.now.list in
    let links = c.args.links.now in
    let i = c.loop-link.link-index in
    let link = slice_index_or links i d in
    let other = c.clause-other.result.now in
    let n : has (negated link.pivot) other ≡ false = ap (λ (q : Lit). has q other) (sym c.negated.ensures) ∙ sym c.has_lit.ensures ∙ c.if-not-has_lit.true in
    inr (
      c.loop-link.place,
      refl,
      walk_stop known c.loop-link.place c.loop-link.running links i d other (chain_from known 0 (clause_at known c.args.first) links) c.loop-link-test.true c.clause-other.ensures.value
          (and_false (has link.pivot c.loop-link.running) (has (negated link.pivot) other) n) c.loop-link.invariant.so_far,
    )

pub loop-link-preserved : goal.loop-link-preserved
loop-link-preserved c =
    let d : Link = record { pivot = record { var = 0; positive = false }; number = 0 } in
    let known = c.args.known.now.list in
    let links = c.args.links.now in
    let i = c.loop-link.link-index in
    let link = slice_index_or links i d in
    let other = c.clause-other.result.now in
    let p : has link.pivot c.loop-link.running ≡ true = sym c.has.ensures ∙ c.if-not-has.false in
    let n : has (negated link.pivot) other ≡ true = ap (λ (q : Lit). has q other) (sym c.negated.ensures) ∙ sym c.has_lit.ensures ∙ c.if-not-has_lit.false in
    record {
      place = omega (arith, c.loop-link.invariant.place);
      so_far = ap (λ (x : List Lit). chain_from known (c.loop-link.place + 1) x (drop (i + 1) links)) c.in_ok-made.ensures
          ∙ walk_on known c.loop-link.place c.loop-link.running links i d other (chain_from known 0 (clause_at known c.args.first) links) c.loop-link-test.true c.clause-other.ensures.value p n c.loop-link.invariant.so_far;
    }
