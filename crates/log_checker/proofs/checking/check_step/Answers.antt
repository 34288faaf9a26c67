use Rattle.std.proofs.Common.{◌≡◌, ◌<◌, ◌∙◌, length, true, false, List, sym, subst}
use Rattle.std.specs.List.{AllByRecursion}
use Rattle.derivation_log.specs.declared.step.Link.{Link}
use Rattle.log_checker.specs.Verdicts.{are_below, chain_from, Ends}
use Rattle.clause_store.specs.Clauses.{clause_at}
use Rattle.clause_store.proofs.Truths.{not_both}
use Rattle.log_checker.proofs.Chains.{step_below, not_below, answer_follows, answer_other, answer_err, verdict_ends, same_not, same_yes}
use Rattle.log_checker.proofs.checking.check_step.Goals as goal

pub returns-then-not-are_numbers_below-clause-answer : goal.returns-then-not-are_numbers_below-clause-answer
returns-then-not-are_numbers_below-clause-answer c =
    not_below (length c.args.known.now.list) c.args.step.now (let e = c.are_numbers_below.ensures in let f = c.len.ensures.len in let g = c.if-not-are_numbers_below.true in cc)

pub end_of_chain-requires-clause-links : goal.end_of_chain-requires-clause-links
end_of_chain-requires-clause-links c =
    let b : are_below (length c.args.known.now.list) c.args.step.now ≡ true = (let e = c.are_numbers_below.ensures in let f = c.len.ensures.len in let g = c.if-not-are_numbers_below.false in cc) in
    subst (AllByRecursion (λ (link : Link). link.number < length c.args.known.now.list)) (sym c.as_slice.ensures) (step_below (length c.args.known.now.list) c.args.step.now b).links

pub returns-in_err-end-clause-answer : goal.returns-in_err-end-clause-answer
returns-in_err-end-clause-answer c =
    let b : are_below (length c.args.known.now.list) c.args.step.now ≡ true = (let e = c.are_numbers_below.ensures in let f = c.len.ensures.len in let g = c.if-not-are_numbers_below.false in cc) in
    answer_err c.args.known.now.list c.args.step.now c.from_residual.result c.in_err-end.field-0.0 c.as_slice.result.now c.as_slice.ensures b c.in_err-end.ensures c.from_residual.ensures.1

pub returns-then-not-are_same-clause-answer : goal.returns-then-not-are_same-clause-answer
returns-then-not-are_same-clause-answer c =
    let known = c.args.known.now.list in
    let step = c.args.step.now in
    let b : are_below (length known) step ≡ true = (let e = c.are_numbers_below.ensures in let f = c.len.ensures.len in let g = c.if-not-are_numbers_below.false in cc) in
    let end = subst (λ (ls : List Link). chain_from known 0 (clause_at known step.first) ls ≡ Ends c.in_ok-end.end) c.as_slice.ensures c.in_ok-end.ensures in
    answer_other known step c.in_ok-end.end b end (λ (e : c.in_ok-end.end ≡ step.clause). not_both c.are_same.result (c.are_same.ensures.1 (c.lits.ensures.value ∙ e ∙ sym c.lits-2.ensures.value)) c.if-not-are_same.true)

pub returns-then-not-are_same-clause-verdict : goal.returns-then-not-are_same-clause-verdict
returns-then-not-are_same-clause-verdict c = λ n.
    let known = c.args.known.now.list in
    let step = c.args.step.now in
    let b : are_below (length known) step ≡ true = (let e = c.are_numbers_below.ensures in let f = c.len.ensures.len in let g = c.if-not-are_numbers_below.false in cc) in
    let end = subst (λ (ls : List Link). chain_from known 0 (clause_at known step.first) ls ≡ Ends c.in_ok-end.end) c.as_slice.ensures c.in_ok-end.ensures in
    verdict_ends known step c.in_ok-end.end false b end (same_not c.in_ok-end.end step.clause (λ (e : c.in_ok-end.end ≡ step.clause). not_both c.are_same.result (c.are_same.ensures.1 (c.lits.ensures.value ∙ e ∙ sym c.lits-2.ensures.value)) c.if-not-are_same.true))

pub returns-clause-answer : goal.returns-clause-answer
returns-clause-answer c =
    let known = c.args.known.now.list in
    let step = c.args.step.now in
    let b : are_below (length known) step ≡ true = (let e = c.are_numbers_below.ensures in let f = c.len.ensures.len in let g = c.if-not-are_numbers_below.false in cc) in
    let end = subst (λ (ls : List Link). chain_from known 0 (clause_at known step.first) ls ≡ Ends c.in_ok-end.end) c.as_slice.ensures c.in_ok-end.ensures in
    answer_follows known step c.in_ok-end.end b end (sym c.lits.ensures.value ∙ c.are_same.ensures.0 c.if-not-are_same.false ∙ c.lits-2.ensures.value)

pub returns-clause-verdict : goal.returns-clause-verdict
returns-clause-verdict c =
    let known = c.args.known.now.list in
    let step = c.args.step.now in
    let b : are_below (length known) step ≡ true = (let e = c.are_numbers_below.ensures in let f = c.len.ensures.len in let g = c.if-not-are_numbers_below.false in cc) in
    let end = subst (λ (ls : List Link). chain_from known 0 (clause_at known step.first) ls ≡ Ends c.in_ok-end.end) c.as_slice.ensures c.in_ok-end.ensures in
    verdict_ends known step c.in_ok-end.end true b end (same_yes c.in_ok-end.end step.clause (sym c.lits.ensures.value ∙ c.are_same.ensures.0 c.if-not-are_same.false ∙ c.lits-2.ensures.value))
