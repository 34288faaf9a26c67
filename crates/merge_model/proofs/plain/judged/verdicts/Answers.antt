use Rattle.std.proofs.Common.{◌≡◌, ◌<◌, ◌+◌, List, length, take, get_or, subst, sym}
use Rattle.std.specs.List.{AllZip}
use Rattle.formulas.specs.declared.formula.Formula.{Formula}
use Rattle.merge_model.specs.declared.answer.Verdict.{Verdict}
use Rattle.merge_model.specs.Answers.{profile_of, IsVerdict}
use Rattle.merge_model.proofs.Closest.{zip_more}
use Rattle.merge_model.proofs.plain.judged.verdicts.Goals as goal

pub loop-ask-preserved : goal.loop-ask-preserved
loop-ask-preserved g c =
    let asks = c.args.problem.now.asks in
    let i = c.loop-ask.ask-index in
    let R : Formula → Verdict → Type 0 = IsVerdict (g.D.Distance.dist c.args.distance.now) (g.A.Aggregator.rank c.args.aggregator.now) (profile_of c.args.problem.now) in
    subst (λ (xs : List Verdict). AllZip R (take (i + 1) asks) xs) (sym c.in_ok-push.ensures.items)
    (zip_more R asks c.loop-ask.verdicts.items i c.ask-item.result c.in_ok-verdict.verdict
    (subst (λ (xs : List Formula). i < length xs) c.as_slice-ask-items.ensures c.loop-ask-test.true)
    (subst (λ (xs : List Formula). c.ask-item.result ≡ get_or xs i c.ask-item.result) c.as_slice-ask-items.ensures c.ask-item.is)
    c.loop-ask.invariant
    c.in_ok-verdict.ensures)
