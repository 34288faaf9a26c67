use Rattle.std.proofs.Common.{◌≡◌, length, refl, ap, ◌∙◌, arith}
use Rattle.cdcl_core.proofs.Longer.{longer_none, longer_on}
use Rattle.merge_model.specs.declared.problem.Problem.{Problem}
use Rattle.merge_reports.proofs.Verdicts.{none_ruled, one_ruled, all_ruled}
use Rattle.merge_reports.proofs.judging.judge_all.Goals as goal

pub loop-query-init : goal.loop-query-init
loop-query-init g c = record {
  subject = refl;
  longer = longer_none c.args.search.now.engine.log;
  ruled = none_ruled _ c.args.search.now.engine.log c.args.best.now.values c.args.proofs.now.items c.new-verdicts.result.items c.new-verdicts.ensures.items;
}

pub loop-query-preserved : goal.loop-query-preserved
loop-query-preserved g c =
    let i = c.loop-query.invariant in
    let e = c.in_ok-verdict.ensures in
    let size : c.len-query-end.result ≡ length c.args.search.now.subject.problem.asks = c.len-query-end.ensures ∙ ap (λ (p : Problem). length p.asks) c.problem.ensures in
    let ruled = rw i.subject at e.answer in
    record {
      subject = e.subject ∙ i.subject;
      longer = longer_on c.args.search.now.engine.log c.loop-query.search.engine.log c.judge.new.search.engine.log i.longer e.longer;
      ruled = one_ruled _ c.loop-query.search.engine.log c.judge.new.search.engine.log c.args.best.now.values c.loop-query.query c.loop-query.verdicts.items c.push.new.self.items c.args.proofs.now.items c.loop-query.proofs.items c.judge.new.proofs.items c.in_ok-verdict.verdict (omega (arith, size, c.loop-query-test.true)) e.longer i.ruled ruled c.in_ok-push.ensures.items;
    }

pub returns-clause-answer : goal.returns-clause-answer
returns-clause-answer g c =
    let size : c.len-query-end.result ≡ length c.args.search.now.subject.problem.asks = c.len-query-end.ensures ∙ ap (λ (p : Problem). length p.asks) c.problem.ensures in
    all_ruled _ c.loop-query.search.engine.log c.args.best.now.values c.loop-query.query c.args.proofs.now.items c.loop-query.proofs.items c.loop-query.verdicts.items (omega (arith, size, c.loop-query-test.false)) c.loop-query.invariant.ruled

pub returns-in_err-verdict-clause-longer : goal.returns-in_err-verdict-clause-longer
returns-in_err-verdict-clause-longer g c = longer_on c.args.search.now.engine.log c.loop-query.search.engine.log c.judge.new.search.engine.log c.loop-query.invariant.longer c.judge.ensures.longer

pub returns-in_err-push-clause-longer : goal.returns-in_err-push-clause-longer
returns-in_err-push-clause-longer g c = longer_on c.args.search.now.engine.log c.loop-query.search.engine.log c.judge.new.search.engine.log c.loop-query.invariant.longer c.judge.ensures.longer
