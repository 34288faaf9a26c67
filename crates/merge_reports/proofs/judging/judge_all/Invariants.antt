use Rattle.std.proofs.Common.{◌≡◌}
use Rattle.cdcl_core.specs.Replies.{IsLonger}
use Rattle.distance_search.specs.Setting.{setting_of}
use Rattle.merge_reports.proofs.Verdicts.{AreRuledTo}
use Rattle.merge_reports.proofs.judging.judge_all.Given as goal

abbrev pub invariant-loop-query : goal.invariant-loop-query
invariant-loop-query g l =
    let q = l.fn.search.subject in record {
      subject : l.search.subject ≡ q;
      longer : IsLonger l.fn.search.engine.log l.search.engine.log;
      ruled : AreRuledTo (setting_of (g.D.Distance.dist q.distance) (g.D.Distance.most q.distance) (g.D.Counted.due q.distance) (g.A.Aggregator.rank q.aggregator) (g.A.Levelled.levels_of q.aggregator) (g.A.Levelled.levels_due q.aggregator) q.problem) l.search.engine.log l.best.values l.query l.fn.proofs.items l.proofs.items l.verdicts.items;
    }
