use Rattle.std.proofs.Common.{◌∙◌, ap, List, map}
use Rattle.merge_model.specs.declared.agent.Agent.{Agent}
use Rattle.merge_model.specs.Merging.{repeated}
use Rattle.distance_search.specs.Setting.{setting_of}
use Rattle.distance_search.specs.Laws.{Laws}
use Rattle.distance_search.specs.SettingLaws.{laws_of}
use Rattle.distance_search.proofs.Measured.{may_rank}
use Rattle.distance_search.proofs.subject.SubjectQuestions.measure.Goals as goal

pub measure-requires-clause-some : goal.measure-requires-clause-some
measure-requires-clause-some g c =
    let q = c.args.self.now in
    let s = setting_of (g.D.Distance.dist q.distance) (g.D.Distance.most q.distance) (g.D.Counted.due q.distance) (g.A.Aggregator.rank q.aggregator) (g.A.Levelled.levels_of q.aggregator) (g.A.Levelled.levels_due q.aggregator) q.problem in
    let l : Laws s = laws_of (g.D.Distance.dist q.distance) (g.D.Distance.most q.distance) (g.D.Counted.due q.distance) (g.A.Aggregator.rank q.aggregator) (g.A.Levelled.levels_of q.aggregator) (g.A.Levelled.levels_due q.aggregator) (g.met.D.Counted.counts q.distance) (g.met.A.Levelled.are_levels q.aggregator) (g.met.D.Distance.bounded q.distance) (g.met.D.Distance.within q.distance) (g.met.A.Aggregator.monotone q.aggregator) (g.met.A.Levelled.in_order q.aggregator) q.problem in
    (may_rank s l c.args.vector.now c.deref.result.now (c.deref.ensures.value ∙ c.in_ok-full.ensures ∙ ap (λ (agents : List Agent). repeated (map (λ (a : Agent). a.times) agents) c.args.vector.now) c.as_slice.ensures) c.requires.sized c.requires.within).some

pub measure-requires-clause-few : goal.measure-requires-clause-few
measure-requires-clause-few g c =
    let q = c.args.self.now in
    let s = setting_of (g.D.Distance.dist q.distance) (g.D.Distance.most q.distance) (g.D.Counted.due q.distance) (g.A.Aggregator.rank q.aggregator) (g.A.Levelled.levels_of q.aggregator) (g.A.Levelled.levels_due q.aggregator) q.problem in
    let l : Laws s = laws_of (g.D.Distance.dist q.distance) (g.D.Distance.most q.distance) (g.D.Counted.due q.distance) (g.A.Aggregator.rank q.aggregator) (g.A.Levelled.levels_of q.aggregator) (g.A.Levelled.levels_due q.aggregator) (g.met.D.Counted.counts q.distance) (g.met.A.Levelled.are_levels q.aggregator) (g.met.D.Distance.bounded q.distance) (g.met.D.Distance.within q.distance) (g.met.A.Aggregator.monotone q.aggregator) (g.met.A.Levelled.in_order q.aggregator) q.problem in
    (may_rank s l c.args.vector.now c.deref.result.now (c.deref.ensures.value ∙ c.in_ok-full.ensures ∙ ap (λ (agents : List Agent). repeated (map (λ (a : Agent). a.times) agents) c.args.vector.now) c.as_slice.ensures) c.requires.sized c.requires.within).few

pub measure-requires-clause-small : goal.measure-requires-clause-small
measure-requires-clause-small g c =
    let q = c.args.self.now in
    let s = setting_of (g.D.Distance.dist q.distance) (g.D.Distance.most q.distance) (g.D.Counted.due q.distance) (g.A.Aggregator.rank q.aggregator) (g.A.Levelled.levels_of q.aggregator) (g.A.Levelled.levels_due q.aggregator) q.problem in
    let l : Laws s = laws_of (g.D.Distance.dist q.distance) (g.D.Distance.most q.distance) (g.D.Counted.due q.distance) (g.A.Aggregator.rank q.aggregator) (g.A.Levelled.levels_of q.aggregator) (g.A.Levelled.levels_due q.aggregator) (g.met.D.Counted.counts q.distance) (g.met.A.Levelled.are_levels q.aggregator) (g.met.D.Distance.bounded q.distance) (g.met.D.Distance.within q.distance) (g.met.A.Aggregator.monotone q.aggregator) (g.met.A.Levelled.in_order q.aggregator) q.problem in
    (may_rank s l c.args.vector.now c.deref.result.now (c.deref.ensures.value ∙ c.in_ok-full.ensures ∙ ap (λ (agents : List Agent). repeated (map (λ (a : Agent). a.times) agents) c.args.vector.now) c.as_slice.ensures) c.requires.sized c.requires.within).small
