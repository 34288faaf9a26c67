use Rattle.merge_encoding.specs.Claims.{said}
use Rattle.distance_search.specs.Setting.{setting_of}
use Rattle.distance_search.specs.Laws.{Laws}
use Rattle.distance_search.specs.SettingLaws.{laws_of}
use Rattle.distance_search.proofs.Logs.{over_on}
use Rattle.distance_search.proofs.Answering.{proper_ready, over_ready, distinct_ready, answered}
use Rattle.distance_search.proofs.subject.SubjectQuestions.ask.Goals as goal

pub hear-requires-clause-proper : goal.hear-requires-clause-proper
hear-requires-clause-proper g c =
    let q = c.args.self.now in
    let s = setting_of (g.D.Distance.dist q.distance) (g.D.Distance.most q.distance) (g.D.Counted.due q.distance) (g.A.Aggregator.rank q.aggregator) (g.A.Levelled.levels_of q.aggregator) (g.A.Levelled.levels_due q.aggregator) q.problem in
    let l : Laws s = laws_of (g.D.Distance.dist q.distance) (g.D.Distance.most q.distance) (g.D.Counted.due q.distance) (g.A.Aggregator.rank q.aggregator) (g.A.Levelled.levels_of q.aggregator) (g.A.Levelled.levels_due q.aggregator) (g.met.D.Counted.counts q.distance) (g.met.A.Levelled.are_levels q.aggregator) (g.met.D.Distance.bounded q.distance) (g.met.D.Distance.within q.distance) (g.met.A.Aggregator.monotone q.aggregator) (g.met.A.Levelled.in_order q.aggregator) q.problem in
    proper_ready s q.frame q.framed (said c.args.claim.now) c.requires.proper

pub hear-requires-clause-over : goal.hear-requires-clause-over
hear-requires-clause-over g c =
    let q = c.args.self.now in
    let s = setting_of (g.D.Distance.dist q.distance) (g.D.Distance.most q.distance) (g.D.Counted.due q.distance) (g.A.Aggregator.rank q.aggregator) (g.A.Levelled.levels_of q.aggregator) (g.A.Levelled.levels_due q.aggregator) q.problem in
    let l : Laws s = laws_of (g.D.Distance.dist q.distance) (g.D.Distance.most q.distance) (g.D.Counted.due q.distance) (g.A.Aggregator.rank q.aggregator) (g.A.Levelled.levels_of q.aggregator) (g.A.Levelled.levels_due q.aggregator) (g.met.D.Counted.counts q.distance) (g.met.A.Levelled.are_levels q.aggregator) (g.met.D.Distance.bounded q.distance) (g.met.D.Distance.within q.distance) (g.met.A.Aggregator.monotone q.aggregator) (g.met.A.Levelled.in_order q.aggregator) q.problem in
    over_ready s l q.frame q.framed c.args.engine.now.log.vars c.requires.main.vars

pub hear-requires-clause-distinct : goal.hear-requires-clause-distinct
hear-requires-clause-distinct g c =
    let q = c.args.self.now in
    let s = setting_of (g.D.Distance.dist q.distance) (g.D.Distance.most q.distance) (g.D.Counted.due q.distance) (g.A.Aggregator.rank q.aggregator) (g.A.Levelled.levels_of q.aggregator) (g.A.Levelled.levels_due q.aggregator) q.problem in
    let l : Laws s = laws_of (g.D.Distance.dist q.distance) (g.D.Distance.most q.distance) (g.D.Counted.due q.distance) (g.A.Aggregator.rank q.aggregator) (g.A.Levelled.levels_of q.aggregator) (g.A.Levelled.levels_due q.aggregator) (g.met.D.Counted.counts q.distance) (g.met.A.Levelled.are_levels q.aggregator) (g.met.D.Distance.bounded q.distance) (g.met.D.Distance.within q.distance) (g.met.A.Aggregator.monotone q.aggregator) (g.met.A.Levelled.in_order q.aggregator) q.problem in
    distinct_ready s l q.frame q.framed

pub returns-clause-main : goal.returns-clause-main
returns-clause-main g c =
    let q = c.args.self.now in
    let s = setting_of (g.D.Distance.dist q.distance) (g.D.Distance.most q.distance) (g.D.Counted.due q.distance) (g.A.Aggregator.rank q.aggregator) (g.A.Levelled.levels_of q.aggregator) (g.A.Levelled.levels_due q.aggregator) q.problem in
    let l : Laws s = laws_of (g.D.Distance.dist q.distance) (g.D.Distance.most q.distance) (g.D.Counted.due q.distance) (g.A.Aggregator.rank q.aggregator) (g.A.Levelled.levels_of q.aggregator) (g.A.Levelled.levels_due q.aggregator) (g.met.D.Counted.counts q.distance) (g.met.A.Levelled.are_levels q.aggregator) (g.met.D.Distance.bounded q.distance) (g.met.D.Distance.within q.distance) (g.met.A.Aggregator.monotone q.aggregator) (g.met.A.Levelled.in_order q.aggregator) q.problem in
    over_on s c.args.engine.now.log c.hear.new.engine.log c.hear.ensures.longer c.requires.main

pub returns-clause-answer : goal.returns-clause-answer
returns-clause-answer g c =
    let q = c.args.self.now in
    let s = setting_of (g.D.Distance.dist q.distance) (g.D.Distance.most q.distance) (g.D.Counted.due q.distance) (g.A.Aggregator.rank q.aggregator) (g.A.Levelled.levels_of q.aggregator) (g.A.Levelled.levels_due q.aggregator) q.problem in
    let l : Laws s = laws_of (g.D.Distance.dist q.distance) (g.D.Distance.most q.distance) (g.D.Counted.due q.distance) (g.A.Aggregator.rank q.aggregator) (g.A.Levelled.levels_of q.aggregator) (g.A.Levelled.levels_due q.aggregator) (g.met.D.Counted.counts q.distance) (g.met.A.Levelled.are_levels q.aggregator) (g.met.D.Distance.bounded q.distance) (g.met.D.Distance.within q.distance) (g.met.A.Aggregator.monotone q.aggregator) (g.met.A.Levelled.in_order q.aggregator) q.problem in
    answered s l q.frame q.framed c.args.engine.now.log c.hear.new.engine.log q.budget c.requires.main.clauses (said c.args.claim.now) c.requires.proper c.hear.result c.hear.ensures.answer
