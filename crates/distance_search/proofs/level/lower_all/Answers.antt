use Rattle.std.proofs.Common.{rules, ◌≡◌}
use Rattle.distance_search.specs.declared.reply.SearchStop.{SearchStop}
use Rattle.distance_search.specs.declared.reply.SearchStop.TheVariants.{NoMemory as OutOfMemory}
use Rattle.distance_search.specs.Heard.{IsHalted}
use Rattle.cdcl_core.proofs.Longer.{longer_on}
use Rattle.distance_search.proofs.Halts.{halted_on, halted_none}
use Rattle.distance_search.proofs.Lowering.{levels_within, next_level}
use Rattle.distance_search.proofs.level.lower_all.Goals as goal

pub returns-in_err-lower-clause-answer : goal.returns-in_err-lower-clause-answer
returns-in_err-lower-clause-answer g c =
    let h = halted_on c.args.engine.now.log c.loop-level.engine.log c.lower_level.new.engine.log (g.Q.Questions.budget c.args.questions.now) c.in_err-lower.field-0.0 c.loop-level.invariant.longer c.in_err-lower.ensures.answer in
    search rules

pub returns-in_err-push-clause-answer : goal.returns-in_err-push-clause-answer
returns-in_err-push-clause-answer g c =
    let l = longer_on c.args.engine.now.log c.loop-level.engine.log c.lower_level.new.engine.log c.loop-level.invariant.longer c.in_ok-lower.ensures.longer in
    let h : (stop : SearchStop) → stop ≡ OutOfMemory → IsHalted c.args.engine.now.log c.lower_level.new.engine.log (g.Q.Questions.budget c.args.questions.now) stop = λ stop is. halted_none c.args.engine.now.log c.lower_level.new.engine.log (g.Q.Questions.budget c.args.questions.now) stop is l in
    search rules

pub loop-level-preserved : goal.loop-level-preserved
loop-level-preserved g c =
    let i = c.loop-level.invariant in
    let e = c.in_ok-lower.ensures in
    record {
      main = e.main;
      longer = longer_on c.args.engine.now.log c.loop-level.engine.log c.lower_level.new.engine.log i.longer e.longer;
      lowered = next_level (g.Q.Questions.setting c.args.questions.now) c.loop-level.engine.log c.lower_level.new.engine.log c.loop-level.level c.loop-level.witness c.in_ok-lower.field-0.witness c.loop-level.steps.items c.push.new.self.items c.in_ok-lower.field-0.step (levels_within (g.Q.Questions.setting c.args.questions.now) c.frame.result.now c.loop-level.level c.len-level-end.result c.frame.ensures c.len-level-end.ensures c.loop-level-test.true) e.longer i.lowered e.answer c.in_ok-push.ensures.items;
    }
