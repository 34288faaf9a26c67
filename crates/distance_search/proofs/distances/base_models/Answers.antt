use Rattle.std.proofs.Common.{rules, arith, ◌≡◌}
use Rattle.distance_search.specs.declared.reply.SearchStop.{SearchStop}
use Rattle.distance_search.specs.declared.reply.SearchStop.TheVariants.{NoMemory as OutOfMemory}
use Rattle.distance_search.specs.Heard.{IsHalted}
use Rattle.cdcl_core.proofs.Longer.{longer_on}
use Rattle.distance_search.proofs.Halts.{halted_on, halted_none}
use Rattle.distance_search.proofs.Exact.{agents_are, one_model, whole_models}
use Rattle.distance_search.proofs.distances.base_models.Goals as goal

pub returns-in_err-model-clause-answer : goal.returns-in_err-model-clause-answer
returns-in_err-model-clause-answer g c =
    let h = halted_on c.args.engine.now.log c.loop-agent.engine.log c.base_model.new.engine.log (g.Q.Questions.budget c.args.questions.now) c.in_err-model.field-0.0 c.loop-agent.invariant.longer c.in_err-model.ensures.answer in
    search rules

pub returns-in_err-push-clause-answer : goal.returns-in_err-push-clause-answer
returns-in_err-push-clause-answer g c =
    let h : (stop : SearchStop) → stop ≡ OutOfMemory → IsHalted c.args.engine.now.log c.base_model.new.engine.log (g.Q.Questions.budget c.args.questions.now) stop = λ stop is. halted_none c.args.engine.now.log c.base_model.new.engine.log (g.Q.Questions.budget c.args.questions.now) stop is (longer_on c.args.engine.now.log c.loop-agent.engine.log c.base_model.new.engine.log c.loop-agent.invariant.longer c.in_ok-model.ensures.longer) in
    search rules

pub loop-agent-preserved : goal.loop-agent-preserved
loop-agent-preserved g c =
    let i = c.loop-agent.invariant in
    let e = c.in_ok-model.ensures in
    let all = agents_are (g.Q.Questions.setting c.args.questions.now) (g.met.Q.Questions.laws c.args.questions.now) c.frame.result.now c.len-agent-end.result c.frame.ensures c.len-agent-end.ensures in
    record {
      main = e.main;
      longer = longer_on c.args.engine.now.log c.loop-agent.engine.log c.base_model.new.engine.log c.loop-agent.invariant.longer c.in_ok-model.ensures.longer;
      models = one_model (g.Q.Questions.setting c.args.questions.now) c.loop-agent.agent c.loop-agent.models.items c.push.new.self.items c.in_ok-model.model (omega arith) i.models e.answer c.in_ok-push.ensures.items;
    }

pub base_model-requires-clause-agent : goal.base_model-requires-clause-agent
base_model-requires-clause-agent g c =
    let all = agents_are (g.Q.Questions.setting c.args.questions.now) (g.met.Q.Questions.laws c.args.questions.now) c.frame.result.now c.len-agent-end.result c.frame.ensures c.len-agent-end.ensures in
    omega arith

pub returns-clause-answer : goal.returns-clause-answer
returns-clause-answer g c =
    let all = agents_are (g.Q.Questions.setting c.args.questions.now) (g.met.Q.Questions.laws c.args.questions.now) c.frame.result.now c.len-agent-end.result c.frame.ensures c.len-agent-end.ensures in
    whole_models (g.Q.Questions.setting c.args.questions.now) c.loop-agent.agent c.loop-agent.models.items (omega arith) c.loop-agent.invariant.models
