use Rattle.std.proofs.Common.{rules, arith, ◌≡◌}
use Rattle.distance_search.specs.declared.reply.SearchStop.{SearchStop}
use Rattle.distance_search.specs.declared.reply.SearchStop.TheVariants.{NoMemory as OutOfMemory}
use Rattle.distance_search.specs.Heard.{IsHalted}
use Rattle.cdcl_core.proofs.Longer.{longer_on}
use Rattle.distance_search.proofs.Halts.{halted_on, halted_none}
use Rattle.distance_search.proofs.Exact.{agents_are}
use Rattle.distance_search.proofs.Verdicts.{constraint_on, none_named, one_named, whole_named}
use Rattle.distance_search.proofs.naming.consistency.Goals as goal

pub returns-in_err-named-clause-answer : goal.returns-in_err-named-clause-answer
returns-in_err-named-clause-answer g c =
    let h = halted_on c.args.engine.now.log c.loop-agent.engine.log c.name_base.new.engine.log (g.Q.Questions.budget c.args.questions.now) c.in_err-named.field-0.0 c.loop-agent.invariant.longer c.in_err-named.ensures.answer in
    search rules

pub returns-in_err-push-clause-answer : goal.returns-in_err-push-clause-answer
returns-in_err-push-clause-answer g c =
    let h : (stop : SearchStop) → stop ≡ OutOfMemory → IsHalted c.args.engine.now.log c.name_base.new.engine.log (g.Q.Questions.budget c.args.questions.now) stop = λ stop is. halted_none c.args.engine.now.log c.name_base.new.engine.log (g.Q.Questions.budget c.args.questions.now) stop is (longer_on c.args.engine.now.log c.loop-agent.engine.log c.name_base.new.engine.log c.loop-agent.invariant.longer c.in_ok-named.ensures.longer) in
    search rules

pub loop-agent-init : goal.loop-agent-init
loop-agent-init g c =
    let e = c.in_ok-constraint.ensures in
    record { main = e.main; longer = e.longer; constraint = e.answer; agents = none_named (g.Q.Questions.setting c.args.questions.now) c.name_constraint.new.engine.log c.new-agents.result.items c.new-agents.ensures.items }

pub loop-agent-preserved : goal.loop-agent-preserved
loop-agent-preserved g c =
    let i = c.loop-agent.invariant in
    let e = c.in_ok-named.ensures in
    record {
      main = e.main;
      longer = longer_on c.args.engine.now.log c.loop-agent.engine.log c.name_base.new.engine.log c.loop-agent.invariant.longer c.in_ok-named.ensures.longer;
      constraint = constraint_on (g.Q.Questions.setting c.args.questions.now) c.loop-agent.engine.log c.name_base.new.engine.log c.in_ok-constraint.constraint e.longer i.constraint;
      agents = one_named (g.Q.Questions.setting c.args.questions.now) c.loop-agent.engine.log c.name_base.new.engine.log c.loop-agent.agent c.loop-agent.agents.items c.push.new.self.items c.in_ok-named.named e.longer i.agents e.answer c.in_ok-push.ensures.items;
    }

pub name_base-requires-clause-agent : goal.name_base-requires-clause-agent
name_base-requires-clause-agent g c =
    let all = agents_are (g.Q.Questions.setting c.args.questions.now) (g.met.Q.Questions.laws c.args.questions.now) c.frame.result.now c.len-agent-end.result c.frame.ensures c.len-agent-end.ensures in
    omega arith

pub returns-clause-answer : goal.returns-clause-answer
returns-clause-answer g c =
    let i = c.loop-agent.invariant in
    let all = agents_are (g.Q.Questions.setting c.args.questions.now) (g.met.Q.Questions.laws c.args.questions.now) c.frame.result.now c.len-agent-end.result c.frame.ensures c.len-agent-end.ensures in
    whole_named (g.Q.Questions.setting c.args.questions.now) c.loop-agent.engine.log (record { constraint = c.in_ok-constraint.constraint; agents = c.from_vec.result }) c.loop-agent.agent c.loop-agent.agents.items (omega (arith, all, c.loop-agent-test.false, c.loop-agent.auto.agent-end)) c.from_vec.ensures i.constraint i.agents
