use Rattle.std.proofs.Common.{rules, arith, ◌≡◌, refl}
use Rattle.std.proofs.lemmas.Slice.Zip.{AllZip-long}
use Rattle.merge_model.specs.Merging.{IsModel}
use Rattle.distance_search.specs.declared.reply.SearchStop.{SearchStop}
use Rattle.distance_search.specs.declared.reply.SearchStop.TheVariants.{NoMemory as OutOfMemory}
use Rattle.distance_search.specs.Heard.{IsHalted}
use Rattle.cdcl_core.proofs.Longer.{longer_on}
use Rattle.distance_search.proofs.Halts.{halted_on, halted_none}
use Rattle.distance_search.proofs.Exact.{one_nearest, start_there, whole_nearest}
use Rattle.distance_search.proofs.distances.away_from.Goals as goal

pub returns-in_err-found-clause-answer : goal.returns-in_err-found-clause-answer
returns-in_err-found-clause-answer g c =
    let h = halted_on c.args.engine.now.log c.loop-agent.engine.log c.lower_distance.new.engine.log (g.Q.Questions.budget c.args.questions.now) c.in_err-found.field-0.0 c.loop-agent.invariant.longer c.in_err-found.ensures.answer in
    search rules

pub returns-in_err-push-clause-answer : goal.returns-in_err-push-clause-answer
returns-in_err-push-clause-answer g c =
    let h : (stop : SearchStop) → stop ≡ OutOfMemory → IsHalted c.args.engine.now.log c.lower_distance.new.engine.log (g.Q.Questions.budget c.args.questions.now) stop = λ stop is. halted_none c.args.engine.now.log c.lower_distance.new.engine.log (g.Q.Questions.budget c.args.questions.now) stop is (longer_on c.args.engine.now.log c.loop-agent.engine.log c.lower_distance.new.engine.log c.loop-agent.invariant.longer c.in_ok-found.ensures.longer) in
    search rules

pub returns-in_err-push-2-clause-answer : goal.returns-in_err-push-2-clause-answer
returns-in_err-push-2-clause-answer g c =
    let h : (stop : SearchStop) → stop ≡ OutOfMemory → IsHalted c.args.engine.now.log c.lower_distance.new.engine.log (g.Q.Questions.budget c.args.questions.now) stop = λ stop is. halted_none c.args.engine.now.log c.lower_distance.new.engine.log (g.Q.Questions.budget c.args.questions.now) stop is (longer_on c.args.engine.now.log c.loop-agent.engine.log c.lower_distance.new.engine.log c.loop-agent.invariant.longer c.in_ok-found.ensures.longer) in
    search rules

pub returns-in_err-push-3-clause-answer : goal.returns-in_err-push-3-clause-answer
returns-in_err-push-3-clause-answer g c =
    let h : (stop : SearchStop) → stop ≡ OutOfMemory → IsHalted c.args.engine.now.log c.lower_distance.new.engine.log (g.Q.Questions.budget c.args.questions.now) stop = λ stop is. halted_none c.args.engine.now.log c.lower_distance.new.engine.log (g.Q.Questions.budget c.args.questions.now) stop is (longer_on c.args.engine.now.log c.loop-agent.engine.log c.lower_distance.new.engine.log c.loop-agent.invariant.longer c.in_ok-found.ensures.longer) in
    search rules

pub loop-agent-preserved : goal.loop-agent-preserved
loop-agent-preserved g c =
    let i = c.loop-agent.invariant in
    let e = c.in_ok-found.ensures in
    record {
      main = e.main;
      longer = longer_on c.args.engine.now.log c.loop-agent.engine.log c.lower_distance.new.engine.log c.loop-agent.invariant.longer c.in_ok-found.ensures.longer;
      nearest = one_nearest (g.Q.Questions.setting c.args.questions.now) c.loop-agent.engine.log c.lower_distance.new.engine.log c.args.model c.loop-agent.agent c.loop-agent.vector.items c.push.new.self.items c.loop-agent.nearest.items c.push-in-loop-agent.new.self.items c.loop-agent.far.items c.push-in-loop-agent-2.new.self.items c.in_ok-found.found.distance c.in_ok-found.found.valuation c.in_ok-found.found.step (omega (arith, AllZip-long (IsModel (g.Q.Questions.setting c.args.questions.now).profile.atoms) (g.Q.Questions.setting c.args.questions.now).profile.bases c.args.starts.now c.requires.starts, c.loop-agent-test.true)) e.longer i.nearest e.answer c.in_ok-push.ensures.items c.in_ok-push-2.ensures.items c.in_ok-push-3.ensures.items;
    }

pub lower_distance-requires-clause-start : goal.lower_distance-requires-clause-start
lower_distance-requires-clause-start g c = start_there (g.Q.Questions.setting c.args.questions.now).profile.atoms (g.Q.Questions.setting c.args.questions.now).profile.bases c.args.starts.now c.loop-agent.agent c.index-starts-agent.result c.requires.starts c.loop-agent-test.true c.index-starts-agent.is

pub lower_distance-requires-clause-agent : goal.lower_distance-requires-clause-agent
lower_distance-requires-clause-agent g c = omega (arith, AllZip-long (IsModel (g.Q.Questions.setting c.args.questions.now).profile.atoms) (g.Q.Questions.setting c.args.questions.now).profile.bases c.args.starts.now c.requires.starts, c.loop-agent-test.true)

pub returns-clause-answer : goal.returns-clause-answer
returns-clause-answer g c = (
  whole_nearest (g.Q.Questions.setting c.args.questions.now) c.loop-agent.engine.log (record { shown = record { model = c.args.model; vector = c.from_vec.result; nearest = c.from_vec-2.result }; far = c.from_vec-3.result }) c.args.starts.now c.loop-agent.agent c.loop-agent.vector.items c.loop-agent.nearest.items c.loop-agent.far.items c.requires.starts c.loop-agent-test.false c.from_vec.ensures c.from_vec-2.ensures c.from_vec-3.ensures c.loop-agent.invariant.nearest,
  refl,
)
