use Rattle.distance_search.proofs.Lowering.{first_proper, first_refuted}
use Rattle.distance_search.proofs.level.any_models.Goals as goal

pub ask_with-requires-clause-proper : goal.ask_with-requires-clause-proper
ask_with-requires-clause-proper g c = first_proper (g.Q.Questions.setting c.args.questions.now) (g.met.Q.Questions.laws c.args.questions.now) c.frame.result.now c.as_slice.result.now c.in_ok-lengths.lengths.items c.as_slice-2.result.now c.frame.ensures c.as_slice.ensures c.in_ok-lengths.ensures c.as_slice-2.ensures.value

pub unreachable-requires : goal.unreachable-requires
unreachable-requires g c = first_refuted (g.Q.Questions.setting c.args.questions.now) (g.met.Q.Questions.laws c.args.questions.now) c.frame.result.now c.as_slice.result.now c.in_ok-lengths.lengths.items c.as_slice-2.result.now c.ask_with.new.engine.log c.in_ok-ask_with.field-0 c.in-Refuted.field-0 c.requires.consistent c.frame.ensures c.as_slice.ensures c.in_ok-lengths.ensures c.as_slice-2.ensures.value c.in-Refuted.is c.in_ok-ask_with.ensures.answer
