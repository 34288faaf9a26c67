use Rattle.distance_search.proofs.Exact.{base_refuted}
use Rattle.distance_search.proofs.distances.base_model.Goals as goal

pub unreachable-requires : goal.unreachable-requires
unreachable-requires g c = base_refuted (g.Q.Questions.setting c.args.questions.now) c.ask.new.engine.log c.args.agent c.in_ok-ask.field-0 c.in-Refuted.field-0 c.requires.agent c.requires.bases c.in-Refuted.is c.in_ok-ask.ensures.answer
