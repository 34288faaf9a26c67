use Rattle.std.proofs.Common.{◌≡◌}
use Rattle.distance_search.specs.declared.answer.Away.{Away}
use Rattle.distance_search.specs.Results.{IsAway}
use Rattle.distance_search.proofs.Halts.{halted_result}
use Rattle.distance_search.proofs.distances.distances_of.Goals as goal

pub returns-clause-answer : goal.returns-clause-answer
returns-clause-answer g c = halted_result (λ (r : Away). IsAway (g.Q.Questions.setting c.args.questions.now) c.away_from.new.engine.log r × (r.shown.model ≡ c.args.model)) c.args.engine.now.log c.base_models.new.engine.log c.away_from.new.engine.log (g.Q.Questions.budget c.args.questions.now) c.in_ok-starts.ensures.longer c.away_from.result c.away_from.ensures.answer
