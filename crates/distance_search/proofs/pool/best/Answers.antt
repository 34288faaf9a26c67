use Rattle.distance_search.proofs.Kept.{at_hand_on, one_at_hand, best_at_hand}
use Rattle.distance_search.proofs.pool.best.Goals as goal

pub returns-in_err-found-clause-pool : goal.returns-in_err-found-clause-pool
returns-in_err-found-clause-pool g c = at_hand_on (g.Q.Questions.setting c.args.questions.now) c.args.engine.now.log c.best.new.engine.log c.args.pool.now.items c.in_err-found.ensures.longer c.requires.pool

pub returns-in_err-away-clause-pool : goal.returns-in_err-away-clause-pool
returns-in_err-away-clause-pool g c = at_hand_on (g.Q.Questions.setting c.args.questions.now) c.args.engine.now.log c.best.new.engine.log c.args.pool.now.items c.in_ok-found.ensures.longer c.requires.pool

pub returns-in_err-keep-clause-pool : goal.returns-in_err-keep-clause-pool
returns-in_err-keep-clause-pool g c =
    one_at_hand (g.Q.Questions.setting c.args.questions.now) c.best.new.engine.log c.args.pool.now.items c.keep.new.pool.items c.in_ok-away.away c.keep.ensures
    (best_at_hand (g.Q.Questions.setting c.args.questions.now) c.best.new.engine.log c.in_ok-found.found c.in_ok-away.away c.as_slice.result.now c.in_ok-found.ensures.answer c.as_slice.ensures c.in_ok-away.ensures)
    (at_hand_on (g.Q.Questions.setting c.args.questions.now) c.args.engine.now.log c.best.new.engine.log c.args.pool.now.items c.in_ok-found.ensures.longer c.requires.pool)

pub returns-clause-pool : goal.returns-clause-pool
returns-clause-pool g c =
    one_at_hand (g.Q.Questions.setting c.args.questions.now) c.best.new.engine.log c.args.pool.now.items c.keep.new.pool.items c.in_ok-away.away c.keep.ensures
    (best_at_hand (g.Q.Questions.setting c.args.questions.now) c.best.new.engine.log c.in_ok-found.found c.in_ok-away.away c.as_slice.result.now c.in_ok-found.ensures.answer c.as_slice.ensures c.in_ok-away.ensures)
    (at_hand_on (g.Q.Questions.setting c.args.questions.now) c.args.engine.now.log c.best.new.engine.log c.args.pool.now.items c.in_ok-found.ensures.longer c.requires.pool)
