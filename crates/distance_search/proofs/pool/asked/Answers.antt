use Rattle.distance_search.proofs.Kept.{at_hand_on, one_at_hand, no_at_hand}
use Rattle.distance_search.proofs.pool.asked.Goals as goal

pub returns-in_err-step-clause-pool : goal.returns-in_err-step-clause-pool
returns-in_err-step-clause-pool g c = at_hand_on (g.Q.Questions.setting c.args.questions.now) c.args.engine.now.log c.entails.new.engine.log c.args.pool.now.items c.in_err-step.ensures.longer c.requires.pool

pub returns-in-Yes-clause-pool : goal.returns-in-Yes-clause-pool
returns-in-Yes-clause-pool g c = at_hand_on (g.Q.Questions.setting c.args.questions.now) c.args.engine.now.log c.entails.new.engine.log c.args.pool.now.items c.in_ok-step.ensures.longer c.requires.pool

pub returns-in_err-copy-in-No-clause-pool : goal.returns-in_err-copy-in-No-clause-pool
returns-in_err-copy-in-No-clause-pool g c = at_hand_on (g.Q.Questions.setting c.args.questions.now) c.args.engine.now.log c.entails.new.engine.log c.args.pool.now.items c.in_ok-step.ensures.longer c.requires.pool

pub returns-in_err-keep-in-No-clause-pool : goal.returns-in_err-keep-in-No-clause-pool
returns-in_err-keep-in-No-clause-pool g c =
    one_at_hand (g.Q.Questions.setting c.args.questions.now) c.entails.new.engine.log c.args.pool.now.items c.keep.new.pool.items c.in_ok-copy-in-No.copy c.keep.ensures
    (no_at_hand (g.Q.Questions.setting c.args.questions.now) c.entails.new.engine.log c.args.ask c.args.best.now.values c.in_ok-step.field-0 c.in-No.away c.in_ok-copy-in-No.copy c.as_slice.result.now c.in_ok-step.ensures.answer c.in-No.is c.as_slice.ensures c.in_ok-copy-in-No.ensures)
    (at_hand_on (g.Q.Questions.setting c.args.questions.now) c.args.engine.now.log c.entails.new.engine.log c.args.pool.now.items c.in_ok-step.ensures.longer c.requires.pool)

pub returns-in_ok-keep-in-No-clause-pool : goal.returns-in_ok-keep-in-No-clause-pool
returns-in_ok-keep-in-No-clause-pool g c =
    one_at_hand (g.Q.Questions.setting c.args.questions.now) c.entails.new.engine.log c.args.pool.now.items c.keep.new.pool.items c.in_ok-copy-in-No.copy c.keep.ensures
    (no_at_hand (g.Q.Questions.setting c.args.questions.now) c.entails.new.engine.log c.args.ask c.args.best.now.values c.in_ok-step.field-0 c.in-No.away c.in_ok-copy-in-No.copy c.as_slice.result.now c.in_ok-step.ensures.answer c.in-No.is c.as_slice.ensures c.in_ok-copy-in-No.ensures)
    (at_hand_on (g.Q.Questions.setting c.args.questions.now) c.args.engine.now.log c.entails.new.engine.log c.args.pool.now.items c.in_ok-step.ensures.longer c.requires.pool)
