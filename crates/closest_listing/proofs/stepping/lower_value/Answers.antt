use Rattle.closest_listing.proofs.Ordered.{bit_there, with_is, false_kept, true_kept, lower_found}
use Rattle.closest_listing.proofs.stepping.lower_value.Goals as goal

pub returns-then-not-get-clause-answer : goal.returns-then-not-get-clause-answer
returns-then-not-get-clause-answer g c =
    false_kept (g.Q.Questions.setting c.args.questions.now) c.args.depth c.args.atom c.args.found c.args.lowest c.requires.atom (bit_there c.args.lowest c.args.atom _ c.if-not-get.ensures) c.requires.before

pub returns-in-None-clause-answer : goal.returns-in-None-clause-answer
returns-in-None-clause-answer g c =
    true_kept (g.Q.Questions.setting c.args.questions.now) c.args.depth c.args.atom c.args.found c.args.lowest c.requires.atom (bit_there c.args.lowest c.args.atom _ c.if-not-get.ensures) c.requires.before (with_is (g.Q.Questions.setting c.args.questions.now) _ _ _ c.in-None.is c.in_ok-closest_after.ensures.answer)

pub returns-in-Some-clause-answer : goal.returns-in-Some-clause-answer
returns-in-Some-clause-answer g c =
    lower_found (g.Q.Questions.setting c.args.questions.now) c.args.depth c.args.atom c.args.found c.args.lowest _ c.requires.atom c.requires.depth c.requires.before (with_is (g.Q.Questions.setting c.args.questions.now) _ _ _ c.in-Some.is c.in_ok-closest_after.ensures.answer)
