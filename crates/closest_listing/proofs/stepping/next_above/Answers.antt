use Rattle.std.proofs.Common.{rules, ◌≡◌, arith, subst, ◌∙◌}
use Rattle.cdcl_core.proofs.Longer.{longer_none, longer_on}
use Rattle.distance_search.proofs.Halts.{halted_on}
use Rattle.closest_listing.specs.Listed.{NoneAbove}
use Rattle.closest_listing.proofs.Ordered.{with_is, none_at_start, none_by_true, none_by_false, found_by, none_above}
use Rattle.closest_listing.proofs.stepping.next_above.Goals as goal

pub loop-atom-init : goal.loop-atom-init
loop-atom-init g c = record {
  main = c.requires.main;
  longer = longer_none c.args.engine.now.log;
  within = omega arith;
  none = none_at_start (g.Q.Questions.setting c.args.questions.now) c.args.atoms c.args.last c.requires.atoms c.requires.sized;
}

pub returns-in_err-found-clause-answer : goal.returns-in_err-found-clause-answer
returns-in_err-found-clause-answer g c =
    let h = halted_on c.args.engine.now.log c.loop-atom.engine.log c.closest_after.new.engine.log (g.Q.Questions.budget c.args.questions.now) c.in_err-found.field-0.0 c.loop-atom.invariant.longer c.in_err-found.ensures.answer in
    search rules

pub returns-in_err-first-clause-answer : goal.returns-in_err-first-clause-answer
returns-in_err-first-clause-answer g c =
    let h = halted_on c.args.engine.now.log c.closest_after.new.engine.log c.first_from.new.engine.log (g.Q.Questions.budget c.args.questions.now) c.in_err-first.field-0.0 (longer_on c.args.engine.now.log c.loop-atom.engine.log c.closest_after.new.engine.log c.loop-atom.invariant.longer c.in_ok-found.ensures.longer) c.in_err-first.ensures.answer in
    search rules

pub returns-in-Some-clause-longer : goal.returns-in-Some-clause-longer
returns-in-Some-clause-longer g c = longer_on c.args.engine.now.log c.closest_after.new.engine.log c.first_from.new.engine.log (longer_on c.args.engine.now.log c.loop-atom.engine.log c.closest_after.new.engine.log c.loop-atom.invariant.longer c.in_ok-found.ensures.longer) c.in_ok-first.ensures.longer

pub returns-in-Some-clause-answer : goal.returns-in-Some-clause-answer
returns-in-Some-clause-answer g c =
    let i = c.loop-atom.invariant in
    found_by (g.Q.Questions.setting c.args.questions.now) c.loop-atom.atom c.args.last c.in-Some.found c.in_ok-first.first (c.requires.sized ∙ c.requires.atoms) (omega arith) (omega (arith, c.requires.atoms, i.within)) c.if-not-get.ensures (with_is (g.Q.Questions.setting c.args.questions.now) _ _ _ c.in-Some.is c.in_ok-found.ensures.answer) i.none c.in_ok-first.ensures.answer

pub loop-atom-preserved-in_default : goal.loop-atom-preserved-in_default
loop-atom-preserved-in_default g c =
    let i = c.loop-atom.invariant in
    let e = c.in_ok-found.ensures in
    record {
      main = e.main;
      longer = longer_on c.args.engine.now.log c.loop-atom.engine.log c.closest_after.new.engine.log i.longer e.longer;
      within = omega arith;
      none = none_by_false (g.Q.Questions.setting c.args.questions.now) c.loop-atom.atom c.args.last (c.requires.sized ∙ c.requires.atoms) (omega arith) (omega (arith, c.requires.atoms, i.within)) c.if-not-get.ensures (with_is (g.Q.Questions.setting c.args.questions.now) _ _ _ c.in_default.is e.answer) i.none;
    }

pub loop-atom-preserved : goal.loop-atom-preserved
loop-atom-preserved g c =
    let i = c.loop-atom.invariant in
    record {
      main = i.main;
      longer = i.longer;
      within = omega arith;
      none = none_by_true (g.Q.Questions.setting c.args.questions.now) c.loop-atom.atom c.args.last (c.requires.sized ∙ c.requires.atoms) (omega arith) (omega (arith, c.requires.atoms, i.within)) c.if-not-get.ensures i.none;
    }

pub returns-clause-answer : goal.returns-clause-answer
returns-clause-answer g c =
    let end : c.loop-atom.atom ≡ 0 = omega arith in
    none_above (g.Q.Questions.setting c.args.questions.now) c.args.last (subst (λ k. NoneAbove (g.Q.Questions.setting c.args.questions.now) k c.args.last) end c.loop-atom.invariant.none)
