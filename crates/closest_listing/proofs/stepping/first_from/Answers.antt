use Rattle.std.proofs.Common.{rules, ◌≡◌, arith, subst}
use Rattle.cdcl_core.proofs.Longer.{longer_on}
use Rattle.distance_search.proofs.Halts.{halted_on}
use Rattle.closest_listing.specs.Listed.{IsLowestTo}
use Rattle.closest_listing.proofs.Ordered.{lowest_end}
use Rattle.closest_listing.proofs.stepping.first_from.Goals as goal

pub returns-in_err-lowest-clause-answer : goal.returns-in_err-lowest-clause-answer
returns-in_err-lowest-clause-answer g c =
    let h = halted_on c.args.engine.now.log c.loop-atom.engine.log c.lower_value.new.engine.log (g.Q.Questions.budget c.args.questions.now) c.in_err-lowest.field-0.0 c.loop-atom.invariant.longer c.in_err-lowest.ensures.answer in
    search rules

pub loop-atom-preserved : goal.loop-atom-preserved
loop-atom-preserved g c =
    let e = c.in_ok-lowest.ensures in
    record {
      main = e.main;
      longer = longer_on c.args.engine.now.log c.loop-atom.engine.log c.lower_value.new.engine.log c.loop-atom.invariant.longer e.longer;
      lowest = e.answer;
    }

pub returns-clause-answer : goal.returns-clause-answer
returns-clause-answer g c =
    let end : c.loop-atom.atom ≡ (g.Q.Questions.setting c.args.questions.now).profile.atoms = omega (arith, c.requires.atoms, c.requires.depth, c.loop-atom-test.false, c.loop-atom.auto.atom-end) in
    lowest_end (g.Q.Questions.setting c.args.questions.now) c.args.depth c.args.found c.loop-atom.lowest (subst (λ k. IsLowestTo (g.Q.Questions.setting c.args.questions.now) c.args.depth k c.args.found c.loop-atom.lowest) end c.loop-atom.invariant.lowest)
