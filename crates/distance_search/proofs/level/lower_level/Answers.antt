use Rattle.std.proofs.Common.{List, ℕ, ap, ◌∙◌, arith}
use Rattle.std.specs.Prelude.{slice_index}
use Rattle.cdcl_core.proofs.Longer.{longer_on}
use Rattle.distance_search.proofs.Lowering.{smaller, turned, lowest_at_zero, level_there, found_there}
use Rattle.distance_search.proofs.level.lower_level.Goals as goal

pub value_at-value-requires : goal.value_at-value-requires
value_at-value-requires g c = level_there (g.Q.Questions.setting c.args.questions.now) c.args.from c.args.level c.as_slice.result.now c.as_slice.ensures.value c.requires.reached c.requires.level

pub value_at-value-requires-in-Found : goal.value_at-value-requires-in-Found
value_at-value-requires-in-Found g c = found_there (g.Q.Questions.setting c.args.questions.now) c.ask_better.new.engine.log c.args.level c.as_slice-in-loop-value.result.now c.as_slice-in-Found.result.now c.in_ok-step.field-0 c.in-Found.next c.as_slice-in-Found.ensures.value c.in-Found.is c.in_ok-step.ensures.answer c.requires.level

pub loop-value-smaller : goal.loop-value-smaller
loop-value-smaller g c = smaller (g.Q.Questions.setting c.args.questions.now) c.ask_better.new.engine.log c.args.level c.loop-value.witness.values.items c.as_slice-in-loop-value.result.now c.as_slice-in-Found.result.now c.in_ok-step.field-0 c.in-Found.next c.loop-value.value c.value_at-value-in-Found.result c.as_slice-in-loop-value.ensures.value c.as_slice-in-Found.ensures.value c.in-Found.is c.in_ok-step.ensures.answer c.loop-value.invariant.value c.value_at-value-in-Found.ensures

pub loop-value-preserved : goal.loop-value-preserved
loop-value-preserved g c =
    let i = c.loop-value.invariant in
    let e = c.in_ok-step.ensures in
    let t = turned (g.Q.Questions.setting c.args.questions.now) c.ask_better.new.engine.log c.args.level c.args.from.values.items c.loop-value.witness.values.items c.as_slice-in-loop-value.result.now c.in_ok-step.field-0 c.in-Found.next c.requires.below i.before c.as_slice-in-loop-value.ensures.value c.in-Found.is e.answer in
    record {
      main = e.main;
      longer = longer_on c.args.engine.now.log c.loop-value.engine.log c.ask_better.new.engine.log i.longer e.longer;
      reached = t.reached;
      before = t.before;
      value = c.value_at-value-in-Found.ensures ∙ ap (λ (us : List ℕ). slice_index us c.args.level) c.as_slice-in-Found.ensures.value;
    }

pub returns-clause-answer : goal.returns-clause-answer
returns-clause-answer g c = let i = c.loop-value.invariant in lowest_at_zero (g.Q.Questions.setting c.args.questions.now) c.loop-value.engine.log c.args.level c.args.from c.loop-value.witness (omega (arith, i.value, c.loop-value-test.false)) i.reached i.before
