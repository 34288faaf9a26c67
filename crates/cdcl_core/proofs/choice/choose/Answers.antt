use Rattle.std.proofs.Common.{◌≡◌, ◌≤◌, ℕ, List, length, rules, Some, true, arith, get_or}
use Rattle.std.specs.Prelude.{All}
use Rattle.std.proofs.lemmas.List.{get_or_default}
use Rattle.clause_store.specs.declared.lit.Lit.{Lit}
use Rattle.watch_lists.specs.declared.entry.Entry.{Entry}
use Rattle.watch_lists.specs.Trace.{value_of}
use Rattle.cdcl_core.specs.Choices.{AreTrueBefore}
use Rattle.cdcl_core.proofs.Levels.{no_lit}
use Rattle.cdcl_core.proofs.Askings.{true_more}
use Rattle.cdcl_core.proofs.choice.choose.Goals as goal

pub past-preserved : goal.past-preserved
past-preserved c =
    let x : Lit = get_or c.args.assumptions.now c.past.place no_lit in
    let v : value_of c.args.trail.now.entries x ≡ Some true = (let k = c.in-Some-true.ensures in let m = c.in-Some-true.field-0-test in search rules) in
    record {
      on = omega (arith, c.past.invariant.on);
      before = true_more c.past.place c.args.assumptions.now c.args.trail.now.entries x c.past-test.true (get_or_default c.args.assumptions.now c.past.place x no_lit c.past-test.true) v c.past.invariant.before;
    }

-- all are true where none is left
none_left : (es : List Entry) (asked : List Lit) (place : ℕ) → length asked ≤ place → AreTrueBefore place asked es → All (λ (l : Lit). value_of es l ≡ Some true) asked
none_left es asked place h a k d lt = a k d (omega arith) lt

pub returns-in-Some-clause-chosen : goal.returns-in-Some-clause-chosen
returns-in-Some-clause-chosen c = (none_left c.args.trail.now.entries c.args.assumptions.now c.past.place c.past-test.false c.past.invariant.before, c.in-Some.ensures)

pub returns-in-Some-first_free-clause-chosen : goal.returns-in-Some-first_free-clause-chosen
returns-in-Some-first_free-clause-chosen c = (none_left c.args.trail.now.entries c.args.assumptions.now c.past.place c.past-test.false c.past.invariant.before, c.in-Some-first_free.ensures.some)

pub returns-in-None-first_free-clause-chosen : goal.returns-in-None-first_free-clause-chosen
returns-in-None-first_free-clause-chosen c = (none_left c.args.trail.now.entries c.args.assumptions.now c.past.place c.past-test.false c.past.invariant.before, c.in-None-first_free.ensures.none)
