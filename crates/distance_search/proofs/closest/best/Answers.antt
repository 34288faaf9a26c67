use Rattle.std.proofs.Common.{rules, ◌≤◌, All, length, sym, ap, ◌∙◌, subst}
use Rattle.std.specs.List.{AllZip}
use Rattle.merge_model.specs.Merging.{IsModel}
use Rattle.distance_search.specs.Turns.{AreLowered}
use Rattle.cdcl_core.proofs.Longer.{longer_on}
use Rattle.distance_search.proofs.Halts.{halted_on}
use Rattle.distance_search.proofs.Exact.{shown_within, shown_long}
use Rattle.distance_search.proofs.Verdicts.{best_whole}
use Rattle.distance_search.proofs.closest.best.Goals as goal

pub away_from-requires-clause-starts : goal.away_from-requires-clause-starts
away_from-requires-clause-starts g c = subst (λ us. AllZip (IsModel (g.Q.Questions.setting c.args.questions.now).profile.atoms) (g.Q.Questions.setting c.args.questions.now).profile.bases us) (sym c.as_slice.ensures.value) c.in_ok-witness.ensures.answer.reached.candidate.models

pub away_from-requires-clause-sized : goal.away_from-requires-clause-sized
away_from-requires-clause-sized g c = c.in_ok-witness.ensures.answer.reached.candidate.model.size

pub measure-requires-clause-within : goal.measure-requires-clause-within
measure-requires-clause-within g c =
    let e = c.in_ok-shown.ensures.answer in
    let shown = e.0.shown in
    subst (λ ks. All (λ k. k ≤ (g.Q.Questions.setting c.args.questions.now).top) ks) (sym c.as_slice-2.ensures) (shown_within (g.Q.Questions.setting c.args.questions.now) (g.met.Q.Questions.laws c.args.questions.now) c.in_ok-shown.field-0.shown (ap length e.1 ∙ c.in_ok-witness.ensures.answer.reached.candidate.model.size) shown)

pub measure-requires-clause-sized : goal.measure-requires-clause-sized
measure-requires-clause-sized g c =
    let e = c.in_ok-shown.ensures.answer in
    let shown = e.0.shown in
    ap length c.as_slice-2.ensures ∙ shown_long (g.Q.Questions.setting c.args.questions.now) c.in_ok-shown.field-0.shown shown

pub returns-in_err-witness-clause-answer : goal.returns-in_err-witness-clause-answer
returns-in_err-witness-clause-answer g c =
    let h = halted_on c.args.engine.now.log c.first.new.engine.log c.lower_all.new.engine.log (g.Q.Questions.budget c.args.questions.now) c.in_err-witness.field-0.0 c.in_ok-start.ensures.longer c.in_err-witness.ensures.answer in
    search rules

pub returns-in_err-shown-clause-answer : goal.returns-in_err-shown-clause-answer
returns-in_err-shown-clause-answer g c =
    let h = halted_on c.args.engine.now.log c.lower_all.new.engine.log c.away_from.new.engine.log (g.Q.Questions.budget c.args.questions.now) c.in_err-shown.field-0.0 (longer_on c.args.engine.now.log c.first.new.engine.log c.lower_all.new.engine.log c.in_ok-start.ensures.longer c.in_ok-witness.ensures.longer) c.in_err-shown.ensures.answer in
    search rules

pub returns-in_err-measure-clause-longer : goal.returns-in_err-measure-clause-longer
returns-in_err-measure-clause-longer g c = longer_on c.args.engine.now.log c.lower_all.new.engine.log c.away_from.new.engine.log (longer_on c.args.engine.now.log c.first.new.engine.log c.lower_all.new.engine.log c.in_ok-start.ensures.longer c.in_ok-witness.ensures.longer) c.in_ok-shown.ensures.longer

pub returns-clause-longer : goal.returns-clause-longer
returns-clause-longer g c = longer_on c.args.engine.now.log c.lower_all.new.engine.log c.away_from.new.engine.log (longer_on c.args.engine.now.log c.first.new.engine.log c.lower_all.new.engine.log c.in_ok-start.ensures.longer c.in_ok-witness.ensures.longer) c.in_ok-shown.ensures.longer

pub returns-clause-answer : goal.returns-clause-answer
returns-clause-answer g c =
    let e = c.in_ok-shown.ensures.answer in
    let found = c.in_ok-shown.field-0 in
    let low = subst (λ fs. AreLowered (g.Q.Questions.setting c.args.questions.now) c.lower_all.new.engine.log (length (g.Q.Questions.setting c.args.questions.now).main.levels) c.in_ok-witness.field-0.witness fs) (sym c.from_vec-3.ensures) c.in_ok-witness.ensures.answer in
    best_whole (g.Q.Questions.setting c.args.questions.now) (g.met.Q.Questions.laws c.args.questions.now) c.lower_all.new.engine.log c.away_from.new.engine.log c.in_ok-witness.field-0.witness
    (record { shown = found.shown; measure = c.from_vec.result; values = c.from_vec-2.result; far = found.far; least = c.from_vec-3.result }) c.as_slice-2.result.now
    c.in_ok-shown.ensures.longer low c.from_vec-2.ensures e.0 e.1 c.as_slice-2.ensures (c.from_vec.ensures ∙ c.in_ok-measure.ensures)
