use Rattle.report_lines.specs.ClaimsDue.{least_claims}
use Rattle.report_lines.specs.Places.{measure_at, values_at}
use Rattle.report_text.proofs.Rows.{due_with, fits_after_measure, same_test}
use Rattle.std.proofs.lemmas.List.{map-append}
use Rattle.std.proofs.Common.{◌≡◌, true, ◌++◌, refl, ap, ◌∙◌, sym, subst, All, length, map}
use Rattle.report_lines.specs.Following.{after}
use Rattle.report_lines.specs.Holding.{holds}
use Rattle.report_lines.specs.Items.{MeasureLine}
use Rattle.report_lines.specs.Judged.{faulty}
use Rattle.report_text.specs.Answering.{position_of, due_claim}
use Rattle.report_text.proofs.Claiming.{IsProperDue, added_proper, least_proper}
use Rattle.report_text.proofs.answering.Answering.on_measure.Goals as goal

pub returns-then-not-are_equal-clause-judged : goal.returns-then-not-are_equal-clause-judged
returns-then-not-are_equal-clause-judged c =
    let p = position_of c.args.self.now in
    let rs = c.in-Some.numbers.items in
    let read = rw c.in-Some.is at c.in_ok-numbers.ensures in
    let kept : c.args.self.now.measure.items ≡ measure_at p = c.requires.place.0.1 in
    let size : length rs ≡ length (measure_at p) = read.1 ∙ c.len-count.ensures ∙ sym c.deref-2.ensures.len ∙ ap length (c.deref-2.ensures.value ∙ kept) in
    let equal : c.are_equal.result ≡ holds p (MeasureLine rs) = c.are_equal.ensures ∙ same_test _ _ _ _ c.deref.ensures.value (c.deref-2.ensures.value ∙ kept) in
    faulty (MeasureLine rs) (rs, refl, size, read.2) read.0 (sym equal ∙ c.if-not-are_equal.true) refl

pub returns-clause-judged : goal.returns-clause-judged
returns-clause-judged c =
    let p = position_of c.args.self.now in
    let rs = c.in-Some.numbers.items in
    let read = rw c.in-Some.is at c.in_ok-numbers.ensures in
    let kept : c.args.self.now.measure.items ≡ measure_at p = c.requires.place.0.1 in
    let values : c.args.self.now.values.items ≡ values_at p = c.requires.place.0.2 in
    let size : length rs ≡ length (measure_at p) = read.1 ∙ c.len-count.ensures ∙ sym c.deref-2.ensures.len ∙ ap length (c.deref-2.ensures.value ∙ kept) in
    let equal : c.are_equal.result ≡ holds p (MeasureLine rs) = c.are_equal.ensures ∙ same_test _ _ _ _ c.deref.ensures.value (c.deref-2.ensures.value ∙ kept) in
    let held : holds p (MeasureLine rs) ≡ true = sym equal ∙ c.if-not-are_equal.false in
    let least : map due_claim c.in_ok-least.least.items ≡ least_claims (values_at p) = c.in_ok-least.ensures ∙ ap least_claims (c.deref-3.ensures.value ∙ values) in
    let claims : p.claims ++ least_claims (values_at p) ≡ map due_claim c.add_claims.new.claims.items =
    ap (λ cs. p.claims ++ cs) (sym least) ∙ sym (map-append due_claim c.args.self.now.claims.items c.in_ok-least.least.items) ∙ ap (map due_claim) (sym c.in_ok-add_claims.ensures.added) in
    (after p (MeasureLine rs), record { item = MeasureLine rs; of = (rs, refl, size, read.2); words = read.0; leads = (held, refl) }, due_with p _ _ _ _ (sym c.due_after_verdicts-self.ensures) claims)

pub returns-clause-fit : goal.returns-clause-fit
returns-clause-fit c =
    let p = position_of c.args.self.now in
    let values : c.args.self.now.values.items ≡ values_at p = c.requires.place.0.2 in
    let least : map due_claim c.in_ok-least.least.items ≡ least_claims c.args.self.now.values.items = c.in_ok-least.ensures ∙ ap least_claims c.deref-3.ensures.value in
    record {
      place = fits_after_measure _ c.due_after_verdicts-self.result c.due_after_verdicts-self.ensures c.requires.place.0 c.requires.place.1;
      claims = added_proper p c.args.self.now.claims.items c.in_ok-least.least.items c.add_claims.new.claims.items c.in_ok-add_claims.ensures.added c.requires.claims
          (subst (All (IsProperDue p)) (sym least) (least_proper p c.args.self.now.values.items c.requires.place.0.0 values));
    }
