use Rattle.std.proofs.Common.{refl, ap}
use Rattle.report_lines.specs.declared.kinds.Due.TheVariants as due
use Rattle.report_lines.specs.Following.{after}
use Rattle.report_lines.specs.Items.{AggregatorLine}
use Rattle.report_lines.specs.Places.{Position}
use Rattle.report_text.proofs.front.Front.aggregator.Goals as goal

pub returns : goal.returns
returns c = λ p h.
    let aggregator = c.in-Some.aggregator in (
      after p (AggregatorLine aggregator),
      record { item = AggregatorLine aggregator; of = (aggregator, refl); words = c.in-Some.ensures.some; leads = (refl, refl) },
      record { place = ap (λ (r : Position). record r { due = due.Conflicts; aggregator = aggregator }) h.place; declared = h.declared; come = tt },
    )
