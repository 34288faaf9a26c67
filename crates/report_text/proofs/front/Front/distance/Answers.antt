use Rattle.std.proofs.Common.{refl, ap}
use Rattle.report_lines.specs.declared.kinds.Due.TheVariants as due
use Rattle.report_lines.specs.Following.{after}
use Rattle.report_lines.specs.Items.{DistanceLine}
use Rattle.report_lines.specs.Places.{Position}
use Rattle.report_text.proofs.front.Front.distance.Goals as goal

pub returns : goal.returns
returns c = λ p h.
    let distance = c.in-Some.distance in (
      after p (DistanceLine distance),
      record { item = DistanceLine distance; of = (distance, refl); words = c.in-Some.ensures.some; leads = (refl, refl) },
      record { place = ap (λ (r : Position). record r { due = due.Aggregator; distance = distance }) h.place; declared = h.declared; come = tt },
    )
