use Rattle.std.proofs.Common.{rules, refl, ap}
use Rattle.report_lines.specs.declared.kinds.Due.TheVariants as due
use Rattle.report_lines.specs.Following.{after}
use Rattle.report_lines.specs.Items.{HeadLine}
use Rattle.report_lines.specs.Places.{Position}
use Rattle.report_text.proofs.front.Front.head.Goals as goal

pub returns : goal.returns
returns c = λ p h. (
  after p HeadLine,
  record { item = HeadLine; of = refl; words = search rules; leads = (refl, refl) },
  record { place = ap (λ (r : Position). record r { due = due.Distance }) h.place; declared = h.declared; come = tt },
)
