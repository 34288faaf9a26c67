use Rattle.std.proofs.Common.{refl, ap}
use Rattle.report_lines.specs.declared.kinds.Due.TheVariants as due
use Rattle.report_lines.specs.Following.{after}
use Rattle.report_lines.specs.Items.{ConflictsLine}
use Rattle.report_lines.specs.Places.{Position}
use Rattle.report_text.proofs.front.Front.conflicts.Goals as goal

pub returns : goal.returns
returns c = λ p h.
    let conflicts = c.in-Some.conflicts in
    let stated = c.in-Some.ensures.some in (
      after p (ConflictsLine conflicts),
      record { item = ConflictsLine conflicts; of = (conflicts, refl, stated.1, stated.2); words = stated.0; leads = (refl, refl) },
      record {
        place = ap (λ (r : Position). record r { due = due.Atoms; conflicts = conflicts }) h.place;
        declared = h.declared;
        come = (stated.1, stated.2);
      },
    )
