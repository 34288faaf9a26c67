use Rattle.report_text.proofs.PartsWhole.{accepted_parts, by_names}
use Rattle.report_text.proofs.parts.accepted_has_parts.Goals as goal

pub returns : goal.returns
returns c =
    accepted_parts
    (by_names c.accepted_named.ensures c.accepted_named-2.ensures c.accepted_named-3.ensures c.accepted_named-4.ensures c.accepted_named-5.ensures c.accepted_named-6.ensures)
