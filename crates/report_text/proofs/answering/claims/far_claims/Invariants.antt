use Rattle.std.proofs.Common.{◌≡◌, ◌++◌, map, drop}
use Rattle.merge_encoding.specs.Claims.{NoNearer}
use Rattle.report_lines.specs.ClaimsDue.{far_claims, numbered}
use Rattle.report_text.specs.Answering.{due_claim}
use Rattle.report_text.proofs.answering.claims.far_claims.Given as goal

abbrev pub invariant-loop-agent : goal.invariant-loop-agent
invariant-loop-agent l =
    map due_claim l.claims.items ++ numbered (λ i d. record { model = l.number; says = NoNearer i l.model d }) l.agent (drop l.agent l.vector)
    ≡ far_claims l.number l.model l.vector
