use Rattle.std.proofs.Common.{◌≡◌, ◌++◌, map, drop}
use Rattle.merge_encoding.specs.Claims.{NoBetter}
use Rattle.report_lines.specs.ClaimsDue.{of_first, least_claims, numbered}
use Rattle.report_text.specs.Answering.{due_claim}
use Rattle.report_text.proofs.answering.claims.least_claims.Given as goal

abbrev pub invariant-loop-level : goal.invariant-loop-level
invariant-loop-level l =
    map due_claim l.claims.items ++ numbered (λ j x. of_first (NoBetter j l.values)) l.level (drop l.level l.values)
    ≡ least_claims l.values
