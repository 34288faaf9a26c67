use Rattle.std.proofs.Common.{◌≡◌, drop}
use Rattle.log_checker.specs.Verdicts.{are_links_below}
use Rattle.log_checker.proofs.checking.are_numbers_below.Given as goal

abbrev pub invariant-loop-link : goal.invariant-loop-link
invariant-loop-link l = are_links_below l.number (drop l.link-index l.link-items) ≡ are_links_below l.number l.step.chain
