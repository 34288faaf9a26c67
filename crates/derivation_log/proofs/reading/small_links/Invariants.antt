use Rattle.std.proofs.Common.{◌≡◌, take, drop, map, false}
use Rattle.derivation_log.specs.StepLines.{any_big_pivot, widen_link}
use Rattle.derivation_log.proofs.reading.small_links.Given as goal

abbrev pub invariant-loop-link : goal.invariant-loop-link
invariant-loop-link l = record {
  so_far : map widen_link l.made.items ≡ take l.link-index l.links;
  small : any_big_pivot (drop l.link-index l.links) ≡ false;
}
