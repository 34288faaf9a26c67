use Rattle.std.proofs.Common.{◌≡◌, ◌+◌, ◌++◌, length, take, drop, map}
use Rattle.derivation_log.specs.Marking.{placed_link, AreBelow}
use Rattle.derivation_log.proofs.trimming.place_links.Given as goal

abbrev pub invariant-loop-link : goal.invariant-loop-link
invariant-loop-link l = record {
  links : l.links ≡ map (placed_link l.main l.places) (take l.link-index l.initial.links) ++ drop l.link-index l.initial.links;
  below : AreBelow (l.main + length l.places) (map (λ link. link.number) (drop l.link-index l.initial.links));
}
