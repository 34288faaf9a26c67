use Rattle.std.proofs.Common.{◌≡◌, ◌+◌, length, drop, map}
use Rattle.derivation_log.specs.Marking.{mark_all, AreBelow}
use Rattle.derivation_log.proofs.trimming.mark_links.Given as goal

abbrev pub invariant-loop-link : goal.invariant-loop-link
invariant-loop-link l = record {
  marks : mark_all l.main (map (λ link. link.number) (drop l.link-index l.links)) l.marks ≡ mark_all l.main (map (λ link. link.number) l.links) l.initial.marks;
  same : length l.marks ≡ length l.initial.marks;
  below : AreBelow (l.main + length l.initial.marks) (map (λ link. link.number) (drop l.link-index l.links));
}
