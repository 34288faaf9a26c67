use Rattle.std.proofs.Common.{◌≡◌, ◌+◌, ◌≤◌, length}
use Rattle.watch_lists.specs.Trace.{oldest}
use Rattle.cdcl_core.proofs.Learning.{There}
use Rattle.cdcl_core.proofs.analysis.claim.Given as goal

abbrev pub invariant-back : goal.invariant-back
invariant-back g l = record {
  within : l.left ≤ length l.trail.entries;
  size : length l.marks.marked.items ≡ l.trail.vars + 1;
  there : There l.known.list (g.P.Propagator.attached l.propagator) l.trail.vars l.assumptions (oldest l.left l.trail.entries) l.trail.entries l.first l.chain.items l.marks.marked.items l.marks.kept.items;
}

abbrev pub decreases-back : goal.decreases-back
decreases-back g l = l.left
