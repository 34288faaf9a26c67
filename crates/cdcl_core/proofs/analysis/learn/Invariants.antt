use Rattle.std.proofs.Common.{◌≡◌, ◌+◌, ◌≤◌, ◌-◌, length}
use Rattle.watch_lists.specs.Trace.{upto, oldest}
use Rattle.cdcl_core.proofs.Learning.{Here}
use Rattle.cdcl_core.proofs.analysis.learn.Given as goal

abbrev pub invariant-back : goal.invariant-back
invariant-back g l = record {
  within : l.left ≤ length l.trail.entries;
  size : length l.marks.marked.items ≡ l.trail.vars + 1;
  here : Here l.known.list (g.P.Propagator.attached l.propagator) l.trail.vars (upto (l.trail.level - 1) l.trail.entries) (oldest l.left l.trail.entries) l.trail.entries l.first l.chain.items l.marks.marked.items l.marks.kept.items l.count;
}

abbrev pub decreases-back : goal.decreases-back
decreases-back g l = l.left
