use Rattle.std.proofs.Common.{◌≡◌, ◌+◌, ◌≤◌, length, take}
use Rattle.cdcl_core.specs.Marked.{IsAdded, lower, others}
use Rattle.cdcl_core.proofs.marks.Marks.add.Given as goal

abbrev pub invariant-loop-lit : goal.invariant-loop-lit
invariant-loop-lit l = record {
  size : length l.self.marked.items ≡ l.trail.vars + 1;
  added : IsAdded l.trail.entries (lower l.level l.trail.entries) l.fn.self.marked.items l.fn.self.kept.items l.self.marked.items l.self.kept.items (others l.but (take l.lit-index l.lits)) l.count;
  few : l.count ≤ l.lit-index;
}
