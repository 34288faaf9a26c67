use Rattle.std.proofs.Common.{◌≢◌, ◌≤◌, ℕ, None, false}
use Rattle.watch_lists.specs.Trace.{value_of}
use Rattle.cdcl_core.proofs.choice.first_free.Given as goal

abbrev pub invariant-loop-index : goal.invariant-loop-index
invariant-loop-index l = (v : ℕ) → 1 ≤ v → v ≤ l.index → value_of l.trail.entries (record { var = v; positive = false }) ≢ None
