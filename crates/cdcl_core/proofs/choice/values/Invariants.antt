use Rattle.std.proofs.Common.{◌≡◌, ◌<◌, ◌+◌, ℕ, true, false, length}
use Rattle.std.specs.Prelude.{unwrap_or, slice_index_or}
use Rattle.watch_lists.specs.Trace.{value_of}
use Rattle.cdcl_core.proofs.choice.values.Given as goal

abbrev pub invariant-loop-index : goal.invariant-loop-index
invariant-loop-index l = record {
  size : length l.made ≡ l.trail.vars;
  each : (v : ℕ) → v < l.index → slice_index_or l.made v false ≡ unwrap_or (value_of l.trail.entries (record { var = v + 1; positive = true })) false;
}
