use Rattle.std.proofs.Common.{◌≤◌, ◌<◌, ◌+◌, ◌-◌, ℕ, take}
use Rattle.watch_lists.specs.Trace.{room_of, upto}
use Rattle.cdcl_core.proofs.analysis.back_level.Given as goal

abbrev pub invariant-loop-lit : goal.invariant-loop-lit
invariant-loop-lit l = record {
  below : l.best < l.trail.level;
  rise : (k : ℕ) → k < l.trail.level → room_of (upto (l.trail.level - 1) l.trail.entries) (take l.lit-index l.lits) ≤ room_of (upto k l.trail.entries) (take l.lit-index l.lits);
  room : (k : ℕ) → k < l.best → room_of (upto (l.trail.level - 1) l.trail.entries) (take l.lit-index l.lits) + 1 ≤ room_of (upto k l.trail.entries) (take l.lit-index l.lits);
}
