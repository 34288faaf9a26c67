use Rattle.std.proofs.Common.{◌≡◌, ◌≤◌, min, drop}
use Rattle.problem_lines.specs.Numerals.{times_cap, value_after}
use Rattle.problem_lines.proofs.form.value.Given as goal

abbrev pub invariant-loop-byte : goal.invariant-loop-byte
invariant-loop-byte l =
    (l.number ≤ times_cap) × (min (value_after l.number (drop l.byte-index l.byte-items)) times_cap ≡ min (value_after 0 l.byte-items) times_cap)
