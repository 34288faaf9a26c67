use Rattle.std.proofs.Common.{◌≡◌, map, take}
use Rattle.report_lines.specs.Reports.{step_of}
use Rattle.merge_reports.proofs.trimming.step_numbers.Given as goal

abbrev pub invariant-loop-proof : goal.invariant-loop-proof
invariant-loop-proof l = l.numbers.items ≡ map step_of (take l.proof-index l.proofs)
