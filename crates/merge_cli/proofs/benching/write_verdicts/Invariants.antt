use Rattle.std.proofs.Common.{◌≡◌, ◌++◌, drop}
use Rattle.report_lines.specs.Parts.{items_text}
use Rattle.merge_cli.specs.Bench.{verdict_lines}
use Rattle.merge_cli.proofs.benching.write_verdicts.Given as goal

abbrev pub invariant-loop-query : goal.invariant-loop-query
invariant-loop-query l =
    l.into.items ++ items_text (verdict_lines l.query (drop l.query l.verdicts)) ≡ l.fn.into.items ++ items_text (verdict_lines 0 l.verdicts)
