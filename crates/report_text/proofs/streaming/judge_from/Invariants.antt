use Rattle.std.proofs.Common.{◌≡◌}
use Rattle.report_text.proofs.StreamingFacts.{Streams}
use Rattle.report_text.proofs.streaming.judge_from.Given as goal

abbrev pub invariant-loop-count : goal.invariant-loop-count
invariant-loop-count g l = record {
  streams : Streams (g.S.Source.left l.initial.source) (g.S.Source.left l.source) (g.S.Source.room l.initial.source) (g.S.Source.room l.source) l.progress;
  quiet : g.S.Source.faults l.source ≡ g.S.Source.faults l.initial.source;
}

abbrev pub decreases-loop-count : goal.decreases-loop-count
decreases-loop-count g l = g.S.Source.room l.source
