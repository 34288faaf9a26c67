use Rattle.derivation_log.specs.Marking.{placed_row}
use Rattle.derivation_log.proofs.Places.{Kept}
use Rattle.derivation_log.proofs.trimming.keep_rows.Given as goal

abbrev pub invariant-loop-k : goal.invariant-loop-k
invariant-loop-k l = Kept (placed_row l.main l.places) l.initial.rows.items l.marks l.k l.count l.rows.items
