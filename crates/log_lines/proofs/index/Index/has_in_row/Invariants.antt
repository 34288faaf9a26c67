use Rattle.std.proofs.Common.{ℕ, List}
use Rattle.clause_store.specs.declared.lit.Lit.{Lit}
use Rattle.log_lines.specs.Indexes.{IsIndexed}
use Rattle.log_lines.proofs.Indexed.{Rounds}
use Rattle.log_lines.proofs.index.Index.has_in_row.Given as goal

abbrev pub invariant-loop-turn : goal.invariant-loop-turn
invariant-loop-turn l =
    (before : List (List Lit)) (bound : ℕ) (lists : List (List ℕ)) → IsIndexed l.fn.self.heads.items l.fn.self.next.items l.fn.self.empty l.known before bound lists →
    Rounds l.self.heads.items l.self.next.items l.self.empty l.known before bound l.clause l.fn.lit lists l.number l.turn
