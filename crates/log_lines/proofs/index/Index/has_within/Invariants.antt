use Rattle.std.proofs.Common.{◌≡◌, ◌<◌, ℕ, List, [], get_or}
use Rattle.clause_store.specs.declared.lit.Lit.{Lit}
use Rattle.clause_store.specs.Lits.{rank_of}
use Rattle.watch_lists.specs.Chains.{list_at}
use Rattle.log_lines.specs.Indexes.{IsIndexOf, IsIndexed}
use Rattle.log_lines.proofs.index.Index.has_within.Given as goal

abbrev pub invariant-loop-lit : goal.invariant-loop-lit
invariant-loop-lit l =
    (before : List (List Lit)) (bound : ℕ) → IsIndexOf l.fn.self l.known before bound →
    (lists : List (List ℕ)) × IsIndexed l.self.heads.items l.self.next.items l.self.empty l.known before bound lists
    × ((k : ℕ) (d : Lit) → k < l.lit-index → list_at lists (rank_of (get_or l.clause k d)) ≡ [])
