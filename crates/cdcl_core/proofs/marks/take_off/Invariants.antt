use Rattle.std.proofs.Common.{◌≡◌, ℕ, true, length, drop}
use Rattle.clause_store.specs.declared.lit.Lit.{Lit}
use Rattle.clause_store.specs.Lits.{has}
use Rattle.cdcl_core.specs.Marked.{mark_of}
use Rattle.cdcl_core.proofs.marks.take_off.Given as goal

abbrev pub invariant-loop-lit : goal.invariant-loop-lit
invariant-loop-lit l = record {
  size : length l.marked.items ≡ length l.fn.marked.items;
  marks : (v : ℕ) → mark_of l.marked.items v ≡ true → (x : Lit) × (x.var ≡ v) × (has x (drop l.lit-index l.lits) ≡ true);
}
