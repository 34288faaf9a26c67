use Rattle.std.proofs.Common.{◌≡◌, ◌&&◌, drop}
use Rattle.std.specs.Prelude.{nat_le}
use Rattle.std.specs.List.{list_all}
use Rattle.clause_store.specs.declared.lit.Lit.{Lit}
use Rattle.solver_rows.proofs.logs.are_within.Given as goal

abbrev pub invariant-loop-lit : goal.invariant-loop-lit
invariant-loop-lit l = list_all (λ (lit : Lit). nat_le 1 lit.var && nat_le lit.var l.vars) (drop l.lit-index l.lits) ≡ list_all (λ (lit : Lit). nat_le 1 lit.var && nat_le lit.var l.vars) l.lits
