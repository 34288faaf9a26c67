-- A solver as its callers see it.
use Rattle.std.specs.Prelude.{◌≡◌, ℕ, Bool, false, List}
use Rattle.clause_store.specs.declared.lit.Lit.{Lit}
use Rattle.watch_lists.specs.Trace.{Trace, Attached, Place}
use Rattle.derivation_log.specs.Logs.{Log}
use Rattle.solver_laws.specs.Ready.{IsReady, IsLog}
use Rattle.cdcl_core.specs.Marked.{AreClear}

-- a solver is seen as its log, and whether memory was wanting once
pub record State : Type 0 where
  pub log : Log
  pub failed : Bool

-- between calls the log is sound and new, and all else holds unless a call failed; no variable is marked
pub record IsResting (g : Log) (failed : Bool) (watched : List Attached) (done : List Place) (count : ℕ) (t : Trace) (m : List Bool) (k : List Lit) : Type 0 where
  pub log : IsLog g
  pub ready : failed ≡ false → IsReady g watched done count t
  pub rest : failed ≡ false → t.level ≡ 0
  pub clear : failed ≡ false → AreClear t.vars m k
