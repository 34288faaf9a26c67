-- What conflict analysis asks of a trail.
use Rattle.std.specs.Prelude.{◌≡◌, List}
use Rattle.clause_store.specs.Clauses.{Clauses}
use Rattle.watch_lists.specs.Trace.{Trace, Attached, StandIn}
use Rattle.solver_laws.specs.Ready.{IsJustified}

pub record CanAnalyse (known : Clauses) (watched : List Attached) (t : Trace) : Type 0 where
  pub stand : StandIn known.list watched
  pub justified : IsJustified watched t.entries
  pub vars : t.vars ≡ known.vars
