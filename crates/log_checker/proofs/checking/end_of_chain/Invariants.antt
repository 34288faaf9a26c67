use Rattle.std.proofs.Common.{◌≡◌, drop}
use Rattle.log_checker.specs.Verdicts.{chain_from}
use Rattle.clause_store.specs.Clauses.{clause_at}
use Rattle.log_checker.proofs.checking.end_of_chain.Given as goal

abbrev pub invariant-loop-link : goal.invariant-loop-link
invariant-loop-link l = record {
  place : l.place ≡ l.link-index;
  so_far : chain_from l.known.list l.place l.running (drop l.link-index l.links) ≡ chain_from l.known.list 0 (clause_at l.known.list l.fn.first) l.links;
}
