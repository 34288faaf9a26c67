-- Claims that may be asked.
use Rattle.std.proofs.Common.{length, ap, ◌∙◌}
use Rattle.clause_store.proofs.Fresh.{length-fresh_lits}
use Rattle.merge_encoding.specs.Claims.{Assertion}
use Rattle.merge_encoding.proofs.Same.{IsProperOf, proper_in}
use Rattle.distance_search.specs.Setting.{Setting, IsAskable}
use Rattle.distance_search.specs.Laws.{Laws}

-- what may be asked, said of the main clauses in place of their frame
pub ready : (s : Setting) → Laws s → (claim : Assertion) → IsProperOf s.main s.profile.atoms claim → IsAskable s claim
ready s law claim h =
    let m = law.main in
    proper_in s.main s.profile.atoms claim (ap length m.shared_are ∙ length-fresh_lits 0 s.profile.atoms) h
