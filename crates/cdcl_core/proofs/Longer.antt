-- Logs that grew at their ends.
use Rattle.std.proofs.Common.{◌≡◌, ℕ, List, [], ◌++◌, refl, sym, ap, ◌∙◌, append_assoc, Some}
use Rattle.std.specs.Prelude.{slice_get}
use Rattle.std.proofs.lemmas.List.{append-nil}
use Rattle.clause_store.specs.declared.lit.Lit.{Lit}
use Rattle.clause_store.proofs.Numbered.{get_front}
use Rattle.derivation_log.specs.Logs.{Log, known_of, clauses_of}
use Rattle.derivation_log.proofs.Steps.{known_front}
use Rattle.cdcl_core.specs.Replies.{IsLonger}

pub longer_none : (log : Log) → IsLonger log log
longer_none log = record { main = refl; vars = refl; steps = ([], sym (append-nil log.steps)) }

pub longer_on : (a b c : Log) → IsLonger a b → IsLonger b c → IsLonger a c
longer_on a b c g h =
    let x = g.steps in
    let y = h.steps in
    record { main = h.main ∙ g.main; vars = h.vars ∙ g.vars; steps = (x.0 ++ y.0, y.1 ∙ ap (λ xs. xs ++ y.0) x.1 ∙ append_assoc a.steps x.0 y.0) }

-- a clause keeps its number
pub known_on : (a b : Log) (number : ℕ) (clause : List Lit) → IsLonger a b → slice_get (known_of a) number ≡ Some clause → slice_get (known_of b) number ≡ Some clause
known_on a b number clause g e =
    let more = g.steps in
    ap (λ cs. slice_get cs number) (known_front a b more.0 g.main more.1) ∙ get_front (known_of a) (clauses_of more.0) number clause e
