use Rattle.std.proofs.Common.{◌≡◌, ◌∙◌, sym, ap, List, [], ◌∷◌, ◌++◌, length, rules}
use Rattle.std.specs.Prelude.{take, drop}
use Rattle.clause_store.specs.declared.lit.Lit.{Lit}
use Rattle.clause_store.specs.Clauses.{Clauses}
use Rattle.derivation_log.specs.declared.derivations.Row.{Row}
use Rattle.derivation_log.specs.Logs.{Log, known_of}
use Rattle.derivation_log.specs.Rows.{steps_of}
use Rattle.derivation_log.proofs.Steps.{view_known, view_push, log_eq}
use Rattle.derivation_log.proofs.derivations.Derivations.append.Goals as goal

pub returns-clause-number : goal.returns-clause-number
returns-clause-number c =
    c.in_ok-number.ensures.number ∙ ap (λ (zs : List (List Lit)). length zs) (sym (view_known c.self.inside.known.list c.self.inside.main c.self.inside.rows.items c.self.invariant) ∙ ap known_of c.self.view_is)

pub returns-clause-ok : goal.returns-clause-ok
returns-clause-ok c =
    let step = c.args.step in
    let r : Row = record { kind = step.kind; first = step.first; chain = step.chain } in
    let old = c.self.inside.known in
    let main = c.self.inside.main in
    let rows : c.push.new.self.items ≡ c.self.inside.rows.items ++ r ∷ [] = search rules in
    let k = c.in_ok-number.ensures.ok in
    let list : c.add_clause.new.self.list ≡ old.list ++ step.clause ∷ [] = ap (λ (x : Clauses). x.list) k in
    log_eq (ap (λ (zs : List (List Lit)). take main zs) list) (ap (λ (x : Clauses). x.vars) k)
    (ap (λ (zs : List (List Lit)). steps_of (drop main zs) c.push.new.self.items) list ∙ ap (λ (rs : List Row). steps_of (drop main (old.list ++ step.clause ∷ [])) rs) rows)
    ∙ view_push old.list main old.vars c.self.inside.rows.items step.clause r c.self.invariant
    ∙ ap (λ (g : Log). record g { steps = g.steps ++ step ∷ [] }) c.self.view_is
