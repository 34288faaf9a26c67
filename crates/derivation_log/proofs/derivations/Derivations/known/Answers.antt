use Rattle.std.proofs.Common.{◌≡◌, ◌∙◌, sym, ap, ℕ, List}
use Rattle.clause_store.specs.declared.lit.Lit.{Lit}
use Rattle.clause_store.specs.Clauses.{Clauses}
use Rattle.derivation_log.specs.Logs.{Log, known_of}
use Rattle.derivation_log.proofs.Steps.{view_known}
use Rattle.derivation_log.proofs.derivations.Derivations.known.Goals as goal

whole : (k : Clauses) (list : List (List Lit)) (vars : ℕ) → list ≡ k.list → vars ≡ k.vars → k ≡ record { list = list; vars = vars }
whole k list vars p q = simp (p, q)

pub returns : goal.returns
returns c = whole c.self.inside.known (known_of c.args.self.now) c.args.self.now.vars
    (sym (ap known_of c.self.view_is) ∙ view_known c.self.inside.known.list c.self.inside.main c.self.inside.rows.items c.self.invariant)
    (sym (ap (λ (g : Log). g.vars) c.self.view_is))
