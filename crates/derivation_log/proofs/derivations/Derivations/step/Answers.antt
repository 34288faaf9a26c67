use Rattle.std.proofs.Common.{◌≡◌, ◌∙◌, ◌<◌, ℕ, List, length, Some, ap, sym, subst, arith}
use Rattle.clause_store.specs.declared.lit.Lit.{Lit}
use Rattle.derivation_log.specs.declared.step.Link.{Link}
use Rattle.derivation_log.specs.declared.step.Step.{Step}
use Rattle.derivation_log.specs.declared.step.StepKind.{StepKind}
use Rattle.clause_store.specs.Lits.{AreInRange}
use Rattle.clause_store.specs.Limits.{clause_limit}
use Rattle.derivation_log.specs.Logs.{Log, known_of}
use Rattle.derivation_log.proofs.Lines.{step_has_line}
use Rattle.derivation_log.proofs.Steps.{stands, step_of_number, view_known}
use Rattle.derivation_log.proofs.derivations.Derivations.step.Goals as goal

copied : (kind : StepKind) (first : ℕ) (c d : List Lit) (l m : List Link) → c ≡ d → l ≡ m → let s : Step = record { kind = kind; clause = d; first = first; chain = m } in let t : Step = record { kind = kind; clause = c; first = first; chain = l } in s ≡ t
copied kind first c d l m e f = simp (e, f)

pub clause-requires : goal.clause-requires
clause-requires c =
    let s = stands c.args.self.now c.self.inside.known.list c.self.inside.main c.self.inside.known.vars c.self.inside.rows.items c.self.invariant c.self.view_is in
    omega (arith, s.known, c.requires.known)

pub index-row-requires : goal.index-row-requires
index-row-requires c =
    let s = stands c.args.self.now c.self.inside.known.list c.self.inside.main c.self.inside.known.vars c.self.inside.rows.items c.self.invariant c.self.view_is in
    omega (arith, s.known, s.main, c.requires.known, c.requires.main, c.self.invariant, c.self.inside.rows.ok.0)

pub returns-clause-step : goal.returns-clause-step
returns-clause-step c =
    let s = stands c.args.self.now c.self.inside.known.list c.self.inside.main c.self.inside.known.vars c.self.inside.rows.items c.self.invariant c.self.view_is in
    let chain : c.from_vec.result ≡ c.index-row.result.now.chain = c.from_vec.ensures ∙ c.in_ok-links.ensures.items_if_clones_equal (λ x y e. e) ∙ c.as_slice.ensures in
    step_of_number c.args.self.now c.self.inside.known.list c.self.inside.main c.self.inside.rows.items c.args.number c.clause.result.now c.index-row.result.now s c.self.invariant c.requires.main c.requires.known c.clause.ensures.value c.index-row.ensures
    ∙ ap (λ (x : Step). Some x) (copied c.index-row.result.now.kind c.index-row.result.now.first c.in_ok-clause.clause c.clause.result.now c.from_vec.result c.index-row.result.now.chain c.in_ok-clause.ensures chain)

pub returns-clause-line : goal.returns-clause-line
returns-clause-line c = λ follow.
    let g : Log = c.args.self.now in
    let own : List (List Lit) = c.self.inside.known.list in
    let known : known_of g ≡ own = sym (ap known_of c.self.view_is) ∙ view_known own c.self.inside.main c.self.inside.rows.items c.self.invariant in
    let few : length (known_of g) < clause_limit = omega (arith, ap length known, c.len.ensures.len, c.len.ensures.small) in
    let vars : c.self.inside.known.vars ≡ g.vars = ap (λ (x : Log). x.vars) c.self.view_is in
    let in_range : AreInRange g.vars (known_of g) = subst (λ (n : ℕ). AreInRange n (known_of g)) vars (subst (AreInRange c.self.inside.known.vars) (sym known) c.len.ensures.whole.in_range) in
    let s : Step = record { kind = c.index-row.result.now.kind; clause = c.in_ok-clause.clause; first = c.index-row.result.now.first; chain = c.from_vec.result } in
    step_has_line g c.args.number s (omega (arith, vars, c.vars.ensures.vars, c.vars.ensures.few)) few in_range follow c.requires.main (returns-clause-step c)
