-- A step that follows from sorted clauses over some variables is right on its line.
use Rattle.std.proofs.Common.{◌≡◌, ℕ, ◌≤◌, true, false, cond, List, [], ◌∷◌, length, None, refl, ap, subst, ◌∙◌, arith}
use Rattle.std.specs.Prelude.{nat_le}
use Rattle.std.specs.List.{AllByRecursion}
use Rattle.std.proofs.lemmas.Option.{slice_get_within}
use Rattle.std.proofs.lemmas.Bool.Decides.{nat_tests}
use Rattle.clause_store.specs.declared.lit.Lit.{Lit}
use Rattle.clause_store.specs.Lits.{negated, same_lit, without, joined, resolvent, Ascends}
use Rattle.clause_store.specs.Clauses.{clause_at}
use Rattle.clause_store.proofs.Each.{each_at}
use Rattle.clause_store.proofs.Lits.{Ascends-resolvent}
use Rattle.clause_store.proofs.Numbered.{clause_at-get}
use Rattle.clause_store.proofs.Truths.{and_both}
use Rattle.derivation_log.specs.declared.step.Link.{Link}
use Rattle.derivation_log.specs.declared.step.Step.{Step}
use Rattle.derivation_log.specs.Logs.{Comes, Follows}
use Rattle.derivation_log.specs.StepLines.{HasLine, step_line}
use Rattle.derivation_log.proofs.Narrow.{ascends_rises, step_small}
use Rattle.log_checker.specs.Verdicts.{chain_from, verdict_of}
use Rattle.log_checker.proofs.Chains.{below_step, verdict_ends, same_yes, chain_comes}
use Rattle.log_lines.specs.Taking.{is_step}
use Rattle.log_lines.proofs.Narrow.{are_in, right}
use Rattle.report_text.proofs.WrittenRange.{UpTo, AreUpTo, with_up}

-- variables

without_up : (v : ℕ) (p : Lit) (ls : List Lit) → UpTo v ls → UpTo v (without p ls)
without_up v p [] h = tt
without_up v p (l ∷ ls) h = elim (same_lit l p) as (λ t. UpTo v (cond t (without p ls) (l ∷ without p ls))) [ true ↦ without_up v p ls h.1 | false ↦ (h.0, without_up v p ls h.1) ]

joined_up : (v : ℕ) (ls ms : List Lit) → UpTo v ls → UpTo v ms → UpTo v (joined ls ms)
joined_up v [] ms h k = k
joined_up v (l ∷ ls) ms h k = with_up v l (joined ls ms) h.0 (joined_up v ls ms h.1 k)

comes_up : (v : ℕ) (known : List (List Lit)) (running : List Lit) (links : List Link) (end : List Lit) → AreUpTo v known → UpTo v running → Comes known running links end → UpTo v end
comes_up v known running [] end h k c = subst (UpTo v) c k
comes_up v known running (l ∷ ls) end h k c =
    let other : UpTo v c.0 = each_at (UpTo v) known l.number c.0 h c.1 in
    comes_up v known (resolvent l.pivot running c.0) ls end h (joined_up v (without l.pivot running) (without (negated l.pivot) c.0) (without_up v l.pivot running k) (without_up v (negated l.pivot) c.0 other)) c.4

pub follows_up : (v : ℕ) (known : List (List Lit)) (s : Step) → AreUpTo v known → Follows known s → UpTo v s.clause
follows_up v known s h f = comes_up v known f.0 s.chain s.clause h (each_at (UpTo v) known s.first f.0 h f.1) f.2

are_within : (v : ℕ) (ls : List Lit) → UpTo v ls → are_in v ls ≡ true
are_within v [] h = refl
are_within v (l ∷ ls) h = and_both (nat_le l.var v) (are_in v ls) (let x : l.var ≤ v = h.0 in grind (arith, nat_tests)) (are_within v ls h.1)

-- order

comes_ascend : (known : List (List Lit)) (running : List Lit) (links : List Link) (end : List Lit) → AllByRecursion Ascends known → Ascends running → Comes known running links end → Ascends end
comes_ascend known running [] end h k c = subst Ascends c k
comes_ascend known running (l ∷ ls) end h k c = comes_ascend known (resolvent l.pivot running c.0) ls end h (Ascends-resolvent l.pivot running c.0 (each_at Ascends known l.number c.0 h c.1)) c.4

pub follows_ascend : (known : List (List Lit)) (s : Step) → AllByRecursion Ascends known → Follows known s → Ascends s.clause
follows_ascend known s h f = comes_ascend known f.0 s.chain s.clause h (each_at Ascends known s.first f.0 h f.1) f.2

-- the verdict

no_verdict : (known : List (List Lit)) (s : Step) → Follows known s → verdict_of known s ≡ None
no_verdict known s f =
    let c = chain_comes known 0 f.0 s.chain s.clause f.2 in
    let a : clause_at known s.first ≡ f.0 = clause_at-get known s.first f.0 f.1 in
    verdict_ends known s s.clause true (below_step (length known) s (record { start = slice_get_within known s.first f.0 f.1; links = c.0 }))
    (ap (λ (x : List Lit). chain_from known 0 x s.chain) a ∙ c.1) (same_yes s.clause s.clause refl)

-- the next step of a log
pub step_right : (vars : ℕ) (known : List (List Lit)) (n : ℕ) (s : Step) → n ≡ length known → HasLine n s → Follows known s → AllByRecursion Ascends known → AreUpTo vars known → is_step vars known (step_line n s) ≡ true
step_right vars known n s e h f up in_range =
    right vars known n s (grind (arith, nat_tests)) (step_small n s h) (ascends_rises s.clause (follows_ascend known s up f)) (are_within vars s.clause (follows_up vars known s in_range f)) (no_verdict known s f)
