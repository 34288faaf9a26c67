-- Steps and what their lines say.
use Rattle.std.proofs.Common.{◌≡◌, ℕ, ◌≤◌, ◌==◌, Bool, true, false, cond, not, ◌&&◌, List, [], ◌∷◌, ◌++◌, length, map, refl, ap, ◌∙◌, arith, None, Some}
use Rattle.std.specs.Prelude.{nat_le, is_none}
use Rattle.std.specs.List.{list_all, AllByRecursion}
use Rattle.report_words.specs.Numbers.{IsLiteral}
use Rattle.std.proofs.lemmas.Bool.Decides.{nat_tests}
use Rattle.clause_store.specs.declared.lit.Lit.{Lit}
use Rattle.clause_store.specs.Lits.{InRange}
use Rattle.clause_store.proofs.Truths.{and_left, and_right}
use Rattle.clause_store.specs.Clauses.{Clauses}
use Rattle.derivation_log.specs.declared.step.Link.{Link}
use Rattle.derivation_log.specs.declared.step.Step.{Step}
use Rattle.derivation_log.specs.StepLines.{step_line, widen, widen_link, has_big, rises}
use Rattle.log_checker.specs.Verdicts.{verdict_of}
use Rattle.log_checker.specs.declared.checking.StepStop.{StepStop}
use Rattle.log_checker.specs.declared.checking.StepStop.TheVariants.{NoSuchClause, OtherClause}
use Rattle.log_checker.specs.Verdicts.{Outcome, Ends, Sticks, chain_from, are_below, end_verdict, same_clause}
use Rattle.log_checker.proofs.Chains.{answer_follows, same_is}
use Rattle.clause_store.specs.Clauses.{clause_at}
use Rattle.derivation_log.specs.Logs.{Follows}
use Rattle.log_lines.specs.Taking.{narrow, narrow_link, narrow_step, is_step, after_step}
use Rattle.log_lines.proofs.News.{and_not}

narrow_lits : (ls : List Lit) → map narrow (map widen ls) ≡ ls
narrow_lits [] = refl
narrow_lits (l ∷ ls) = ap (λ (x : List Lit). l ∷ x) (narrow_lits ls)

narrow_links : (ls : List Link) → map narrow_link (map widen_link ls) ≡ ls
narrow_links [] = refl
narrow_links (l ∷ ls) = ap (λ (x : List Link). l ∷ x) (narrow_links ls)

pub narrow_is : (n : ℕ) (s : Step) → narrow_step (step_line n s) ≡ s
narrow_is n s = simp (narrow_lits s.clause, narrow_links s.chain)

-- within these variables
abbrev pub are_in : ℕ → List Lit → Bool
are_in v ls = list_all (λ (l : Lit). nat_le l.var v) ls

pub step_is : (vars : ℕ) (known : List (List Lit)) (n : ℕ) (s : Step) →
    is_step vars known (step_line n s) ≡ ((n == length known) && (not (has_big (step_line n s)) && (rises (map widen s.clause) && (are_in vars s.clause && is_none (verdict_of known s)))))
step_is vars known n s =
    ap (λ (t : Step). (n == length known) && (not (has_big (step_line n s)) && (rises (map widen s.clause) && (are_in vars t.clause && is_none (verdict_of known t))))) (narrow_is n s)

last_false : (a b c d : Bool) → d ≡ false → (a && (b && (c && d))) ≡ false
last_false true true true d h = h
last_false true true false d h = refl
last_false true false c d h = refl
last_false false b c d h = refl

and_last : (a b : Bool) → b ≡ false → (a && b) ≡ false
and_last true b e = e
and_last false b e = refl

module _ (vars : ℕ) (known : List (List Lit)) (n : ℕ) (s : Step) where
  pub out_of_range : are_in vars s.clause ≡ false → is_step vars known (step_line n s) ≡ false
  out_of_range e =
      step_is vars known n s
      ∙ last_false (n == length known) (not (has_big (step_line n s))) (rises (map widen s.clause)) (are_in vars s.clause && is_none (verdict_of known s))
      (and_not (are_in vars s.clause) (is_none (verdict_of known s)) e)

  pub stopped_by : (stop : StepStop) → verdict_of known s ≡ Some stop → is_step vars known (step_line n s) ≡ false
  stopped_by stop e =
      step_is vars known n s
      ∙ last_false (n == length known) (not (has_big (step_line n s))) (rises (map widen s.clause)) (are_in vars s.clause && is_none (verdict_of known s))
      (and_last (are_in vars s.clause) (is_none (verdict_of known s)) (ap is_none e))

  pub right : (n == length known) ≡ true → has_big (step_line n s) ≡ false → rises (map widen s.clause) ≡ true → are_in vars s.clause ≡ true → verdict_of known s ≡ None →
      is_step vars known (step_line n s) ≡ true
  right a b c d e = step_is vars known n s ∙ rw (a, b, c, d, e) refl

pub le_is : (a b : ℕ) → nat_le a b ≡ true → a ≤ b
le_is a b e = grind (arith, nat_tests)

pub within_range : (v : ℕ) (ls : List Lit) → AllByRecursion IsLiteral (map widen ls) → are_in v ls ≡ true → InRange v ls
within_range v [] h e = tt
within_range v (l ∷ ls) h e =
    let here : IsLiteral (widen l) = h.0 in
    let lo : 1 ≤ l.var = here.low in
    ((lo, le_is l.var v (and_left (nat_le l.var v) (are_in v ls) e)), within_range v ls h.1 (and_right (nat_le l.var v) (are_in v ls) e))

pub after_is : (known : Clauses) (n : ℕ) (s : Step) → after_step known (step_line n s) ≡ record known { list = known.list ++ s.clause ∷ [] }
after_is known n s = ap (λ (t : Step). record known { list = known.list ++ t.clause ∷ [] }) (narrow_is n s)

same_by : (a b : List Lit) (t : Bool) → same_clause a b ≡ t → cond t None (Some OtherClause) ≡ None → a ≡ b
same_by a b true e h = same_is a b e
same_by a b false e h = absurd (cc)

-- a step without a verdict against it follows
by_end : (known : List (List Lit)) (s : Step) (o : Outcome) → chain_from known 0 (clause_at known s.first) s.chain ≡ o → are_below (length known) s ≡ true → end_verdict o s.clause ≡ None → Follows known s
by_end known s (Ends end) e below h = answer_follows known s end below e (same_by end s.clause (same_clause end s.clause) refl h)
by_end known s (Sticks place) e below h = absurd (cc)

by_below : (known : List (List Lit)) (s : Step) (b : Bool) → are_below (length known) s ≡ b →
    cond b (end_verdict (chain_from known 0 (clause_at known s.first) s.chain) s.clause) (Some NoSuchClause) ≡ None → Follows known s
by_below known s true e h = by_end known s (chain_from known 0 (clause_at known s.first) s.chain) refl e h
by_below known s false e h = absurd (cc)

pub follows_is : (known : List (List Lit)) (s : Step) → verdict_of known s ≡ None → Follows known s
follows_is known s h = by_below known s (are_below (length known) s) refl h
