-- What the walk along a chain tells, and that each step has one answer.
use Rattle.std.proofs.Common.{◌≡◌, ◌≢◌, ℕ, ◌+◌, ◌<◌, Bool, true, false, ◌&&◌, cond, List, [], ◌∷◌, length, refl, ap, sym, ◌∙◌, arith, inl, inr, subst, zero, suc, Some, None, Ok, Err, Option, drop, get_or, drop-cons, add-one}
use Rattle.std.specs.Prelude.{slice_get, nat_lt, Result, IsErrAnd}
use Rattle.std.specs.List.{AllByRecursion}
use Rattle.std.proofs.lemmas.Bool.{cases_Bool}
use Rattle.std.proofs.lemmas.Bool.Decides.{nat_tests}
use Rattle.std.proofs.lemmas.Option.{slice_get_within}
use Rattle.clause_store.specs.declared.lit.Lit.{Lit}
use Rattle.clause_store.specs.Lits.{rank_of, negated, resolvent, has, same_lit}
use Rattle.clause_store.proofs.Lits.{rank_lit}
use Rattle.clause_store.proofs.Truths.{and_left, and_right, and_both, not_both}
use Rattle.derivation_log.specs.declared.step.Link.{Link}
use Rattle.derivation_log.specs.declared.step.Step.{Step}
use Rattle.derivation_log.specs.Logs.{Comes, Follows}
use Rattle.log_checker.specs.declared.checking.StepStop.{StepStop}
use Rattle.log_checker.specs.declared.checking.StepStop.TheVariants.{NoSuchClause, NoPivot, OtherClause, NoMemory}
use Rattle.log_checker.specs.Verdicts.{AreBelow, SticksAt, IsAnswer, Outcome, Ends, Sticks, chain_from, are_links_below, are_below, same_clause, verdict_of, IsEnd}
use Rattle.clause_store.specs.Clauses.{clause_at}
use Rattle.clause_store.proofs.Numbered.{clause_at-get, clause_at-within}

abbrev pub AllBelow : ℕ → List Link → Type 0
AllBelow n links = AllByRecursion (λ (link : Link). link.number < n) links

pub lt_true : (a b : ℕ) → nat_lt a b ≡ true → a < b
lt_true a b e = grind (arith, nat_tests)

pub true_lt : (a b : ℕ) → a < b → nat_lt a b ≡ true
true_lt a b h = grind (arith, nat_tests)

links_below : (n : ℕ) (links : List Link) → are_links_below n links ≡ true → AllBelow n links
links_below n [] e = tt
links_below n (l ∷ ls) e = (lt_true l.number n (and_left (nat_lt l.number n) (are_links_below n ls) e), links_below n ls (and_right (nat_lt l.number n) (are_links_below n ls) e))

below_links : (n : ℕ) (links : List Link) → AllBelow n links → are_links_below n links ≡ true
below_links n [] h = refl
below_links n (l ∷ ls) h = and_both (nat_lt l.number n) (are_links_below n ls) (true_lt l.number n h.0) (below_links n ls h.1)

pub step_below : (n : ℕ) (step : Step) → are_below n step ≡ true → AreBelow n step
step_below n step e = record {
  start = lt_true step.first n (and_left (nat_lt step.first n) (are_links_below n step.chain) e);
  links = links_below n step.chain (and_right (nat_lt step.first n) (are_links_below n step.chain) e);
}

pub below_step : (n : ℕ) (step : Step) → AreBelow n step → are_below n step ≡ true
below_step n step h = and_both (nat_lt step.first n) (are_links_below n step.chain) (true_lt step.first n h.start) (below_links n step.chain h.links)

pub not_below : (n : ℕ) (step : Step) → are_below n step ≡ false → AreBelow n step → ⊥
not_below n step e h = not_both (are_below n step) (below_step n step h) e

pub comes : (known : List (List Lit)) (place : ℕ) (running : List Lit) (links : List Link) (end : List Lit) → AllBelow (length known) links → chain_from known place running links ≡ Ends end → Comes known running links end
comes known place running [] end h e = cc
comes known place running (l ∷ ls) end h e =
    let other = clause_at known l.number in
    elim (cases_Bool (has l.pivot running && has (negated l.pivot) other)) [
      | inl t ↦ (other, clause_at-within known l.number h.0, and_left (has l.pivot running) (has (negated l.pivot) other) t, and_right (has l.pivot running) (has (negated l.pivot) other) t, comes known (place + 1) (resolvent l.pivot running other) ls end h.1 (rw t at e))
      | inr f ↦ (let g = rw f at e in absurd (cc))
    ]

pub record StuckFrom (known : List (List Lit)) (place : ℕ) (running : List Lit) (links : List Link) (k : ℕ) : Type 0 where
  pub after : ℕ
  pub number : k ≡ place + after
  pub sticks : SticksAt known running links after

pub stuck : (known : List (List Lit)) (place : ℕ) (running : List Lit) (links : List Link) (k : ℕ) → AllBelow (length known) links → chain_from known place running links ≡ Sticks k → StuckFrom known place running links k
stuck known place running [] k h e = absurd (cc)
stuck known place running (l ∷ ls) k h e =
    let other = clause_at known l.number in
    elim (cases_Bool (has l.pivot running && has (negated l.pivot) other)) [
      | inl t ↦ (let s = stuck known (place + 1) (resolvent l.pivot running other) ls k h.1 (rw t at e) in record {
        after = suc s.after;
        number = omega (arith, s.number);
        sticks = (other, clause_at-within known l.number h.0, and_left (has l.pivot running) (has (negated l.pivot) other) t, and_right (has l.pivot running) (has (negated l.pivot) other) t, s.sticks);
      })
      | inr f ↦ (let g = rw f at e in let same : k ≡ place = cc in record { after = 0; number = omega (arith, same); sticks = (other, clause_at-within known l.number h.0, f) })
    ]

same_refl : (ls : List Lit) → same_clause ls ls ≡ true
same_refl [] = refl
same_refl (l ∷ ls) = and_both (same_lit l l) (same_clause ls ls) (grind (arith, nat_tests)) (same_refl ls)

pub same_is : (ls ms : List Lit) → same_clause ls ms ≡ true → ls ≡ ms
same_is [] [] e = refl
same_is [] (m ∷ ms) e = absurd (cc)
same_is (l ∷ ls) [] e = absurd (cc)
same_is (l ∷ ls) (m ∷ ms) e =
    let r : rank_of l ≡ rank_of m = (let f = and_left (same_lit l m) (same_clause ls ms) e in grind (arith, nat_tests)) in
    let x : l ≡ m = rank_lit l m r in
    let y : ls ≡ ms = same_is ls ms (and_right (same_lit l m) (same_clause ls ms) e) in cc

pub same_not : (ls ms : List Lit) → ls ≢ ms → same_clause ls ms ≡ false
same_not ls ms n = elim (cases_Bool (same_clause ls ms)) [ inl t ↦ absurd (n (same_is ls ms t)) | inr f ↦ f ]

pub same_yes : (ls ms : List Lit) → ls ≡ ms → same_clause ls ms ≡ true
same_yes ls ms e = subst (λ (x : List Lit). same_clause ls x ≡ true) e (same_refl ls)

-- A turn of the walk.

here : (links : List Link) (i : ℕ) (d : Link) → i < length links → drop i links ≡ get_or links i d ∷ drop (i + 1) links
here links i d h = rw add-one (drop-cons links i d h)

pub walk_stop : (known : List (List Lit)) (place : ℕ) (running : List Lit) (links : List Link) (i : ℕ) (d : Link) (other : List Lit) (all : Outcome) → i < length links → slice_get known (get_or links i d).number ≡ Some other →
    has (get_or links i d).pivot running && has (negated (get_or links i d).pivot) other ≡ false → chain_from known place running (drop i links) ≡ all → all ≡ Sticks place
walk_stop known place running links i d other all h g f e =
    let link = get_or links i d in
    let a = clause_at-get known link.number other g in
    let f' : has link.pivot running && has (negated link.pivot) (clause_at known link.number) ≡ false = ap (λ (x : List Lit). has link.pivot running && has (negated link.pivot) x) a ∙ f in
    let one : chain_from known place running (link ∷ drop (i + 1) links) ≡ Sticks place = rw f' refl in
    sym e ∙ ap (chain_from known place running) (here links i d h) ∙ one

pub walk_on : (known : List (List Lit)) (place : ℕ) (running : List Lit) (links : List Link) (i : ℕ) (d : Link) (other : List Lit) (all : Outcome) → i < length links → slice_get known (get_or links i d).number ≡ Some other →
    has (get_or links i d).pivot running ≡ true → has (negated (get_or links i d).pivot) other ≡ true → chain_from known place running (drop i links) ≡ all → chain_from known (place + 1) (resolvent (get_or links i d).pivot running other) (drop (i + 1) links) ≡ all
walk_on known place running links i d other all h g p n e =
    let link = get_or links i d in
    let a = clause_at-get known link.number other g in
    let t : has link.pivot running && has (negated link.pivot) (clause_at known link.number) ≡ true = and_both (has link.pivot running) (has (negated link.pivot) (clause_at known link.number)) p (ap (has (negated link.pivot)) a ∙ n) in
    let one : chain_from known place running (link ∷ drop (i + 1) links) ≡ chain_from known (place + 1) (resolvent link.pivot running (clause_at known link.number)) (drop (i + 1) links) = rw t refl in
    ap (λ (x : List Lit). chain_from known (place + 1) (resolvent link.pivot running x) (drop (i + 1) links)) (sym a) ∙ sym one ∙ sym (ap (chain_from known place running) (here links i d h)) ∙ e

-- The answers of the checker.

pub answer_follows : (known : List (List Lit)) (step : Step) (end : List Lit) → are_below (length known) step ≡ true → chain_from known 0 (clause_at known step.first) step.chain ≡ Ends end → end ≡ step.clause → Follows known step
answer_follows known step end b e f =
    let h = step_below (length known) step b in
    (clause_at known step.first, clause_at-within known step.first h.start, comes known 0 (clause_at known step.first) step.chain step.clause h.links (e ∙ ap (λ (x : List Lit). Ends x) f))

pub answer_other : (known : List (List Lit)) (step : Step) (end : List Lit) → are_below (length known) step ≡ true → chain_from known 0 (clause_at known step.first) step.chain ≡ Ends end → end ≢ step.clause → IsAnswer known step (Err OtherClause)
answer_other known step end b e f =
    let h = step_below (length known) step b in
    (h, clause_at known step.first, clause_at-within known step.first h.start, end, comes known 0 (clause_at known step.first) step.chain end h.links e, f)

answer_stuck : (known : List (List Lit)) (step : Step) (k : ℕ) → are_below (length known) step ≡ true → chain_from known 0 (clause_at known step.first) step.chain ≡ Sticks k → IsAnswer known step (Err (NoPivot k))
answer_stuck known step k b e =
    let h = step_below (length known) step b in
    let s = stuck known 0 (clause_at known step.first) step.chain k h.links e in
    let same : s.after ≡ k = omega (arith, s.number) in
    (h, clause_at known step.first, clause_at-within known step.first h.start, subst (λ (j : ℕ). SticksAt known (clause_at known step.first) step.chain j) same s.sticks)

pub answer_stop : (known : List (List Lit)) (step : Step) (stop : StepStop) → are_below (length known) step ≡ true → IsEnd (chain_from known 0 (clause_at known step.first) step.chain) (Err stop) → IsAnswer known step (Err stop)
answer_stop known step stop b (inl m) = subst (λ (s : StepStop). IsAnswer known step (Err s)) (sym m) tt
answer_stop known step stop b (inr e) = subst (λ (s : StepStop). IsAnswer known step (Err s)) (sym e.1) (answer_stuck known step e.0 b e.2)

-- the same of a stop that is handed on
pub answer_err : (known : List (List Lit)) (step : Step) (r : Result (Unit {0}) StepStop) (stop : StepStop) (links : List Link) → links ≡ step.chain → are_below (length known) step ≡ true → IsEnd (chain_from known 0 (clause_at known step.first) links) (Err stop) → IsErrAnd r (λ e. e ≡ stop) → IsAnswer known step r
answer_err known step (Ok u) stop links f b h e = absurd e
answer_err known step (Err x) stop links f b h e =
    let g : IsEnd (chain_from known 0 (clause_at known step.first) step.chain) (Err stop) = subst (λ (ls : List Link). IsEnd (chain_from known 0 (clause_at known step.first) ls) (Err stop)) f h in
    subst (λ (s : StepStop). IsAnswer known step (Err s)) (sym e) (answer_stop known step stop b g)

pub verdict_ends : (known : List (List Lit)) (step : Step) (end : List Lit) (t : Bool) → are_below (length known) step ≡ true → chain_from known 0 (clause_at known step.first) step.chain ≡ Ends end → same_clause end step.clause ≡ t → verdict_of known step ≡ cond t None (Some OtherClause)
verdict_ends known step end t b e f = rw (b, e, f) refl

verdict_sticks : (known : List (List Lit)) (step : Step) (k : ℕ) → are_below (length known) step ≡ true → chain_from known 0 (clause_at known step.first) step.chain ≡ Sticks k → verdict_of known step ≡ Some (NoPivot k)
verdict_sticks known step k b e = rw (b, e) refl

pub verdict_below : (known : List (List Lit)) (step : Step) → are_below (length known) step ≡ false → verdict_of known step ≡ Some NoSuchClause
verdict_below known step b = rw b refl

-- Each step has one answer.

pub chain_comes : (known : List (List Lit)) (place : ℕ) (running : List Lit) (links : List Link) (end : List Lit) → Comes known running links end → AllBelow (length known) links × (chain_from known place running links ≡ Ends end)
chain_comes known place running [] end h = (tt, ap (λ (x : List Lit). Ends x) h)
chain_comes known place running (l ∷ ls) end h =
    let r = chain_comes known (place + 1) (resolvent l.pivot running h.0) ls end h.4 in
    let a : clause_at known l.number ≡ h.0 = clause_at-get known l.number h.0 h.1 in
    let t : has l.pivot running && has (negated l.pivot) (clause_at known l.number) ≡ true = and_both (has l.pivot running) (has (negated l.pivot) (clause_at known l.number)) h.2 (ap (has (negated l.pivot)) a ∙ h.3) in
    ((slice_get_within known l.number h.0 h.1, r.0), rw t (ap (λ (x : List Lit). chain_from known (place + 1) (resolvent l.pivot running x) ls) a ∙ r.1))

chain_sticks : (known : List (List Lit)) (place : ℕ) (running : List Lit) (links : List Link) (j : ℕ) → SticksAt known running links j → chain_from known place running links ≡ Sticks (place + j)
chain_sticks known place running [] j h = absurd h
chain_sticks known place running (l ∷ ls) zero h =
    let a : clause_at known l.number ≡ h.0 = clause_at-get known l.number h.0 h.1 in
    let f : has l.pivot running && has (negated l.pivot) (clause_at known l.number) ≡ false = ap (λ (x : List Lit). has l.pivot running && has (negated l.pivot) x) a ∙ h.2 in
    let e : place ≡ place + 0 = omega arith in rw f (ap (λ (k : ℕ). Sticks k) e)
chain_sticks known place running (l ∷ ls) (suc j) h =
    let r = chain_sticks known (place + 1) (resolvent l.pivot running h.0) ls j h.4 in
    let a : clause_at known l.number ≡ h.0 = clause_at-get known l.number h.0 h.1 in
    let t : has l.pivot running && has (negated l.pivot) (clause_at known l.number) ≡ true = and_both (has l.pivot running) (has (negated l.pivot) (clause_at known l.number)) h.2 (ap (has (negated l.pivot)) a ∙ h.3) in
    let e : place + 1 + j ≡ place + suc j = omega arith in
    rw t (ap (λ (x : List Lit). chain_from known (place + 1) (resolvent l.pivot running x) ls) a ∙ r ∙ ap (λ (k : ℕ). Sticks k) e)

-- what an answer shows of the verdict
abbrev shown : Result (Unit {0}) StepStop → Option StepStop
shown (Ok _) = None
shown (Err stop) = Some stop

walk_at : (known : List (List Lit)) (step : Step) (start : List Lit) → slice_get known step.first ≡ Some start → (place : ℕ) → chain_from known place start step.chain ≡ chain_from known place (clause_at known step.first) step.chain
walk_at known step start e place = ap (λ (x : List Lit). chain_from known place x step.chain) (sym (clause_at-get known step.first start e))

verdict_shows : (known : List (List Lit)) (step : Step) (r : Result (Unit {0}) StepStop) → r ≢ Err NoMemory → IsAnswer known step r → verdict_of known step ≡ shown r
verdict_shows known step (Ok u) n h =
    let c = chain_comes known 0 h.0 step.chain step.clause h.2 in
    verdict_ends known step step.clause true (below_step (length known) step (record { start = slice_get_within known step.first h.0 h.1; links = c.0 })) (sym (walk_at known step h.0 h.1 0) ∙ c.1) (same_yes step.clause step.clause refl)
verdict_shows known step (Err NoSuchClause) n h = elim (cases_Bool (are_below (length known) step)) [ inl t ↦ absurd (h (step_below (length known) step t)) | inr f ↦ verdict_below known step f ]
verdict_shows known step (Err (NoPivot k)) n h =
    let e : 0 + k ≡ k = omega arith in
    verdict_sticks known step k (below_step (length known) step h.0) (sym (walk_at known step h.1 h.2 0) ∙ chain_sticks known 0 h.1 step.chain k h.3 ∙ ap (λ (j : ℕ). Sticks j) e)
verdict_shows known step (Err OtherClause) n h =
    let c = chain_comes known 0 h.1 step.chain h.3 h.4 in
    verdict_ends known step h.3 false (below_step (length known) step h.0) (sym (walk_at known step h.1 h.2 0) ∙ c.1) (same_not h.3 step.clause h.5)
verdict_shows known step (Err NoMemory) n h = absurd (n refl)

shown_once : (r s : Result (Unit {0}) StepStop) → shown r ≡ shown s → r ≡ s
shown_once (Ok u) (Ok v) e = refl
shown_once (Ok u) (Err b) e = absurd (cc)
shown_once (Err a) (Ok v) e = absurd (cc)
shown_once (Err a) (Err b) e = cc

pub one_only : (known : List (List Lit)) (step : Step) (r s : Result (Unit {0}) StepStop) → r ≢ Err NoMemory → s ≢ Err NoMemory → IsAnswer known step r → IsAnswer known step s → r ≡ s
one_only known step r s m n h k = shown_once r s (sym (verdict_shows known step r m h) ∙ verdict_shows known step s n k)

pub and_false : (x y : Bool) → y ≡ false → x && y ≡ false
and_false true y e = e
and_false false y e = refl
