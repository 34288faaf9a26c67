-- The log of a report, the proofs of its claims, and its end.
use Rattle.std.proofs.Common.{◌≡◌, ℕ, ◌+◌, ◌<◌, ◌≤◌, ◌==◌, nat_lt, nat_le, Bool, true, false, not, ◌&&◌, List, [], ◌∷◌, ◌++◌, length, map, drop, Option, None, Some, ◌⊎◌, inl, inr, refl, ap, sym, subst, ◌∙◌, append_assoc, append-nil, length-append, arith}
use Rattle.std.specs.Prelude.{slice_get, is_none}
use Rattle.std.specs.List.{AllZip, AllByRecursion, list_all}
use Rattle.std.proofs.lemmas.Bool.Decides.{nat_tests}
use Rattle.std.proofs.lemmas.List.{map-append}
use Rattle.std.proofs.lemmas.Bool.{not-true}
use Rattle.clause_store.specs.declared.lit.Lit.{Lit}
use Rattle.clause_store.specs.Lits.{sorted_clause}
use Rattle.clause_store.specs.Clauses.{clause_at}
use Rattle.clause_store.specs.Refutes.{Refutes}
use Rattle.clause_store.proofs.Numbered.{clause_at-within}
use Rattle.clause_store.proofs.Truths.{and_left, and_right}
use Rattle.report_words.specs.declared.numbers.WideLit.{WideLit}
use Rattle.report_words.specs.Numbers.{HasNumeral, IsLiteral}
use Rattle.derivation_log.specs.declared.wide.WideLink.{WideLink}
use Rattle.derivation_log.specs.declared.step.Step.{Step}
use Rattle.derivation_log.specs.Logs.{Follows, IsSound}
use Rattle.derivation_log.specs.StepLines.{StepLine, IsStep, IsLink, HasLine, step_line, widen, widen_link, any_big, any_big_pivot, is_big, has_big, number_limit, rises}
use Rattle.log_checker.specs.Verdicts.{verdict_of}
use Rattle.log_checker.proofs.Chains.{lt_true}
use Rattle.log_lines.specs.Spending.{Noted, is_spent}
use Rattle.log_lines.specs.Taking.{narrow, narrow_link, narrow_step, is_step}
use Rattle.log_lines.proofs.Narrow.{follows_is, le_is}
use Rattle.merge_encoding.specs.MainDues.{MainDue}
use Rattle.merge_encoding.specs.Assumptions.{assumed}
use Rattle.report_lines.specs.declared.kinds.Due.{Due}
use Rattle.report_lines.specs.declared.kinds.Due.TheVariants as due
use Rattle.report_lines.specs.declared.kinds.Kind.{Kind}
use Rattle.report_lines.specs.declared.kinds.Kind.TheVariants as kind
use Rattle.report_lines.specs.ClaimsDue.{DueClaim}
use Rattle.report_lines.specs.Items.{Item, LogLine, ShownLine, EndLine}
use Rattle.report_lines.specs.Places.{Position, DueAt, IsProofLine, end_number, main_at}
use Rattle.report_lines.specs.Holding.{stored_main, known_at, refutes, is_end}
use Rattle.report_lines.specs.Following.{LeadsTo, after, noted}
use Rattle.report_lines.specs.Judged.{Run}
use Rattle.report_lines.specs.Parts.{step_items, shown_claims, HaveLines, noted_step}
use Rattle.report_lines.proofs.Elements.{eq_is}
use Rattle.report_text.proofs.PartsPlaces.{over_stops}
use Rattle.report_text.proofs.LoggingFacts.{all_refute}
use Rattle.formula_grammar.proofs.ReadBack.{first_false, second_false}

both_items : (x y : Item) (xs ys : List Item) → x ≡ y → xs ≡ ys → x ∷ xs ≡ y ∷ ys
both_items x y xs ys e f = cc

-- the main clauses as they are stored, and with them those of steps
abbrev pub stored : MainDue → List (List Lit)
stored main = map sorted_clause main.clauses

abbrev pub known : MainDue → List Noted → List (List Lit)
known main steps = stored main ++ map (λ (s : Noted). s.clause) steps

-- the number is that of a known clause of a step that refutes the assumptions
abbrev pub ShowsIn : ℕ → List (List Lit) → List Lit → ℕ → Type 0
ShowsIn from clauses assumptions number = (from ≤ number) × (clause : List Lit) × (slice_get clauses number ≡ Some clause) × Refutes clause assumptions

-- what is asked of the end
abbrev pub SpendsAll : Kind → ℕ → List (List Lit) → List Noted → Type 0
SpendsAll kind.Merged conflicts main steps = Unit {0}
SpendsAll kind.Inconsistent conflicts main steps = Unit {0}
SpendsAll kind.Spent conflicts main steps = is_spent conflicts main steps ≡ true

-- the proofs of these claims and the end, after these steps; `last` is the kind at the end
pub record Proved (last : Kind) (main : MainDue) (conflicts : ℕ) (k : Kind) (steps : List Noted) (claims : List DueClaim) (xs : List Item) : Type 0 where
  pub shown : List ℕ
  pub items : xs ≡ shown_claims claims shown ++ EndLine (end_number k) ∷ []
  pub shows : AllZip (λ claim number. ShowsIn (length (stored main)) (known main steps) (assumed main claim.says) number) claims shown
  pub numbers : AllByRecursion HasNumeral shown
  pub spends : SpendsAll k conflicts (stored main) steps
  pub ended : last ≡ k

abbrev pub ProvedAt : Position → Position → List Item → Type 0
ProvedAt q p xs = Proved q.kind (main_at p) p.conflicts p.kind p.steps p.claims xs

-- a proof

shows_by : (from : ℕ) (cs : List (List Lit)) (lits : List Lit) (n : ℕ) → ((nat_le from n && nat_lt n (length cs)) && refutes (clause_at cs n) lits) ≡ true → ShowsIn from cs lits n
shows_by from cs lits n e =
    let a = and_left (nat_le from n && nat_lt n (length cs)) (refutes (clause_at cs n) lits) e in (
      le_is from n (and_left (nat_le from n) (nat_lt n (length cs)) a),
      clause_at cs n,
      clause_at-within cs n (lt_true n (length cs) (and_right (nat_le from n) (nat_lt n (length cs)) a)),
      all_refute (clause_at cs n) lits (and_right (nat_le from n && nat_lt n (length cs)) (refutes (clause_at cs n) lits) e),
    )

spends_by : (k : Kind) (p : Position) → is_end k p ≡ true → SpendsAll k p.conflicts (stored_main p) p.steps
spends_by kind.Merged p e = tt
spends_by kind.Inconsistent p e = tt
spends_by kind.Spent p e = e

end_step : (p q m : Position) (x : Item) (xs : List Item) → p.claims ≡ [] → x ≡ EndLine (end_number p.kind) → LeadsTo p x m → Run m xs q → ProvedAt q p (x ∷ xs)
end_step p q m x xs e d l r =
    let l2 : LeadsTo p (EndLine (end_number p.kind)) m = subst (λ (y : Item). LeadsTo p y m) d l in
    let over : m.due ≡ due.Over = ap (λ (n : Position). n.due) l2.1 in
    let none : xs ≡ [] = over_stops m q xs over r in
    let stays : m ≡ q = subst (λ (ys : List Item). Run m ys q) none r in
    let whole : x ∷ xs ≡ EndLine (end_number p.kind) ∷ [] = both_items x (EndLine (end_number p.kind)) xs [] d none in
    subst (λ (cs : List DueClaim). Proved q.kind (main_at p) p.conflicts p.kind p.steps cs (x ∷ xs)) (sym e)
    (record { shown = []; items = whole; shows = tt; numbers = tt; spends = spends_by p.kind p l2.0; ended = sym (ap (λ (n : Position). n.kind) stays) ∙ ap (λ (n : Position). n.kind) l2.1 })

shown_step : (c : DueClaim) (cs : List DueClaim) (p q m : Position) (x : Item) (xs : List Item) → p.claims ≡ c ∷ cs → (d : IsProofLine (c ∷ cs) p.kind x) → LeadsTo p x m
    → ProvedAt q m xs → ProvedAt q p (x ∷ xs)
shown_step c cs p q m x xs e d l again =
    let l2 : LeadsTo p (ShownLine c d.0) m = subst (λ (y : Item). LeadsTo p y m) d.1 l in
    let left : drop 1 p.claims ≡ cs = ap (λ (k : List DueClaim). drop 1 k) e in
    let a : ProvedAt q (after p (ShownLine c d.0)) xs = subst (λ (n : Position). ProvedAt q n xs) l2.1 again in
    let b : Proved q.kind (main_at p) p.conflicts p.kind p.steps cs xs = subst (λ (k : List DueClaim). Proved q.kind (main_at p) p.conflicts p.kind p.steps k xs) left a in
    subst (λ (k : List DueClaim). Proved q.kind (main_at p) p.conflicts p.kind p.steps k (x ∷ xs)) (sym e)
    (record {
      shown = d.0 ∷ b.shown;
      items = both_items x (ShownLine c d.0) xs (shown_claims cs b.shown ++ EndLine (end_number p.kind) ∷ []) d.1 b.items;
      shows = (shows_by (length (stored_main p)) (known_at p) (assumed (main_at p) c.says) d.0 l2.0, b.shows);
      numbers = (d.2, b.numbers);
      spends = b.spends;
      ended = b.ended;
    })

proof_due : (cs : List DueClaim) (p q m : Position) (x : Item) (xs : List Item) → p.claims ≡ cs → IsProofLine cs p.kind x → LeadsTo p x m → Run m xs q
    → (m.due ≡ due.Proofs → ProvedAt q m xs) → ProvedAt q p (x ∷ xs)
proof_due [] p q m x xs e d l r again = end_step p q m x xs e d l r
proof_due (c ∷ cs) p q m x xs e d l r again =
    let l2 : LeadsTo p (ShownLine c d.0) m = subst (λ (y : Item). LeadsTo p y m) d.1 l in
    shown_step c cs p q m x xs e d l (again (ap (λ (n : Position). n.due) l2.1))

pub proofs_rest : (xs : List Item) (p q : Position) → Run p xs q → p.due ≡ due.Proofs → q.due ≡ due.Over → ProvedAt q p xs
proofs_rest [] p q r e over = let h : due.Proofs ≡ due.Over = sym e ∙ (ap (λ (m : Position). m.due) r ∙ over) in absurd (cc)
proofs_rest (x ∷ xs) p q r e over =
    let d : IsProofLine p.claims p.kind x = subst (λ (k : Due). DueAt k p x) e r.1 in
    proof_due p.claims p q r.0 x xs refl d r.2 r.3 (λ f. proofs_rest xs r.0 q r.3 f over)

-- a step

none_is : {A : Type 0} (o : Option A) → is_none o ≡ true → o ≡ None
none_is None e = refl
none_is (Some x) e = absurd (cc)

small : (n : ℕ) → nat_le number_limit n ≡ false → n < number_limit
small n e = grind (arith, nat_tests)

abbrev IsVariable : ℕ → Type 0
IsVariable v = (1 ≤ v) × (v < number_limit)

lits_line : (ls : List WideLit) → AllByRecursion IsLiteral ls → any_big ls ≡ false → AllByRecursion (λ l. IsVariable l.var) (map narrow ls)
lits_line [] h e = tt
lits_line (l ∷ ls) h e =
    let here : IsLiteral l = h.0 in
    ((here.low, small l.var (first_false (is_big l) (any_big ls) e)), lits_line ls h.1 (second_false (is_big l) (any_big ls) e))

pivots_line : (ls : List WideLink) → AllByRecursion IsLink ls → any_big_pivot ls ≡ false → AllByRecursion (λ link. IsVariable link.pivot.var) (map narrow_link ls)
pivots_line [] h e = tt
pivots_line (l ∷ ls) h e =
    let here : IsLink l = h.0 in
    let pivot : IsLiteral l.pivot = here.pivot in
    ((pivot.low, small l.pivot.var (first_false (is_big l.pivot) (any_big_pivot ls) e)), pivots_line ls h.1 (second_false (is_big l.pivot) (any_big_pivot ls) e))

links_line : (ls : List WideLink) → AllByRecursion IsLink ls → AllByRecursion (λ link. HasNumeral link.number) (map narrow_link ls)
links_line [] h = tt
links_line (l ∷ ls) h =
    let here : IsLink l = h.0 in
    (here.number, links_line ls h.1)

has_line : (n : ℕ) (s : StepLine) → s.number ≡ n → IsStep s → has_big s ≡ false → HasLine n (narrow_step s)
has_line n s same h e = record {
  number = subst HasNumeral same h.number;
  clause = lits_line s.clause h.clause (first_false (any_big s.clause) (any_big_pivot s.chain) e);
  first = h.first;
  pivots = pivots_line s.chain h.chain (second_false (any_big s.clause) (any_big_pivot s.chain) e);
  links = links_line s.chain h.chain;
}

widen_lits : (ls : List WideLit) → ls ≡ map widen (map narrow ls)
widen_lits [] = refl
widen_lits (l ∷ ls) = ap (λ (x : List WideLit). l ∷ x) (widen_lits ls)

widen_links : (ls : List WideLink) → ls ≡ map widen_link (map narrow_link ls)
widen_links [] = refl
widen_links (l ∷ ls) = ap (λ (x : List WideLink). l ∷ x) (widen_links ls)

line_is : (n : ℕ) (s : StepLine) → s.number ≡ n → s ≡ step_line n (narrow_step s)
line_is n s same =
    ap (λ (k : ℕ). record s { number = k }) same
    ∙ (ap (λ (ls : List WideLit). record s { number = n; clause = ls }) (widen_lits s.clause)
    ∙ ap (λ (ls : List WideLink). record s { number = n; clause = map widen (map narrow s.clause); chain = ls }) (widen_links s.chain))

known_more : (main : MainDue) (before : List Noted) (n : Noted) → known main (before ++ n ∷ []) ≡ known main before ++ n.clause ∷ []
known_more main before n =
    ap (λ (cs : List (List Lit)). stored main ++ cs) (map-append (λ (s : Noted). s.clause) before (n ∷ []))
    ∙ sym (append_assoc (stored main) (map (λ (s : Noted). s.clause) before) (n.clause ∷ []))

-- steps that follow these, then the proofs of these claims and the end
pub record Logged (last : Kind) (main : MainDue) (conflicts : ℕ) (k : Kind) (before : List Noted) (claims : List DueClaim) (xs : List Item) : Type 0 where
  pub steps : List Step
  pub tail : List Item
  pub items : xs ≡ step_items (length (known main before)) steps ++ tail
  pub sound : IsSound (known main before) steps
  pub lines : HaveLines (length (known main before)) steps
  pub proved : Proved last main conflicts k (before ++ map noted_step steps) claims tail

abbrev pub LoggedAt : Position → Position → List Item → Type 0
LoggedAt q p xs = Logged q.kind (main_at p) p.conflicts p.kind p.steps p.claims xs

one_more : (last : Kind) (main : MainDue) (conflicts : ℕ) (k : Kind) (before : List Noted) (claims : List DueClaim) (s : StepLine) (xs : List Item) → IsStep s → is_step main.vars (known main before) s ≡ true
    → Logged last main conflicts k (before ++ noted s ∷ []) claims xs → Logged last main conflicts k before claims (LogLine s ∷ xs)
one_more last main conflicts k before claims s xs h e l =
    let cs : List (List Lit) = known main before in
    let n : ℕ = length cs in
    let step : Step = narrow_step s in
    let within : Bool = list_all (λ (lit : Lit). nat_le lit.var main.vars) step.clause in
    let right : Bool = is_none (verdict_of cs step) in
    let same : s.number ≡ n = eq_is s.number n (and_left (s.number == n) (not (has_big s) && (rises s.clause && (within && right))) e) in
    let e1 : (not (has_big s) && (rises s.clause && (within && right))) ≡ true = and_right (s.number == n) (not (has_big s) && (rises s.clause && (within && right))) e in
    let e2 : (rises s.clause && (within && right)) ≡ true = and_right (not (has_big s)) (rises s.clause && (within && right)) e1 in
    let e3 : (within && right) ≡ true = and_right (rises s.clause) (within && right) e2 in
    let small_enough : has_big s ≡ false = not-true (has_big s) (and_left (not (has_big s)) (rises s.clause && (within && right)) e1) in
    let follows : Follows cs step = follows_is cs step (none_is (verdict_of cs step) (and_right within right e3)) in
    let grow : known main (before ++ noted s ∷ []) ≡ cs ++ step.clause ∷ [] = known_more main before (noted s) in
    let size : length (known main (before ++ noted s ∷ [])) ≡ n + 1 = ap length grow ∙ length-append cs (step.clause ∷ []) in
    record {
      steps = step ∷ l.steps;
      tail = l.tail;
      items = both_items (LogLine s) (LogLine (step_line n step)) xs (step_items (n + 1) l.steps ++ l.tail) (ap LogLine (line_is n s same)) (l.items ∙ ap (λ (i : ℕ). step_items i l.steps ++ l.tail) size);
      sound = (follows, subst (λ (ds : List (List Lit)). IsSound ds l.steps) grow l.sound);
      lines = (has_line n s same h small_enough, subst (λ (i : ℕ). HaveLines i l.steps) size l.lines);
      proved = subst (λ (ns : List Noted). Proved last main conflicts k ns claims l.tail) (append_assoc before (noted s ∷ []) (map noted_step l.steps)) l.proved;
    }

no_more : (last : Kind) (main : MainDue) (conflicts : ℕ) (k : Kind) (before : List Noted) (claims : List DueClaim) (xs : List Item) → Proved last main conflicts k before claims xs → Logged last main conflicts k before claims xs
no_more last main conflicts k before claims xs h = record {
  steps = [];
  tail = xs;
  items = refl;
  sound = tt;
  lines = tt;
  proved = subst (λ (ns : List Noted). Proved last main conflicts k ns claims xs) (sym (append-nil before)) h;
}

log_due : (p q m : Position) (x : Item) (xs : List Item) → p.due ≡ due.Log → ((s : StepLine) × (x ≡ LogLine s) × IsStep s) ⊎ IsProofLine p.claims p.kind x → LeadsTo p x m → Run m xs q → q.due ≡ due.Over
    → (m.due ≡ due.Log → LoggedAt q m xs) → LoggedAt q p (x ∷ xs)
log_due p q m x xs e (inl d) l r over again =
    let l2 : LeadsTo p (LogLine d.0) m = subst (λ (y : Item). LeadsTo p y m) d.1 l in
    let a : LoggedAt q (after p (LogLine d.0)) xs = subst (λ (n : Position). LoggedAt q n xs) l2.1 (again (ap (λ (n : Position). n.due) l2.1 ∙ e)) in
    subst (λ (y : Item). LoggedAt q p (y ∷ xs)) (sym d.1) (one_more q.kind (main_at p) p.conflicts p.kind p.steps p.claims d.0 xs d.2 l2.0 a)
log_due p q m x xs e (inr d) l r over again =
    no_more q.kind (main_at p) p.conflicts p.kind p.steps p.claims (x ∷ xs) (proof_due p.claims p q m x xs refl d l r (λ f. proofs_rest xs m q r f over))

pub log_rest : (xs : List Item) (p q : Position) → Run p xs q → p.due ≡ due.Log → q.due ≡ due.Over → LoggedAt q p xs
log_rest [] p q r e over = let h : due.Log ≡ due.Over = sym e ∙ (ap (λ (m : Position). m.due) r ∙ over) in absurd (cc)
log_rest (x ∷ xs) p q r e over = log_due p q r.0 x xs e (subst (λ (k : Due). DueAt k p x) e r.1) r.2 r.3 over (λ f. log_rest xs r.0 q r.3 f over)
