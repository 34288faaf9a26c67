-- Steps and the wide literals that their lines spell.
use Rattle.std.proofs.Common.{◌≡◌, ℕ, ◌+◌, ◌*◌, ◌<◌, ◌≤◌, ◌==◌, Bool, true, false, not, cond, ◌&&◌, ◌||◌, List, [], ◌∷◌, ◌++◌, map, codes, decimal, Ok, Err, refl, ap, sym, subst, ◌∙◌, arith}
use Rattle.std.specs.Prelude.{nat_lt, nat_le}
use Rattle.std.specs.List.{flat_map, AllByRecursion}
use Rattle.std.proofs.lemmas.Bool.Decides.{nat_tests}
use Rattle.std.proofs.lemmas.List.Folds.{flat_map-map}
use Rattle.report_words.specs.declared.numbers.WideLit.{WideLit}
use Rattle.report_words.specs.Numbers.{HasNumeral, IsLiteral, literal_word}
use Rattle.report_words.specs.Words.{line_of, later_text}
use Rattle.clause_store.specs.declared.lit.Lit.{Lit}
use Rattle.clause_store.specs.Lits.{rank_of, Ascends}
use Rattle.clause_store.proofs.Lits.{IsBelow-trans}
use Rattle.clause_store.proofs.Truths.{and_left, and_right, and_both, not_both}
use Rattle.derivation_log.specs.declared.wide.WideLink.{WideLink}
use Rattle.derivation_log.specs.declared.step.Link.{Link}
use Rattle.derivation_log.specs.declared.step.Step.{Step}
use Rattle.derivation_log.specs.declared.step.StepKind.{StepKind}
use Rattle.derivation_log.specs.declared.reading.StepReadStop.TheVariants.{Form, TooBig, Unsorted, NoMemory}
use Rattle.derivation_log.specs.StepLines.{StepLine, IsLink, IsStep, IsStepLine, IsReading, HasLine, widen, widen_link, step_line, step_words, kind_word, link_words, is_big, any_big, any_big_pivot, has_big, number_limit, is_before, rises_after, rises}
use Rattle.derivation_log.specs.LineLaws.{ReadBackLaw}
use Rattle.derivation_log.proofs.StepLaws.{one, put_all}

-- order

before_rank : (v w : ℕ) (p q : Bool) → (nat_lt v w || ((v == w) && (p && not q))) ≡ true → 2 * v + cond p 0 1 < 2 * w + cond q 0 1
before_rank v w true true e = grind (arith, nat_tests)
before_rank v w true false e = grind (arith, nat_tests)
before_rank v w false true e = grind (arith, nat_tests)
before_rank v w false false e = grind (arith, nat_tests)

rank_before : (v w : ℕ) (p q : Bool) → 2 * v + cond p 0 1 < 2 * w + cond q 0 1 → (nat_lt v w || ((v == w) && (p && not q))) ≡ true
rank_before v w true true e = grind (arith, nat_tests)
rank_before v w true false e = grind (arith, nat_tests)
rank_before v w false true e = grind (arith, nat_tests)
rank_before v w false false e = grind (arith, nat_tests)

after_ascends : (a : Lit) (ls : List Lit) → rises_after (widen a) (map widen ls) ≡ true → Ascends (a ∷ ls)
after_ascends a [] e = (tt, tt)
after_ascends a (b ∷ ls) e =
    let h : rank_of a < rank_of b = before_rank a.var b.var a.positive b.positive (and_left (is_before (widen a) (widen b)) (rises_after (widen b) (map widen ls)) e) in
    let r = after_ascends b ls (and_right (is_before (widen a) (widen b)) (rises_after (widen b) (map widen ls)) e) in
    ((h, IsBelow-trans a b ls h r.0), r)

pub rises_ascends : (ls : List Lit) → rises (map widen ls) ≡ true → Ascends ls
rises_ascends [] e = tt
rises_ascends (a ∷ ls) e = after_ascends a ls e

after_rises : (a : Lit) (ls : List Lit) → Ascends (a ∷ ls) → rises_after (widen a) (map widen ls) ≡ true
after_rises a [] s = refl
after_rises a (b ∷ ls) s = and_both (is_before (widen a) (widen b)) (rises_after (widen b) (map widen ls)) (rank_before a.var b.var a.positive b.positive s.0.0) (after_rises b ls s.1)

pub ascends_rises : (ls : List Lit) → Ascends ls → rises (map widen ls) ≡ true
ascends_rises [] s = refl
ascends_rises (a ∷ ls) s = after_rises a ls s

-- reading

pub same_line : (w : StepLine) (c : List Lit) (links : List Link) → map widen c ≡ w.clause → map widen_link links ≡ w.chain → step_line w.number (record { kind = w.kind; clause = c; first = w.first; chain = links }) ≡ w
same_line w c links e f = simp (e, f)

pub reads : (line : List ℕ) (n : ℕ) (s : Step) (w : StepLine) → step_line n s ≡ w → IsStepLine line w → has_big w ≡ false → rises w.clause ≡ true → IsReading line (Ok (n, s))
reads line n s w e is small up = (
  subst (IsStepLine line) (sym e) is,
  ap has_big e ∙ small,
  ap (λ (x : StepLine). rises x.clause) e ∙ up,
)

-- writing

pub put_text : (n : ℕ) (s : Step) (t0 t1 t2 t3 t4 t5 t6 t7 t8 : List ℕ) (c : List Lit) (links : List Link) → c ≡ s.clause → links ≡ s.chain → t1 ≡ t0 ++ codes "step" → t2 ≡ t1 ++ 32 ∷ decimal n → t3 ≡ t2 ++ 32 ∷ kind_word s.kind
    → t4 ≡ t3 ++ flat_map (λ l. 32 ∷ literal_word (widen l)) c → t5 ≡ t4 ++ 32 ∷ decimal 0 → t6 ≡ t5 ++ 32 ∷ decimal s.first → t7 ≡ t6 ++ flat_map (λ l. later_text (link_words (widen_link l))) links
    → t8 ≡ t7 ++ codes "\n" → t8 ≡ t0 ++ line_of (step_words (step_line n s)) ++ codes "\n"
put_text n s t0 t1 t2 t3 t4 t5 t6 t7 t8 c links ec el e1 e2 e3 e4 e5 e6 e7 e8 =
    let lits_are : flat_map (λ l. 32 ∷ literal_word (widen l)) c ≡ flat_map (λ l. 32 ∷ literal_word l) (map widen s.clause) = ap (λ (x : List Lit). flat_map (λ l. 32 ∷ literal_word (widen l)) x) ec ∙ sym (flat_map-map (λ (l : WideLit). 32 ∷ literal_word l) widen s.clause) in
    let links_are : flat_map (λ l. later_text (link_words (widen_link l))) links ≡ flat_map (λ l. later_text (link_words l)) (map widen_link s.chain) = ap (λ (x : List Link). flat_map (λ l. later_text (link_words (widen_link l))) x) el ∙ sym (flat_map-map (λ (l : WideLink). later_text (link_words l)) widen_link s.chain) in
    put_all (step_line n s) t0 t1 t2 t3 t4 t5 t6 t7 t8 e1 e2 e3 (e4 ∙ ap (λ (x : List ℕ). t3 ++ x) lits_are) e5 e6 (e7 ∙ ap (λ (x : List ℕ). t6 ++ x) links_are) e8

-- reading back

narrow : WideLit → Lit
narrow l = record { var = l.var; positive = l.positive }

narrow_link : WideLink → Link
narrow_link l = record { pivot = narrow l.pivot; number = l.number }

narrow_all : (ls : List Lit) → map narrow (map widen ls) ≡ ls
unfolding narrow
narrow_all [] = refl
narrow_all (l ∷ ls) = ap (λ (x : List Lit). l ∷ x) (narrow_all ls)

narrow_links : (ls : List Link) → map narrow_link (map widen_link ls) ≡ ls
unfolding narrow narrow_link
narrow_links [] = refl
narrow_links (l ∷ ls) = ap (λ (x : List Link). l ∷ x) (narrow_links ls)

pair_is : (n m : ℕ) (k l : StepKind) (c d : List Lit) (f g : ℕ) (x y : List Link) → n ≡ m → k ≡ l → c ≡ d → f ≡ g → x ≡ y →
    let a : ℕ × Step = (n, record { kind = k; clause = c; first = f; chain = x }) in let b : ℕ × Step = (m, record { kind = l; clause = d; first = g; chain = y }) in a ≡ b
pair_is n m k l c d f g x y e1 e2 e3 e4 e5 = simp (e1, e2, e3, e4, e5)

line_once : (n m : ℕ) (s t : Step) → step_line n s ≡ step_line m t → let a : ℕ × Step = (n, s) in let b : ℕ × Step = (m, t) in a ≡ b
line_once n m s t e = pair_is n m s.kind t.kind s.clause t.clause s.first t.first s.chain t.chain (ap (λ (x : StepLine). x.number) e) (ap (λ (x : StepLine). x.kind) e)
    (sym (narrow_all s.clause) ∙ ap (λ (x : StepLine). map narrow x.clause) e ∙ narrow_all t.clause)
    (ap (λ (x : StepLine). x.first) e)
    (sym (narrow_links s.chain) ∙ ap (λ (x : StepLine). map narrow_link x.chain) e ∙ narrow_links t.chain)

lits_literal : (ls : List Lit) → AllByRecursion (λ l. (1 ≤ l.var) × (l.var < number_limit)) ls → AllByRecursion IsLiteral (map widen ls)
lits_literal [] h = tt
lits_literal (l ∷ ls) h = (record { low = h.0.0; high = omega (arith, h.0.1) }, lits_literal ls h.1)

links_link : (ls : List Link) → AllByRecursion (λ l. (1 ≤ l.pivot.var) × (l.pivot.var < number_limit)) ls → AllByRecursion (λ l. HasNumeral l.number) ls → AllByRecursion IsLink (map widen_link ls)
links_link [] p h = tt
links_link (l ∷ ls) p h = (record { pivot = record { low = p.0.0; high = omega (arith, p.0.1) }; number = h.0 }, links_link ls p.1 h.1)

pub line_is_step : (n : ℕ) (s : Step) → HasLine n s → IsStep (step_line n s)
line_is_step n s h = record { number = h.number; clause = lits_literal s.clause h.clause; first = h.first; chain = links_link s.chain h.pivots h.links }

has_line : (n : ℕ) (s : Step) → HasLine n s → IsStepLine (line_of (step_words (step_line n s))) (step_line n s)
has_line n s h = record { is_step = line_is_step n s h; spelled = refl }

or_false : (x y : Bool) → x ≡ false → y ≡ false → (x || y) ≡ false
or_false true y e f = absurd (cc)
or_false false y e f = f

small : (n : ℕ) → n < number_limit → nat_le number_limit n ≡ false
small n h = grind (arith, nat_tests)

lits_small : (ls : List Lit) → AllByRecursion (λ l. (1 ≤ l.var) × (l.var < number_limit)) ls → any_big (map widen ls) ≡ false
lits_small [] h = refl
lits_small (l ∷ ls) h = or_false (is_big (widen l)) (any_big (map widen ls)) (small l.var h.0.1) (lits_small ls h.1)

links_small : (ls : List Link) → AllByRecursion (λ l. (1 ≤ l.pivot.var) × (l.pivot.var < number_limit)) ls → any_big_pivot (map widen_link ls) ≡ false
links_small [] h = refl
links_small (l ∷ ls) h = or_false (is_big (widen l.pivot)) (any_big_pivot (map widen_link ls)) (small l.pivot.var h.0.1) (links_small ls h.1)

pub step_small : (n : ℕ) (s : Step) → HasLine n s → has_big (step_line n s) ≡ false
step_small n s h = or_false (any_big (map widen s.clause)) (any_big_pivot (map widen_link s.chain)) (lits_small s.clause h.clause) (links_small s.chain h.pivots)

pub back : ReadBackLaw
back n s (Ok read) h a m i = ap Ok (line_once read.0 n read.1 s (one (line_of (step_words (step_line n s))) (step_line read.0 read.1) (step_line n s) i.0 (has_line n s h)))
back n s (Err Form) h a m i = absurd (i (step_line n s) (has_line n s h))
back n s (Err TooBig) h a m i =
    let e = one (line_of (step_words (step_line n s))) i.0 (step_line n s) i.1 (has_line n s h) in
    absurd (not_both (has_big (step_line n s)) (sym (ap has_big e) ∙ i.2) (step_small n s h))
back n s (Err Unsorted) h a m i =
    let e = one (line_of (step_words (step_line n s))) i.0 (step_line n s) i.1 (has_line n s h) in
    absurd (not_both (rises (map widen s.clause)) (ascends_rises s.clause a) (sym (ap (λ (x : StepLine). rises x.clause) e) ∙ i.3))
back n s (Err NoMemory) h a m i = absurd (m refl)
