-- A line spells at most one step, which reading gives.
use Rattle.std.proofs.Common.{◌≡◌, ℕ, false, List, [], ◌∷◌, ◌++◌, map, codes, decimal, None, Some, refl, ap, sym, subst, ◌∙◌, append_assoc, arith}
use Rattle.std.specs.List.{flat_map, AllByRecursion}
use Rattle.std.specs.Prelude.{eqb}
use Rattle.std.proofs.lemmas.List.Elements.{All-from_recursion}
use Rattle.std.proofs.lemmas.List.Concat.{flat_map-cons}
use Rattle.std.proofs.lemmas.List.Folds.{flat_map-map}
use Rattle.std.proofs.lemmas.Grind.{flat_map-append}
use Rattle.std.proofs.lemmas.Fmt.{decimal_digit}
use Rattle.report_words.specs.declared.numbers.WideLit.{WideLit}
use Rattle.report_words.specs.Numbers.{literal_word, IsLiteral}
use Rattle.report_words.specs.Words.{words_of, line_of, later_text}
use Rattle.report_words.proofs.FirstWords.{HasNoBlank}
use Rattle.report_words.proofs.Spelling.{decimal_plain, literal_plain, words_at, line_at}
use Rattle.derivation_log.specs.declared.wide.WideLink.{WideLink}
use Rattle.derivation_log.specs.declared.step.StepKind.{StepKind}
use Rattle.derivation_log.specs.declared.step.StepKind.TheVariants.{Learned, Claimed}
use Rattle.derivation_log.specs.StepLines.{StepLine, IsStep, IsLink, IsStepLine, step_words, kind_word, link_words}
use Rattle.derivation_log.specs.StepReading.{◌>>=◌, number_then, word_then, kind_then, lits_then, links_at, step_at}
use Rattle.derivation_log.proofs.Readers.{bind_some, some_is, number_then_found, number_then_again, word_then_found, word_then_again, kind_then_found, kind_then_again, lits_then_found, lits_then_again, links_found, links_again}

all_words : (ws a b k l f : List (List ℕ)) (number : ℕ) (kind : StepKind) (clause : List WideLit) (first : ℕ) (chain : List WideLink) → ws ≡ codes "step" ∷ a → a ≡ decimal number ∷ b → b ≡ kind_word kind ∷ k
    → k ≡ map literal_word clause ++ codes "0" ∷ l → l ≡ decimal first ∷ f → f ≡ flat_map link_words chain
    → ws ≡ codes "step" ∷ decimal number ∷ kind_word kind ∷ (map literal_word clause ++ codes "0" ∷ decimal first ∷ flat_map link_words chain)
all_words ws a b k l f number kind clause first chain e0 e1 e2 e3 e4 e5 = cc

pub step_found : (ws : List (List ℕ)) (s : StepLine) → step_at ws ≡ Some s → (ws ≡ step_words s) × IsStep s
unfolding step_at
step_found ws s e =
    let a = bind_some (word_then (codes "step") ws) (λ later. number_then later >>= λ number. kind_then number.1 >>= λ kind. lits_then kind.1 >>= λ lits. number_then lits.1 >>= λ first. links_at first.1 >>= λ chain. Some (record { number = number.0; kind = kind.0; clause = lits.0; first = first.0; chain = chain })) s e in
    let b = bind_some (number_then a.0) (λ number. kind_then number.1 >>= λ kind. lits_then kind.1 >>= λ lits. number_then lits.1 >>= λ first. links_at first.1 >>= λ chain. Some (record { number = number.0; kind = kind.0; clause = lits.0; first = first.0; chain = chain })) s a.2 in
    let k = bind_some (kind_then b.0.1) (λ kind. lits_then kind.1 >>= λ lits. number_then lits.1 >>= λ first. links_at first.1 >>= λ chain. Some (record { number = b.0.0; kind = kind.0; clause = lits.0; first = first.0; chain = chain })) s b.2 in
    let l = bind_some (lits_then k.0.1) (λ lits. number_then lits.1 >>= λ first. links_at first.1 >>= λ chain. Some (record { number = b.0.0; kind = k.0.0; clause = lits.0; first = first.0; chain = chain })) s k.2 in
    let f = bind_some (number_then l.0.1) (λ first. links_at first.1 >>= λ chain. Some (record { number = b.0.0; kind = k.0.0; clause = l.0.0; first = first.0; chain = chain })) s l.2 in
    let g = bind_some (links_at f.0.1) (λ chain. Some (record { number = b.0.0; kind = k.0.0; clause = l.0.0; first = f.0.0; chain = chain })) s f.2 in
    let a1 = word_then_found (codes "step") ws a.0 a.1 in
    let b1 = number_then_found a.0 b.0.0 b.0.1 b.1 in
    let k1 = kind_then_found b.0.1 k.0 k.1 in
    let l1 = lits_then_found k.0.1 l.0 l.1 in
    let f1 = number_then_found l.0.1 f.0.0 f.0.1 f.1 in
    let g1 = links_found f.0.1 g.0 g.1 in
    let made : StepLine = record { number = b.0.0; kind = k.0.0; clause = l.0.0; first = f.0.0; chain = g.0 } in
    subst (λ (x : StepLine). (ws ≡ step_words x) × IsStep x) (some_is made s g.2)
    (all_words ws a.0 b.0.1 k.0.1 l.0.1 f.0.1 b.0.0 k.0.0 l.0.0 f.0.0 g.0 a1 b1.0 k1 l1.0 f1.0 g1.0, record { number = b1.1; clause = l1.1; first = f1.1; chain = g1.1 })

pub step_again : (s : StepLine) → IsStep s → step_at (step_words s) ≡ Some s
unfolding step_at
step_again s h = rw (word_then_again, number_then_again s.number _ h.number, kind_then_again, lits_then_again s.clause _ h.clause, number_then_again s.first _ h.first, links_again s.chain h.chain) refl

kind_plain : (k : StepKind) → HasNoBlank (kind_word k)
kind_plain Learned = All-from_recursion (λ b. eqb b 32 ≡ false) (codes "learned") (refl, (refl, (refl, (refl, (refl, (refl, (refl, tt)))))))
kind_plain Claimed = All-from_recursion (λ b. eqb b 32 ≡ false) (codes "claimed") (refl, (refl, (refl, (refl, (refl, (refl, (refl, tt)))))))

both_plain : (xs ys : List (List ℕ)) → AllByRecursion HasNoBlank xs → AllByRecursion HasNoBlank ys → AllByRecursion HasNoBlank (xs ++ ys)
both_plain [] ys h k = k
both_plain (x ∷ xs) ys h k = (h.0, both_plain xs ys h.1 k)

lits_plain : (ls : List WideLit) → AllByRecursion IsLiteral ls → AllByRecursion HasNoBlank (map literal_word ls)
lits_plain [] h = tt
lits_plain (l ∷ ls) h = (literal_plain l h.0, lits_plain ls h.1)

links_plain : (ls : List WideLink) → AllByRecursion IsLink ls → AllByRecursion HasNoBlank (flat_map link_words ls)
links_plain [] h = tt
links_plain (l ∷ ls) h = subst (AllByRecursion HasNoBlank) (sym (flat_map-cons link_words l ls)) (literal_plain l.pivot h.0.pivot, (decimal_plain l.number h.0.number, links_plain ls h.1))

-- the words of a step line have no blank
pub step_at_line : (line : List ℕ) (s : StepLine) → IsStepLine line s → words_of line ≡ step_words s
step_at_line line s h =
    let zero_plain : HasNoBlank (codes "0") = All-from_recursion (λ b. eqb b 32 ≡ false) (codes "0") (refl, tt) in
    let step_plain : HasNoBlank (codes "step") = All-from_recursion (λ b. eqb b 32 ≡ false) (codes "step") (refl, (refl, (refl, (refl, tt)))) in
    let w : IsStep s = h.is_step in
    words_at line (codes "step") (decimal s.number ∷ kind_word s.kind ∷ (map literal_word s.clause ++ codes "0" ∷ decimal s.first ∷ flat_map link_words s.chain)) step_plain
    (decimal_plain s.number w.number, (kind_plain s.kind, both_plain (map literal_word s.clause) (codes "0" ∷ decimal s.first ∷ flat_map link_words s.chain) (lits_plain s.clause w.clause) (zero_plain, (decimal_plain s.first w.first, links_plain s.chain w.chain))))
    h.spelled

pub read_again : (line : List ℕ) (s : StepLine) → IsStepLine line s → step_at (words_of line) ≡ Some s
read_again line s h = ap step_at (step_at_line line s h) ∙ step_again s h.is_step

pub is_step_line : (line : List ℕ) (s : StepLine) → step_at (words_of line) ≡ Some s → IsStepLine line s
is_step_line line s e = let f = step_found (words_of line) s e in record { is_step = f.1; spelled = line_at line (step_words s) f.0 }

pub one : (line : List ℕ) (s t : StepLine) → IsStepLine line s → IsStepLine line t → s ≡ t
one line s t h k = some_is s t (sym (read_again line s h) ∙ read_again line t k)

pub no_step : (line : List ℕ) → step_at (words_of line) ≡ None → (s : StepLine) → IsStepLine line s → ⊥
no_step line e s h = let f : None ≡ Some s = sym e ∙ read_again line s h in cc

-- the text of a step line, part by part

later_cons : (w : List ℕ) (ws : List (List ℕ)) → later_text (w ∷ ws) ≡ 32 ∷ w ++ later_text ws
later_cons w ws = flat_map-cons (λ (x : List ℕ). 32 ∷ x) w ws

later_append : (vs ws : List (List ℕ)) → later_text (vs ++ ws) ≡ later_text vs ++ later_text ws
later_append vs ws = flat_map-append (λ (x : List ℕ). 32 ∷ x) vs ws

links_text : (ls : List WideLink) → later_text (flat_map link_words ls) ≡ flat_map (λ l. later_text (link_words l)) ls
links_text [] = refl
links_text (l ∷ ls) = ap later_text (flat_map-cons link_words l ls) ∙ (later_append (link_words l) (flat_map link_words ls)
    ∙ (ap (λ (x : List ℕ). later_text (link_words l) ++ x) (links_text ls) ∙ sym (flat_map-cons (λ (k : WideLink). later_text (link_words k)) l ls)))

line_parts : (step n k zero f : List ℕ) (lits links : List (List ℕ)) → line_of (step ∷ n ∷ k ∷ (lits ++ zero ∷ f ∷ links)) ≡ step ++ (32 ∷ n ++ (32 ∷ k ++ (later_text lits ++ (32 ∷ zero ++ (32 ∷ f ++ later_text links)))))
line_parts step n k zero f lits links =
    ap (λ (x : List ℕ). step ++ x) (later_cons n (k ∷ (lits ++ zero ∷ f ∷ links)) ∙ ap (λ (x : List ℕ). 32 ∷ n ++ x) (later_cons k (lits ++ zero ∷ f ∷ links)
    ∙ ap (λ (x : List ℕ). 32 ∷ k ++ x) (later_append lits (zero ∷ f ∷ links) ∙ ap (λ (x : List ℕ). later_text lits ++ x) (later_cons zero (f ∷ links) ∙ ap (λ (x : List ℕ). 32 ∷ zero ++ x) (later_cons f links)))))

eight : (t0 t1 t2 t3 t4 t5 t6 t7 t8 a b k l z f g e whole : List ℕ) → t1 ≡ t0 ++ a → t2 ≡ t1 ++ b → t3 ≡ t2 ++ k → t4 ≡ t3 ++ l → t5 ≡ t4 ++ z → t6 ≡ t5 ++ f → t7 ≡ t6 ++ g → t8 ≡ t7 ++ e
    → whole ≡ a ++ (b ++ (k ++ (l ++ (z ++ (f ++ g))))) → t8 ≡ t0 ++ whole ++ e
eight t0 t1 t2 t3 t4 t5 t6 t7 t8 a b k l z f g e whole e1 e2 e3 e4 e5 e6 e7 e8 w =
    let flat : t8 ≡ t0 ++ a ++ b ++ k ++ l ++ z ++ f ++ g ++ e = cc in
    flat ∙ rw w (simp append_assoc)

pub put_all : (s : StepLine) (t0 t1 t2 t3 t4 t5 t6 t7 t8 : List ℕ) → t1 ≡ t0 ++ codes "step" → t2 ≡ t1 ++ 32 ∷ decimal s.number → t3 ≡ t2 ++ 32 ∷ kind_word s.kind
    → t4 ≡ t3 ++ flat_map (λ l. 32 ∷ literal_word l) s.clause → t5 ≡ t4 ++ 32 ∷ decimal 0 → t6 ≡ t5 ++ 32 ∷ decimal s.first → t7 ≡ t6 ++ flat_map (λ l. later_text (link_words l)) s.chain
    → t8 ≡ t7 ++ codes "\n" → t8 ≡ t0 ++ line_of (step_words s) ++ codes "\n"
put_all s t0 t1 t2 t3 t4 t5 t6 t7 t8 e1 e2 e3 e4 e5 e6 e7 e8 =
    let zero_is : 32 ∷ decimal 0 ≡ 32 ∷ codes "0" = ap (λ (x : List ℕ). 32 ∷ x) (decimal_digit 0 (omega arith)) in
    let lits_is : flat_map (λ l. 32 ∷ literal_word l) s.clause ≡ later_text (map literal_word s.clause) = sym (flat_map-map (λ (w : List ℕ). 32 ∷ w) literal_word s.clause) in
    let links_is : flat_map (λ l. later_text (link_words l)) s.chain ≡ later_text (flat_map link_words s.chain) = sym (links_text s.chain) in
    eight t0 t1 t2 t3 t4 t5 t6 t7 t8 (codes "step") (32 ∷ decimal s.number) (32 ∷ kind_word s.kind) (later_text (map literal_word s.clause)) (32 ∷ codes "0") (32 ∷ decimal s.first) (later_text (flat_map link_words s.chain)) (codes "\n") (line_of (step_words s))
    e1 e2 e3 (e4 ∙ ap (λ (x : List ℕ). t3 ++ x) lits_is) (e5 ∙ ap (λ (x : List ℕ). t4 ++ x) zero_is) e6 (e7 ∙ ap (λ (x : List ℕ). t6 ++ x) links_is) e8
    (line_parts (codes "step") (decimal s.number) (kind_word s.kind) (codes "0") (decimal s.first) (map literal_word s.clause) (flat_map link_words s.chain))
