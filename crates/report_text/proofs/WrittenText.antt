-- The text of items is split into their lines, and the lines into their words.
use Rattle.std.proofs.Common.{◌≡◌, ℕ, zero, suc, ◌+◌, ◌<◌, ◌/◌, ◌%◌, ◌==◌, Bool, true, false, not, ◌&&◌, List, [], ◌∷◌, ◌++◌, map, codes, decimal, refl, ap, sym, ◌∙◌, arith, append_assoc}
use Rattle.std.specs.Prelude.{eqb, nat_lt, if◌then◌else◌}
use Rattle.std.specs.Fmt.{digits, digits_onto, digit_glyph}
use Rattle.std.specs.List.{AllByRecursion, flat_map, list_all}
use Rattle.std.proofs.lemmas.Bool.Decides.{nat_tests}
use Rattle.std.proofs.lemmas.List.Concat.{flat_map-cons}
use Rattle.std.proofs.lemmas.List.Elements.{All-from_recursion}
use Rattle.std.proofs.lemmas.List.Folds.{list_all-append}
use Rattle.std.proofs.lemmas.List.Splits.{slice_split_at}
use Rattle.std.proofs.lemmas.Bool.{not-true}
use Rattle.report_words.specs.declared.numbers.WideLit.{WideLit}
use Rattle.report_words.specs.Numbers.{literal_word}
use Rattle.report_words.specs.Words.{words_of, line_of, later_text}
use Rattle.report_words.proofs.FirstWords.{HasNoBlank}
use Rattle.report_words.proofs.Spelling.{words_of_line, line_of_words}
use Rattle.clause_store.proofs.Truths.{and_left, and_right, and_both}
use Rattle.merge_model.specs.declared.operator.AggregatorName.TheVariants.{Sum, Max, Leximax}
use Rattle.merge_model.specs.declared.operator.DistanceName.TheVariants.{Drastic, Hamming}
use Rattle.merge_model.specs.declared.operator.AggregatorName.{AggregatorName}
use Rattle.merge_model.specs.declared.operator.DistanceName.{DistanceName}
use Rattle.merge_model.specs.OperatorWords.{distance_word, aggregator_word}
use Rattle.merge_encoding.specs.Claims.{Assertion, NoModelOfConstraint, NoModelOfBase, NoNearer, NoBetter, NoBreaker, NoModelWith}
use Rattle.formula_text.specs.ValuationWords.{valuation_word}
use Rattle.derivation_log.specs.declared.wide.WideLink.{WideLink}
use Rattle.derivation_log.specs.declared.step.StepKind.{StepKind}
use Rattle.derivation_log.specs.declared.step.StepKind.TheVariants.{Learned, Claimed}
use Rattle.derivation_log.specs.StepLines.{StepLine, kind_word, link_words, step_words}
use Rattle.report_lines.specs.declared.kinds.Subject.{Subject}
use Rattle.report_lines.specs.declared.kinds.Subject.TheVariants.{TheConstraint, BaseOf}
use Rattle.report_lines.specs.Items.{Item, HeadLine, DistanceLine, AggregatorLine, ConflictsLine, ProblemLine, ModelLine, VectorLine, NearestLine, MeasureLine, VerdictLine, NoModelLine, HasModelLine, GaveUpLine, MainLine, LogLine, ShownLine, EndLine, item_words, item_line, yes_word, subject_words, claim_words}
use Rattle.report_lines.specs.Judged.{pieces_of}
use Rattle.report_lines.specs.Parts.{items_text}

-- no blank and no line feed
abbrev is_inner : ℕ → Bool
is_inner b = not (eqb b 32) && not (eqb b 10)

abbrev is_clean : List ℕ → Bool
is_clean w = list_all is_inner w

abbrev are_clean : List (List ℕ) → Bool
are_clean ws = list_all is_clean ws

all_clean : (vs ws : List (List ℕ)) → are_clean vs ≡ true → are_clean ws ≡ true → are_clean (vs ++ ws) ≡ true
all_clean vs ws h k = list_all-append is_clean vs ws ∙ and_both (are_clean vs) (are_clean ws) h k

cons_clean : (w : List ℕ) (ws : List (List ℕ)) → is_clean w ≡ true → are_clean ws ≡ true → are_clean (w ∷ ws) ≡ true
cons_clean w ws h k = and_both (is_clean w) (are_clean ws) h k

-- numbers

glyph_inner : (d : ℕ) → d < 10 → is_inner (digit_glyph false d) ≡ true
glyph_inner d h =
    let e : nat_lt d 10 ≡ true = grind (arith, nat_tests) in
    let f : eqb (48 + d) 32 ≡ false = grind (arith, nat_tests) in
    let g : eqb (48 + d) 10 ≡ false = grind (arith, nat_tests) in
    rw e (rw (f, g) refl)

digits_clean : (k n : ℕ) (acc : List ℕ) → is_clean acc ≡ true → is_clean (digits_onto k 10 false n acc) ≡ true
digits_clean zero n acc h = h
digits_clean (suc k) n acc h =
    let more : is_clean (digit_glyph false (n % 10) ∷ acc) ≡ true = and_both (is_inner (digit_glyph false (n % 10))) (is_clean acc) (glyph_inner (n % 10) (omega arith)) h in
    elim (n / 10 == 0) as (λ (t : Bool). is_clean (if t then digit_glyph false (n % 10) ∷ acc else digits_onto k 10 false (n / 10) (digit_glyph false (n % 10) ∷ acc)) ≡ true) [
      | true ↦ more
      | false ↦ digits_clean k (n / 10) (digit_glyph false (n % 10) ∷ acc) more
    ]

decimal_clean : (n : ℕ) → is_clean (decimal n) ≡ true
unfolding digits
decimal_clean n = digits_clean 64 n [] refl

decimals_clean : (ns : List ℕ) → are_clean (map decimal ns) ≡ true
decimals_clean [] = refl
decimals_clean (n ∷ ns) = cons_clean (decimal n) (map decimal ns) (decimal_clean n) (decimals_clean ns)

-- the other words

valuation_clean : (w : List Bool) → is_clean (valuation_word w) ≡ true
valuation_clean [] = refl
valuation_clean (true ∷ w) = valuation_clean w
valuation_clean (false ∷ w) = valuation_clean w

valuations_clean : (ws : List (List Bool)) → are_clean (map valuation_word ws) ≡ true
valuations_clean [] = refl
valuations_clean (w ∷ ws) = cons_clean (valuation_word w) (map valuation_word ws) (valuation_clean w) (valuations_clean ws)

distance_clean : (d : DistanceName) → is_clean (distance_word d) ≡ true
distance_clean Drastic = refl
distance_clean Hamming = refl

aggregator_clean : (a : AggregatorName) → is_clean (aggregator_word a) ≡ true
aggregator_clean Sum = refl
aggregator_clean Max = refl
aggregator_clean Leximax = refl

yes_clean : (b : Bool) → is_clean (yes_word b) ≡ true
yes_clean true = refl
yes_clean false = refl

one_clean : (w : List ℕ) → is_clean w ≡ true → are_clean (w ∷ []) ≡ true
one_clean w h = cons_clean w [] h refl

subject_clean : (s : Subject) → are_clean (subject_words s) ≡ true
subject_clean TheConstraint = refl
subject_clean (BaseOf i) = one_clean (decimal (i + 1)) (decimal_clean (i + 1))

claim_clean : (k : ℕ) (a : Assertion) → are_clean (claim_words k a) ≡ true
claim_clean k NoModelOfConstraint = refl
claim_clean k (NoModelOfBase i) = one_clean (decimal (i + 1)) (decimal_clean (i + 1))
claim_clean k (NoNearer i v d) = cons_clean (decimal k) (decimal (i + 1) ∷ []) (decimal_clean k) (one_clean (decimal (i + 1)) (decimal_clean (i + 1)))
claim_clean k (NoBetter j values) = one_clean (decimal (j + 1)) (decimal_clean (j + 1))
claim_clean k (NoBreaker q values) = one_clean (decimal (q + 1)) (decimal_clean (q + 1))
claim_clean k (NoModelWith values prefix) = refl

kind_clean : (k : StepKind) → is_clean (kind_word k) ≡ true
kind_clean Learned = refl
kind_clean Claimed = refl

literal_by : (p : Bool) (n : ℕ) → is_clean (literal_word (record { var = n; positive = p })) ≡ true
literal_by true n = decimal_clean n
literal_by false n = decimal_clean n

literal_clean : (l : WideLit) → is_clean (literal_word l) ≡ true
literal_clean l = literal_by l.positive l.var

literals_clean : (ls : List WideLit) → are_clean (map literal_word ls) ≡ true
literals_clean [] = refl
literals_clean (l ∷ ls) = cons_clean (literal_word l) (map literal_word ls) (literal_clean l) (literals_clean ls)

links_clean : (ls : List WideLink) → are_clean (flat_map link_words ls) ≡ true
links_clean [] = refl
links_clean (l ∷ ls) =
    ap are_clean (flat_map-cons link_words l ls)
    ∙ cons_clean (literal_word l.pivot) (decimal l.number ∷ flat_map link_words ls) (literal_clean l.pivot) (cons_clean (decimal l.number) (flat_map link_words ls) (decimal_clean l.number) (links_clean ls))

step_clean : (s : StepLine) → are_clean (step_words s) ≡ true
step_clean s =
    cons_clean (decimal s.number) (kind_word s.kind ∷ (map literal_word s.clause ++ codes "0" ∷ decimal s.first ∷ flat_map link_words s.chain)) (decimal_clean s.number)
    (cons_clean (kind_word s.kind) (map literal_word s.clause ++ codes "0" ∷ decimal s.first ∷ flat_map link_words s.chain) (kind_clean s.kind)
    (all_clean (map literal_word s.clause) (codes "0" ∷ decimal s.first ∷ flat_map link_words s.chain) (literals_clean s.clause)
    (cons_clean (decimal s.first) (flat_map link_words s.chain) (decimal_clean s.first) (links_clean s.chain))))

-- lines

-- no line feed
abbrev pub has_no_feed : List ℕ → Bool
has_no_feed line = list_all (λ b. not (eqb b 10)) line

no_blank : (w : List ℕ) → is_clean w ≡ true → AllByRecursion (λ b. eqb b 32 ≡ false) w
no_blank [] h = tt
no_blank (b ∷ w) h = (not-true (eqb b 32) (and_left (not (eqb b 32)) (not (eqb b 10)) (and_left (is_inner b) (is_clean w) h)), no_blank w (and_right (is_inner b) (is_clean w) h))

no_blanks : (ws : List (List ℕ)) → are_clean ws ≡ true → AllByRecursion HasNoBlank ws
no_blanks [] h = tt
no_blanks (w ∷ ws) h = (All-from_recursion (λ b. eqb b 32 ≡ false) w (no_blank w (and_left (is_clean w) (are_clean ws) h)), no_blanks ws (and_right (is_clean w) (are_clean ws) h))

word_feed : (w : List ℕ) → is_clean w ≡ true → has_no_feed w ≡ true
word_feed [] h = refl
word_feed (b ∷ w) h =
    and_both (not (eqb b 10)) (has_no_feed w) (and_right (not (eqb b 32)) (not (eqb b 10)) (and_left (is_inner b) (is_clean w) h)) (word_feed w (and_right (is_inner b) (is_clean w) h))

join_feed : (v w : List ℕ) → has_no_feed v ≡ true → has_no_feed w ≡ true → has_no_feed (v ++ w) ≡ true
join_feed v w h k = list_all-append (λ b. not (eqb b 10)) v w ∙ and_both (has_no_feed v) (has_no_feed w) h k

later_feed : (ws : List (List ℕ)) → are_clean ws ≡ true → has_no_feed (later_text ws) ≡ true
later_feed [] h = refl
later_feed (w ∷ ws) h =
    ap has_no_feed (flat_map-cons (λ (x : List ℕ). 32 ∷ x) w ws)
    ∙ join_feed w (later_text ws) (word_feed w (and_left (is_clean w) (are_clean ws) h)) (later_feed ws (and_right (is_clean w) (are_clean ws) h))

-- the words of the line are those of the item, and no line feed stands in the line
pub record IsPlain (x : Item) : Type 0 where
  pub words : words_of (item_line x) ≡ item_words x
  pub feed : has_no_feed (item_line x) ≡ true

plain_line : (x : Item) (w : List ℕ) (ws : List (List ℕ)) → item_words x ≡ w ∷ ws → is_clean w ≡ true → are_clean ws ≡ true → IsPlain x
plain_line x w ws e h k = record {
  words = ap (λ (vs : List (List ℕ)). words_of (line_of vs)) e ∙ (words_of_line w ws (All-from_recursion (λ b. eqb b 32 ≡ false) w (no_blank w h)) (no_blanks ws k) ∙ sym e);
  feed = ap (λ (vs : List (List ℕ)). has_no_feed (line_of vs)) e ∙ join_feed w (later_text ws) (word_feed w h) (later_feed ws k);
}

-- a line of the problem has none either
abbrev pub HasNoFeed : Item → Type 0
HasNoFeed (ProblemLine line) = has_no_feed line ≡ true
HasNoFeed x = Unit {0}

is_plain : (x : Item) → HasNoFeed x → IsPlain x
is_plain HeadLine h = plain_line HeadLine (codes "merge-report") (codes "1" ∷ []) refl refl refl
is_plain (DistanceLine d) h = plain_line (DistanceLine d) (codes "distance") (distance_word d ∷ []) refl refl (one_clean (distance_word d) (distance_clean d))
is_plain (AggregatorLine a) h = plain_line (AggregatorLine a) (codes "aggregator") (aggregator_word a ∷ []) refl refl (one_clean (aggregator_word a) (aggregator_clean a))
is_plain (ConflictsLine b) h = plain_line (ConflictsLine b) (codes "conflicts") (decimal b ∷ []) refl refl (one_clean (decimal b) (decimal_clean b))
is_plain (ProblemLine line) h = record { words = ap words_of (line_of_words line); feed = ap has_no_feed (line_of_words line) ∙ h }
is_plain (ModelLine w) h = plain_line (ModelLine w) (codes "model") (valuation_word w ∷ []) refl refl (one_clean (valuation_word w) (valuation_clean w))
is_plain (VectorLine ds) h = plain_line (VectorLine ds) (codes "vector") (map decimal ds) refl refl (decimals_clean ds)
is_plain (NearestLine ws) h = plain_line (NearestLine ws) (codes "nearest") (map valuation_word ws) refl refl (valuations_clean ws)
is_plain (MeasureLine rs) h = plain_line (MeasureLine rs) (codes "measure") (map decimal rs) refl refl (decimals_clean rs)
is_plain (VerdictLine q given) h = plain_line (VerdictLine q given) (codes "verdict") (decimal (q + 1) ∷ yes_word given ∷ []) refl refl
    (cons_clean (decimal (q + 1)) (yes_word given ∷ []) (decimal_clean (q + 1)) (one_clean (yes_word given) (yes_clean given)))
is_plain (NoModelLine s) h = plain_line (NoModelLine s) (codes "no-model") (subject_words s) refl refl (subject_clean s)
is_plain (HasModelLine s w) h = plain_line (HasModelLine s w) (codes "has-model") (subject_words s ++ valuation_word w ∷ []) refl refl
    (all_clean (subject_words s) (valuation_word w ∷ []) (subject_clean s) (one_clean (valuation_word w) (valuation_clean w)))
is_plain GaveUpLine h = plain_line GaveUpLine (codes "gave-up") [] refl refl refl
is_plain (MainLine v c) h = plain_line (MainLine v c) (codes "main") (decimal v ∷ decimal c ∷ []) refl refl (cons_clean (decimal v) (decimal c ∷ []) (decimal_clean v) (one_clean (decimal c) (decimal_clean c)))
is_plain (LogLine s) h = plain_line (LogLine s) (codes "step") (decimal s.number ∷ kind_word s.kind ∷ (map literal_word s.clause ++ codes "0" ∷ decimal s.first ∷ flat_map link_words s.chain)) refl refl (step_clean s)
is_plain (ShownLine c n) h = plain_line (ShownLine c n) (codes "shown") (claim_words c.model c.says ++ decimal n ∷ []) refl refl
    (all_clean (claim_words c.model c.says) (decimal n ∷ []) (claim_clean c.model c.says) (one_clean (decimal n) (decimal_clean n)))
is_plain (EndLine n) h = plain_line (EndLine n) (codes "end") (decimal n ∷ []) refl refl (one_clean (decimal n) (decimal_clean n))

pub are_plain : (xs : List Item) → AllByRecursion HasNoFeed xs → AllByRecursion IsPlain xs
are_plain [] h = tt
are_plain (x ∷ xs) h = (is_plain x h.0, are_plain xs h.1)

-- whole texts

feed_free : (line : List ℕ) → has_no_feed line ≡ true → AllByRecursion (λ b. eqb b 10 ≡ false) line
feed_free [] h = tt
feed_free (b ∷ line) h = (not-true (eqb b 10) (and_left (not (eqb b 10)) (has_no_feed line) h), feed_free line (and_right (not (eqb b 10)) (has_no_feed line) h))

pub pieces_are : (xs : List Item) → AllByRecursion IsPlain xs → pieces_of (items_text xs) ≡ map item_line xs ++ [] ∷ []
pieces_are [] h = refl
pieces_are (x ∷ xs) h =
    let p : IsPlain x = h.0 in
    ap pieces_of (append_assoc (item_line x) (codes "\n") (items_text xs))
    ∙ (slice_split_at (λ b. eqb b 10) (item_line x) 10 (items_text xs) (All-from_recursion (λ b. eqb b 10 ≡ false) (item_line x) (feed_free (item_line x) p.feed)) refl
    ∙ ap (λ (ps : List (List ℕ)). item_line x ∷ ps) (pieces_are xs h.1))
