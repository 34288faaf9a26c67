-- At most one line that is due has given words.
use Rattle.std.proofs.Common.{◌≡◌, ℕ, ◌<◌, ◌⊎◌, inl, inr, Bool, true, false, List, [], ◌∷◌, ◌++◌, map, codes, decimal, refl, ap, sym, ◌∙◌, arith}
use Rattle.std.specs.List.{AllByRecursion}
use Rattle.report_words.specs.Numbers.{HasNumeral, number_at}
use Rattle.report_words.specs.Words.{words_of, line_of}
use Rattle.report_words.proofs.Numerals.{number_again, some_same}
use Rattle.report_words.proofs.Spelling.{line_of_words, line_at}
use Rattle.merge_model.proofs.OperatorWords.{one_distance, one_aggregator}
use Rattle.derivation_log.specs.StepLines.{StepLine, IsStep, step_words}
use Rattle.derivation_log.specs.StepReading.{step_at}
use Rattle.derivation_log.proofs.StepLaws.{step_again}
use Rattle.merge_encoding.specs.Claims.{Assertion, NoModelOfConstraint, NoModelOfBase, NoNearer, NoBetter, NoBreaker, NoModelWith}
use Rattle.report_lines.specs.declared.kinds.Due.{Due}
use Rattle.report_lines.specs.declared.kinds.Due.TheVariants as due
use Rattle.report_lines.specs.declared.kinds.Kind.{Kind}
use Rattle.merge_model.specs.OperatorWords.{distance_word, aggregator_word}
use Rattle.report_lines.specs.declared.kinds.Subject.{Subject}
use Rattle.report_lines.specs.declared.kinds.Subject.TheVariants.{TheConstraint, BaseOf}
use Rattle.report_lines.specs.ClaimsDue.{DueClaim}
use Rattle.report_lines.specs.Items.{Item, DistanceLine, AggregatorLine, ConflictsLine, ProblemLine, ModelLine, VectorLine, NearestLine, MeasureLine, VerdictLine, HasModelLine, GaveUpLine, MainLine, LogLine, ShownLine, item_words, yes_word, subject_words, claim_words}
use Rattle.formula_text.specs.ValuationWords.{valuation_word}
use Rattle.report_lines.specs.Places.{Position, DueAt, IsProblemLine, IsModelLine, IsNamedLine, IsAnswerLine, IsProofLine, first_word}

cons_is : {A : Type 0} (x y : A) (xs ys : List A) → x ≡ y → xs ≡ ys → x ∷ xs ≡ y ∷ ys
cons_is x y xs ys e f = cc

head_is : (a b : ℕ) (x y : List ℕ) → a ∷ x ≡ b ∷ y → a ≡ b
head_is a b x y e = cc

below : (a b : ℕ) (x y : List ℕ) → a < b → a ∷ x ≡ b ∷ y → ⊥
below a b x y h e = let f : a ≡ b = head_is a b x y e in omega arith

above : (a b : ℕ) (x y : List ℕ) → b < a → a ∷ x ≡ b ∷ y → ⊥
above a b x y h e = let f : a ≡ b = head_is a b x y e in omega arith

tail_is : (a b : ℕ) (x y : List ℕ) → a ∷ x ≡ b ∷ y → x ≡ y
tail_is a b x y e = cc

same_number : (n m : ℕ) → HasNumeral n → HasNumeral m → decimal n ≡ decimal m → n ≡ m
same_number n m h k e = some_same (sym (number_again n h) ∙ (ap number_at e ∙ number_again m k))

same_numbers : (ns ms : List ℕ) → AllByRecursion HasNumeral ns → AllByRecursion HasNumeral ms → map decimal ns ≡ map decimal ms → ns ≡ ms
same_numbers [] [] h k e = refl
same_numbers [] (m ∷ ms) h k e = absurd (cc)
same_numbers (n ∷ ns) [] h k e = absurd (cc)
same_numbers (n ∷ ns) (m ∷ ms) h k e =
    let a : decimal n ≡ decimal m = cc in
    let b : map decimal ns ≡ map decimal ms = cc in
    cons_is n m ns ms (same_number n m h.0 k.0 a) (same_numbers ns ms h.1 k.1 b)

pub same_valuation : (v w : List Bool) → valuation_word v ≡ valuation_word w → v ≡ w
same_valuation [] [] e = refl
same_valuation [] (b ∷ w) e = absurd (cc)
same_valuation (a ∷ v) [] e = absurd (cc)
same_valuation (true ∷ v) (true ∷ w) e = let b : valuation_word v ≡ valuation_word w = cc in ap (λ u. true ∷ u) (same_valuation v w b)
same_valuation (true ∷ v) (false ∷ w) e = absurd (above 49 48 _ _ (omega arith) e)
same_valuation (false ∷ v) (true ∷ w) e = absurd (below 48 49 _ _ (omega arith) e)
same_valuation (false ∷ v) (false ∷ w) e = let b : valuation_word v ≡ valuation_word w = cc in ap (λ u. false ∷ u) (same_valuation v w b)

same_valuations : (vs ws : List (List Bool)) → map valuation_word vs ≡ map valuation_word ws → vs ≡ ws
same_valuations [] [] e = refl
same_valuations [] (w ∷ ws) e = absurd (cc)
same_valuations (v ∷ vs) [] e = absurd (cc)
same_valuations (v ∷ vs) (w ∷ ws) e =
    let a : valuation_word v ≡ valuation_word w = cc in
    let b : map valuation_word vs ≡ map valuation_word ws = cc in
    cons_is v w vs ws (same_valuation v w a) (same_valuations vs ws b)

same_yes : (a b : Bool) → yes_word a ≡ yes_word b → a ≡ b
same_yes true true e = refl
same_yes false false e = refl
same_yes true false e = absurd (above 121 110 _ _ (omega arith) e)
same_yes false true e = absurd (below 110 121 _ _ (omega arith) e)

same_step : (s t : StepLine) → IsStep s → IsStep t → step_words s ≡ step_words t → s ≡ t
same_step s t h k e = some_same (sym (step_again s h) ∙ (ap step_at e ∙ step_again t k))

-- lines of the problem

pub same_line : (l m : List ℕ) → words_of l ≡ words_of m → l ≡ m
same_line l m e = line_at l (words_of m) e ∙ line_of_words m

same_problem : (v w : List ℕ) (x y : Item) → IsProblemLine v x → IsProblemLine w y → item_words x ≡ item_words y → x ≡ y
same_problem v w x y d e f = d.1 ∙ (ap ProblemLine (same_line d.0 e.0 (sym (ap item_words d.1) ∙ (f ∙ ap item_words e.1))) ∙ sym e.1)

-- a line whose first word begins with an a
problem_other : (w ws : List ℕ) (x : Item) (line : List (List ℕ)) (a : ℕ) (rest : List ℕ) → w ≡ 97 ∷ ws → IsProblemLine w x → item_words x ≡ line →
    97 < a → first_word (line_of line) ≡ a ∷ rest → ⊥
problem_other w ws x line a rest h d f big g =
    let l : d.0 ≡ line_of line = line_at d.0 line (sym (ap item_words d.1) ∙ f) in
    above a 97 rest ws big (sym g ∙ (sym (ap first_word l) ∙ (d.2 ∙ h)))

problem_answer : (w : List ℕ) (ws : List ℕ) (p : Position) (x y : Item) → w ≡ 97 ∷ ws → IsProblemLine w x → IsAnswerLine p y → item_words x ≡ item_words y → ⊥
problem_answer w ws p x y h d (inl e) f = problem_other w ws x (codes "model" ∷ valuation_word e.0 ∷ []) 109 _ h d (f ∙ ap item_words e.1) (omega arith) refl
problem_answer w ws p x y h d (inr (inl (inl e))) f = problem_other w ws x (codes "no-model" ∷ codes "constraint" ∷ []) 110 _ h d (f ∙ ap item_words e) (omega arith) refl
problem_answer w ws p x y h d (inr (inl (inr e))) f = problem_other w ws x (codes "has-model" ∷ codes "constraint" ∷ valuation_word e.0 ∷ []) 104 _ h d (f ∙ ap item_words e.1) (omega arith) refl
problem_answer w ws p x y h d (inr (inr e)) f = problem_other w ws x (codes "gave-up" ∷ []) 103 _ h d (f ∙ ap item_words e) (omega arith) refl

-- lines of an answer

same_model : (p : Position) (x y : Item) → IsModelLine p x → IsModelLine p y → item_words x ≡ item_words y → x ≡ y
same_model p x y d e f =
    let g : codes "model" ∷ valuation_word d.0 ∷ [] ≡ codes "model" ∷ valuation_word e.0 ∷ [] = sym (ap item_words d.1) ∙ (f ∙ ap item_words e.1) in
    let h : valuation_word d.0 ≡ valuation_word e.0 = cc in
    d.1 ∙ (ap ModelLine (same_valuation d.0 e.0 h) ∙ sym e.1)

last_of : (s : Subject) (v w : List ℕ) → subject_words s ++ v ∷ [] ≡ subject_words s ++ w ∷ [] → v ≡ w
last_of TheConstraint v w e = cc
last_of (BaseOf i) v w e = cc

last_named : (s : Subject) (v w : List ℕ) → codes "has-model" ∷ (subject_words s ++ v ∷ []) ≡ codes "has-model" ∷ (subject_words s ++ w ∷ []) → v ≡ w
last_named s v w e = let f : subject_words s ++ v ∷ [] ≡ subject_words s ++ w ∷ [] = cc in last_of s v w f

pub first_words : (a b : List ℕ) (xs ys : List (List ℕ)) → a ∷ xs ≡ b ∷ ys → a ≡ b
first_words a b xs ys e = cc

no_is_not_has : codes "no-model" ≡ codes "has-model" → ⊥
no_is_not_has e = above 110 104 _ _ (omega arith) e

same_named : (p : Position) (s : Subject) (x y : Item) → IsNamedLine p s x → IsNamedLine p s y → item_words x ≡ item_words y → x ≡ y
same_named p s x y (inl d) (inl e) f = d ∙ sym e
same_named p s x y (inl d) (inr e) f = absurd (no_is_not_has (first_words (codes "no-model") (codes "has-model") _ _ (sym (ap item_words d) ∙ (f ∙ ap item_words e.1))))
same_named p s x y (inr d) (inl e) f = absurd (no_is_not_has (sym (first_words (codes "has-model") (codes "no-model") _ _ (sym (ap item_words d.1) ∙ (f ∙ ap item_words e)))))
same_named p s x y (inr d) (inr e) f =
    let h : valuation_word d.0 ≡ valuation_word e.0 = last_named s (valuation_word d.0) (valuation_word e.0) (sym (ap item_words d.1) ∙ (f ∙ ap item_words e.1)) in
    d.1 ∙ (ap (λ (w : List Bool). HasModelLine s w) (same_valuation d.0 e.0 h) ∙ sym e.1)

-- the first words of the answers' first lines
model_other : (p : Position) (x y : Item) → IsModelLine p x → IsNamedLine p TheConstraint y ⊎ (y ≡ GaveUpLine) → item_words x ≡ item_words y → ⊥
model_other p x y d (inl (inl e)) f = let g = first_words (codes "model") (codes "no-model") _ _ (sym (ap item_words d.1) ∙ (f ∙ ap item_words e)) in below 109 110 _ _ (omega arith) g
model_other p x y d (inl (inr e)) f = let g = first_words (codes "model") (codes "has-model") _ _ (sym (ap item_words d.1) ∙ (f ∙ ap item_words e.1)) in above 109 104 _ _ (omega arith) g
model_other p x y d (inr e) f = let g = first_words (codes "model") (codes "gave-up") _ _ (sym (ap item_words d.1) ∙ (f ∙ ap item_words e)) in above 109 103 _ _ (omega arith) g

named_other : (p : Position) (x y : Item) → IsNamedLine p TheConstraint x → y ≡ GaveUpLine → item_words x ≡ item_words y → ⊥
named_other p x y (inl d) e f = let g = first_words (codes "no-model") (codes "gave-up") _ _ (sym (ap item_words d) ∙ (f ∙ ap item_words e)) in above 110 103 _ _ (omega arith) g
named_other p x y (inr d) e f = let g = first_words (codes "has-model") (codes "gave-up") _ _ (sym (ap item_words d.1) ∙ (f ∙ ap item_words e)) in above 104 103 _ _ (omega arith) g

same_answer : (p : Position) (x y : Item) → IsAnswerLine p x → IsAnswerLine p y → item_words x ≡ item_words y → x ≡ y
same_answer p x y (inl d) (inl e) f = same_model p x y d e f
same_answer p x y (inl d) (inr e) f = absurd (model_other p x y d e f)
same_answer p x y (inr d) (inl e) f = absurd (model_other p y x e d (sym f))
same_answer p x y (inr (inl d)) (inr (inl e)) f = same_named p TheConstraint x y d e f
same_answer p x y (inr (inl d)) (inr (inr e)) f = absurd (named_other p x y d e f)
same_answer p x y (inr (inr d)) (inr (inl e)) f = absurd (named_other p y x e d (sym f))
same_answer p x y (inr (inr d)) (inr (inr e)) f = d ∙ sym e

-- lines of the log and of the proofs

last_word : (k : ℕ) (a : Assertion) (v w : List ℕ) → claim_words k a ++ v ∷ [] ≡ claim_words k a ++ w ∷ [] → v ≡ w
last_word k NoModelOfConstraint v w e = cc
last_word k (NoModelOfBase i) v w e = cc
last_word k (NoNearer i u d) v w e = cc
last_word k (NoBetter j us) v w e = cc
last_word k (NoBreaker q us) v w e = cc
last_word k (NoModelWith us u) v w e = cc

last_shown : (c : DueClaim) (v w : List ℕ) → codes "shown" ∷ (claim_words c.model c.says ++ v ∷ []) ≡ codes "shown" ∷ (claim_words c.model c.says ++ w ∷ []) → v ≡ w
last_shown c v w e = let f : claim_words c.model c.says ++ v ∷ [] ≡ claim_words c.model c.says ++ w ∷ [] = cc in last_word c.model c.says v w f

same_proof : (cs : List DueClaim) (k : Kind) (x y : Item) → IsProofLine cs k x → IsProofLine cs k y → item_words x ≡ item_words y → x ≡ y
same_proof [] k x y d e f = d ∙ sym e
same_proof (c ∷ cs) k x y d e f =
    let g : item_words (ShownLine c d.0) ≡ item_words (ShownLine c e.0) = sym (ap item_words d.1) ∙ (f ∙ ap item_words e.1) in
    d.1 ∙ (ap (λ (n : ℕ). ShownLine c n) (same_number d.0 e.0 d.2 e.2 (last_shown c (decimal d.0) (decimal e.0) g)) ∙ sym e.1)

step_proof : (cs : List DueClaim) (k : Kind) (s : StepLine) (y : Item) → IsProofLine cs k y → step_words s ≡ item_words y → ⊥
step_proof [] k s y e f = let g = first_words (codes "step") (codes "end") _ _ (f ∙ ap item_words e) in above 115 101 _ _ (omega arith) g
step_proof (c ∷ cs) k s y e f = let g = first_words (codes "step") (codes "shown") _ _ (f ∙ ap item_words e.1) in above 116 104 _ _ (omega arith) (tail_is 115 115 _ _ g)

one_asks : (p : Position) (x y : Item) → DueAt due.Asks p x → DueAt due.Asks p y → item_words x ≡ item_words y → x ≡ y
one_asks p x y (inl d) (inl e) f = same_problem (codes "ask") (codes "ask") x y d e f
one_asks p x y (inl d) (inr e) f = absurd (problem_answer (codes "ask") _ p x y refl d e f)
one_asks p x y (inr d) (inl e) f = absurd (problem_answer (codes "ask") _ p y x refl e d (sym f))
one_asks p x y (inr d) (inr e) f = same_answer p x y d e f

agent_other : (p : Position) (x y : Item) → IsProblemLine (codes "agent") x → DueAt due.Asks p y → item_words x ≡ item_words y → x ≡ y
agent_other p x y d (inl e) f = same_problem (codes "agent") (codes "ask") x y d e f
agent_other p x y d (inr e) f = absurd (problem_answer (codes "agent") _ p x y refl d e f)

one_agents : (p : Position) (x y : Item) → DueAt due.Agents p x → DueAt due.Agents p y → item_words x ≡ item_words y → x ≡ y
one_agents p x y (inl d) (inl e) f = same_problem (codes "agent") (codes "agent") x y d e f
one_agents p x y (inl d) (inr e) f = agent_other p x y d e f
one_agents p x y (inr d) (inl e) f = sym (agent_other p y x e d (sym f))
one_agents p x y (inr d) (inr e) f = one_asks p x y d e f

one_log : (p : Position) (x y : Item) → DueAt due.Log p x → DueAt due.Log p y → item_words x ≡ item_words y → x ≡ y
one_log p x y (inl d) (inl e) f = d.1 ∙ (ap LogLine (same_step d.0 e.0 d.2 e.2 (sym (ap item_words d.1) ∙ (f ∙ ap item_words e.1))) ∙ sym e.1)
one_log p x y (inl d) (inr e) f = absurd (step_proof p.claims p.kind d.0 y e (sym (ap item_words d.1) ∙ f))
one_log p x y (inr d) (inl e) f = absurd (step_proof p.claims p.kind e.0 x d (sym (ap item_words e.1) ∙ sym f))
one_log p x y (inr d) (inr e) f = same_proof p.claims p.kind x y d e f

pub one_item : (d : Due) (p : Position) (x y : Item) → DueAt d p x → DueAt d p y → item_words x ≡ item_words y → x ≡ y
one_item due.Head p x y d e f = d ∙ sym e
one_item due.Distance p x y d e f =
    let g : item_words (DistanceLine d.0) ≡ item_words (DistanceLine e.0) = sym (ap item_words d.1) ∙ (f ∙ ap item_words e.1) in
    let w : distance_word d.0 ≡ distance_word e.0 = cc in
    d.1 ∙ (ap DistanceLine (one_distance d.0 e.0 w) ∙ sym e.1)
one_item due.Aggregator p x y d e f =
    let g : item_words (AggregatorLine d.0) ≡ item_words (AggregatorLine e.0) = sym (ap item_words d.1) ∙ (f ∙ ap item_words e.1) in
    let w : aggregator_word d.0 ≡ aggregator_word e.0 = cc in
    d.1 ∙ (ap AggregatorLine (one_aggregator d.0 e.0 w) ∙ sym e.1)
one_item due.Conflicts p x y d e f =
    let g : item_words (ConflictsLine d.0) ≡ item_words (ConflictsLine e.0) = sym (ap item_words d.1) ∙ (f ∙ ap item_words e.1) in
    let w : decimal d.0 ≡ decimal e.0 = cc in
    d.1 ∙ (ap ConflictsLine (same_number d.0 e.0 (omega (arith, d.3)) (omega (arith, e.3)) w) ∙ sym e.1)
one_item due.Atoms p x y d e f = same_problem (codes "atoms") (codes "atoms") x y d e f
one_item due.Constraint p x y d e f = same_problem (codes "constraint") (codes "constraint") x y d e f
one_item due.FirstAgent p x y d e f = same_problem (codes "agent") (codes "agent") x y d e f
one_item due.Agents p x y d e f = one_agents p x y d e f
one_item due.Asks p x y d e f = one_asks p x y d e f
one_item due.Model p x y d e f = same_model p x y d e f
one_item due.Vector p x y d e f =
    let g : item_words (VectorLine d.0) ≡ item_words (VectorLine e.0) = sym (ap item_words d.1) ∙ (f ∙ ap item_words e.1) in
    let w : map decimal d.0 ≡ map decimal e.0 = cc in
    d.1 ∙ (ap VectorLine (same_numbers d.0 e.0 d.3 e.3 w) ∙ sym e.1)
one_item due.Nearest p x y d e f =
    let g : item_words (NearestLine d.0) ≡ item_words (NearestLine e.0) = sym (ap item_words d.1) ∙ (f ∙ ap item_words e.1) in
    let w : map valuation_word d.0 ≡ map valuation_word e.0 = cc in
    d.1 ∙ (ap NearestLine (same_valuations d.0 e.0 w) ∙ sym e.1)
one_item due.Measure p x y d e f =
    let g : item_words (MeasureLine d.0) ≡ item_words (MeasureLine e.0) = sym (ap item_words d.1) ∙ (f ∙ ap item_words e.1) in
    let w : map decimal d.0 ≡ map decimal e.0 = cc in
    d.1 ∙ (ap MeasureLine (same_numbers d.0 e.0 d.3 e.3 w) ∙ sym e.1)
one_item due.Verdict p x y d e f =
    let g : item_words (VerdictLine p.verdicts d.0) ≡ item_words (VerdictLine p.verdicts e.0) = sym (ap item_words d.1) ∙ (f ∙ ap item_words e.1) in
    let w : yes_word d.0 ≡ yes_word e.0 = cc in
    d.1 ∙ (ap (λ (b : Bool). VerdictLine p.verdicts b) (same_yes d.0 e.0 w) ∙ sym e.1)
one_item due.Named p x y d e f = same_named p (BaseOf p.named) x y d e f
one_item due.Main p x y d e f =
    let g : item_words (MainLine d.0 d.1) ≡ item_words (MainLine e.0 e.1) = sym (ap item_words d.2) ∙ (f ∙ ap item_words e.2) in
    let v : decimal d.0 ≡ decimal e.0 = cc in
    let c : decimal d.1 ≡ decimal e.1 = cc in
    let v1 : d.0 ≡ e.0 = same_number d.0 e.0 d.3 e.3 v in
    let c1 : d.1 ≡ e.1 = same_number d.1 e.1 d.4 e.4 c in
    d.2 ∙ (ap (λ (n : ℕ). MainLine n d.1) v1 ∙ (ap (λ (n : ℕ). MainLine e.0 n) c1 ∙ sym e.2))
one_item due.Log p x y d e f = one_log p x y d e f
one_item due.Proofs p x y d e f = same_proof p.claims p.kind x y d e f
one_item due.Over p x y d e f = absurd d
