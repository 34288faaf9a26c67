-- Rows that are read element by element.
use Rattle.std.proofs.Common.{◌≡◌, ◌≢◌, ℕ, ◌+◌, ◌<◌, ◌≤◌, ◌==◌, Bool, true, false, cond, List, [], ◌∷◌, ◌++◌, map, length, take, drop, get_or, set, Option, None, Some, IfSome, IfNone, refl, ap, sym, subst, ◌∙◌, add-one, drop-cons, append_assoc, arith}
use Rattle.std.specs.List.{AllByRecursion}
use Rattle.std.proofs.lemmas.List.{take_more_set, length-map, append-nil, take_all}
use Rattle.std.proofs.lemmas.Bool.Decides.{nat_tests}
use Rattle.derivation_log.specs.StepReading.{◌>>=◌}
use Rattle.derivation_log.proofs.Readers.{bind_some, some_is, guard_is}
use Rattle.formula_text.specs.ValuationWords.{truth_digit, valuation_word}
use Rattle.report_lines.specs.LineReading.{after_each, each_at, bit_at, valuation_at}
use Rattle.log_lines.proofs.News.{drop_past}

cons_is : {A : Type 0} (x y : A) (xs ys : List A) → x ≡ y → xs ≡ ys → x ∷ xs ≡ y ∷ ys
cons_is x y xs ys e f = cc

front_none : {B : Type 0} (read : Option (List B)) → after_each [] read ≡ read
front_none None = refl
front_none (Some ys) = refl

-- one more element is read
pub after_more : {B : Type 0} (front : List B) (y : B) (read : Option (List B)) → after_each front (after_each (y ∷ []) read) ≡ after_each (front ++ y ∷ []) read
after_more {B = B} front y None = refl
after_more {B = B} front y (Some ys) = ap (λ (zs : List B). Some zs) (sym (append_assoc front (y ∷ []) ys))

module _ {A B : Type 0} (f : A → Option B) where
  pub each_step : (front : List B) (x : A) (xs : List A) (y : B) (whole : Option (List B)) → f x ≡ Some y → after_each front (each_at f (x ∷ xs)) ≡ whole → after_each (front ++ y ∷ []) (each_at f xs) ≡ whole
  unfolding each_at
  each_step front x xs y whole e h =
      sym (after_more front y (each_at f xs)) ∙ (ap (λ (o : Option B). after_each front (o >>= λ z. after_each (z ∷ []) (each_at f xs))) (sym e) ∙ h)

  pub each_stop : (front : List B) (x : A) (xs : List A) (whole : Option (List B)) → f x ≡ None → after_each front (each_at f (x ∷ xs)) ≡ whole → whole ≡ None
  unfolding each_at
  each_stop front x xs whole e h = sym h ∙ ap (λ (o : Option B). after_each front (o >>= λ z. after_each (z ∷ []) (each_at f xs))) e

  module _ (spell : B → A) (P : B → Type 0) where
    pub each_found : ((x : A) (y : B) → f x ≡ Some y → (x ≡ spell y) × P y) → (xs : List A) (ys : List B) → each_at f xs ≡ Some ys → (xs ≡ map spell ys) × AllByRecursion P ys
    unfolding each_at
    each_found one [] ys e = subst (λ (zs : List B). ([] ≡ map spell zs) × AllByRecursion P zs) (some_is [] ys e) (refl, tt)
    each_found one (x ∷ xs) ys e =
        let a = bind_some (f x) (λ y. after_each (y ∷ []) (each_at f xs)) ys e in
        let b = bind_some (each_at f xs) (λ zs. Some (a.0 ∷ zs)) ys a.2 in
        let r = each_found one xs b.0 b.1 in
        let h = one x a.0 a.1 in
        subst (λ (zs : List B). (x ∷ xs ≡ map spell zs) × AllByRecursion P zs) (some_is (a.0 ∷ b.0) ys b.2) (cons_is x (spell a.0) xs (map spell b.0) h.0 r.0, (h.1, r.1))

    pub each_again : ((y : B) → P y → f (spell y) ≡ Some y) → (ys : List B) → AllByRecursion P ys → each_at f (map spell ys) ≡ Some ys
    unfolding each_at
    each_again one [] h = refl
    each_again one (y ∷ ys) h = rw (one y h.0, each_again one ys h.1) refl

    pub row_none : ((y : B) → P y → f (spell y) ≡ Some y) → (line : List A) (head : A) (xs : List A) → line ≡ head ∷ xs → each_at f xs ≡ None →
        (ys : List B) → AllByRecursion P ys → line ≡ head ∷ map spell ys → ⊥
    row_none one line head xs e none ys h g =
        let same : xs ≡ map spell ys = cc in
        let k : None ≡ Some ys = sym none ∙ (ap (each_at f) same ∙ each_again one ys h) in cc

    pub row_same : ((y : B) → P y → f (spell y) ≡ Some y) → (line : List A) (head : A) (xs : List A) (all : List B) → line ≡ head ∷ xs → each_at f xs ≡ Some all →
        (ys : List B) → AllByRecursion P ys → line ≡ head ∷ map spell ys → all ≡ ys
    row_same one line head xs all e some ys h g =
        let same : xs ≡ map spell ys = cc in
        some_is all ys (sym some ∙ (ap (each_at f) same ∙ each_again one ys h))

pub eq_is : (a b : ℕ) → (a == b) ≡ true → a ≡ b
eq_is a b e = grind (arith, nat_tests)

pub eq_same : (a b : ℕ) → a ≡ b → (a == b) ≡ true
eq_same a b e = grind (arith, nat_tests)

bit_by : (s t : Bool) (b : ℕ) (x : Bool) → (b == 49) ≡ s → (b == 48) ≡ t → cond s (Some true) (cond t (Some false) None) ≡ Some x → b ≡ truth_digit x
bit_by true t b x e f h = eq_is b 49 e ∙ ap truth_digit (some_is true x h)
bit_by false true b x e f h = eq_is b 48 f ∙ ap truth_digit (some_is false x h)
bit_by false false b x e f h = absurd (cc)

bit_found : (b : ℕ) (x : Bool) → bit_at b ≡ Some x → (b ≡ truth_digit x) × Unit {0}
bit_found b x e = (bit_by (b == 49) (b == 48) b x refl refl e, tt)

bit_again : (x : Bool) → Unit {0} → bit_at (truth_digit x) ≡ Some x
bit_again true h = refl
bit_again false h = refl

no_claims : (v : List Bool) → AllByRecursion (λ (x : Bool). Unit {0}) v
no_claims [] = tt
no_claims (x ∷ v) = (tt, no_claims v)

pub valuation_found : (n : ℕ) (word : List ℕ) (v : List Bool) → valuation_at n word ≡ Some v → (word ≡ valuation_word v) × (length v ≡ n)
unfolding valuation_at
valuation_found n word v e =
    let g = guard_is (length word == n) (each_at bit_at word) v e in
    let f = each_found bit_at truth_digit (λ x. Unit {0}) bit_found word v g.1 in
    let long : length (map truth_digit v) ≡ length v = length-map v truth_digit in
    (f.0, sym long ∙ (ap length (sym f.0) ∙ eq_is (length word) n g.0))

pub valuation_again : (n : ℕ) (v : List Bool) → length v ≡ n → valuation_at n (valuation_word v) ≡ Some v
unfolding valuation_at
valuation_again n v e =
    let long : length (map truth_digit v) ≡ n = length-map v truth_digit ∙ e in
    rw (eq_same (length (map truth_digit v)) n long) (each_again bit_at truth_digit (λ x. Unit {0}) bit_again v (no_claims v))

pub valuation_if : (n : ℕ) (word : List ℕ) (r : Option (List Bool)) → r ≡ valuation_at n word → IfSome r (λ v. (word ≡ valuation_word v) × (length v ≡ n))
valuation_if n word None e = tt
valuation_if n word (Some v) e = valuation_found n word v (sym e)

pub no_valuation_if : (n : ℕ) (word : List ℕ) (r : Option (List Bool)) → r ≡ valuation_at n word → IfNone r ((v : List Bool) → length v ≡ n → word ≢ valuation_word v)
no_valuation_if n word (Some v) e = tt
no_valuation_if n word None e = λ v size same.
    let g : None ≡ Some v = e ∙ (ap (valuation_at n) same ∙ valuation_again n v size) in cc

-- a word is read digit by digit into a valuation of its length
pub bits_step : (word : List ℕ) (v : List Bool) (k : ℕ) (x : Bool) (whole : Option (List Bool)) → k < length word → k < length v → bit_at (get_or word k 0) ≡ Some x →
    after_each (take k v) (each_at bit_at (drop k word)) ≡ whole → after_each (take (k + 1) (set v k x)) (each_at bit_at (drop (k + 1) word)) ≡ whole
bits_step word v k x whole h l e i =
    let cut : drop k word ≡ get_or word k 0 ∷ drop (k + 1) word = rw add-one (drop-cons word k 0 h) in
    let j : after_each (take k v) (each_at bit_at (get_or word k 0 ∷ drop (k + 1) word)) ≡ whole = ap (λ (w : List ℕ). after_each (take k v) (each_at bit_at w)) (sym cut) ∙ i in
    ap (λ (w : List Bool). after_each w (each_at bit_at (drop (k + 1) word))) (take_more_set v k x l) ∙ each_step bit_at (take k v) (get_or word k 0) (drop (k + 1) word) x whole e j

pub bits_stop : (word : List ℕ) (front : List Bool) (k : ℕ) (whole : Option (List Bool)) → k < length word → bit_at (get_or word k 0) ≡ None →
    after_each front (each_at bit_at (drop k word)) ≡ whole → whole ≡ None
bits_stop word front k whole h e i =
    let cut : drop k word ≡ get_or word k 0 ∷ drop (k + 1) word = rw add-one (drop-cons word k 0 h) in
    each_stop bit_at front (get_or word k 0) (drop (k + 1) word) whole e (ap (λ (w : List ℕ). after_each front (each_at bit_at w)) (sym cut) ∙ i)

-- before the first digit nothing is read
pub none_read : (word : List ℕ) (v : List Bool) → after_each (take 0 v) (each_at bit_at (drop 0 word)) ≡ each_at bit_at word
none_read word v = front_none (each_at bit_at word)

-- a word of the right length spells what its digits do
pub valuation_by : (n : ℕ) (word : List ℕ) (v : List Bool) (k : ℕ) → length word ≡ n → length v ≡ n → n ≤ k → after_each (take k v) (each_at bit_at (drop k word)) ≡ each_at bit_at word → Some v ≡ valuation_at n word
unfolding valuation_at each_at
valuation_by n word v k e l h i =
    let t : take k v ≡ v = take_all k v (omega arith) in
    let d : drop k word ≡ [] = drop_past word k (omega arith) in
    let r : each_at bit_at word ≡ Some v = sym i ∙ (ap (λ (w : List ℕ). after_each (take k v) (each_at bit_at w)) d ∙ ap (λ (w : List Bool). Some w) (append-nil (take k v) ∙ t)) in
    rw (eq_same (length word) n e) (sym r)

pub no_valuation_by : (n : ℕ) (word : List ℕ) → length word ≡ n → each_at bit_at word ≡ None → None ≡ valuation_at n word
unfolding valuation_at
no_valuation_by n word e h = rw (eq_same (length word) n e) (sym h)
