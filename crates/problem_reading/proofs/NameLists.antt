-- Lists of names: what is met twice, and what may follow.
use Rattle.std.proofs.Common.{◌≡◌, ℕ, ◌+◌, ◌≤◌, ◌<◌, Bool, true, false, not, ◌||◌, List, [], ◌∷◌, ◌++◌, Option, Some, None, length, cond, position, nat_lt, nat_le, append_assoc, append-nil, length-append, suc, refl, ap, sym, ◌∙◌, arith}
use Rattle.std.specs.List.{list_any, list_all, position_or_len}
use Rattle.std.specs.Str.{bytes_eq}
use Rattle.std.proofs.lemmas.Bool.Decides.{nat_tests}
use Rattle.std.proofs.lemmas.List.Folds.{list_any-append, list_all-append}
use Rattle.std.proofs.lemmas.Slice.Eq.{bytes_eq-Decides}
use Rattle.report_words.proofs.Numerals.{both_true}
use Rattle.formulas.specs.Names.{is_name, is_plain_name, is_reserved, are_distinct, are_names}
use Rattle.formulas.proofs.NameViews.{names_added, bytes_eq-comm}
use Rattle.formulas.specs.Limits.{atom_limit, name_limit}
use Rattle.problem_reading.specs.Drafts.{is_long}
use Rattle.line_tokens.specs.Lexemes.{Lexeme, word, bang, ampersand, bar, arrow, both_arrow, open_bracket, close_bracket, colon, stray}
use Rattle.problem_lines.specs.Forms.{is_name_token, token_word, words_of}

none_past : {X : Type 0} (p : X → Bool) (xs : List X) → list_any p xs ≡ false → position_or_len p xs ≡ length xs
none_past p [] h = refl
none_past p (x ∷ xs) h =
    let parts : (p x ≡ false) × (list_any p xs ≡ false) = (grind arith, grind arith) in
    ap (λ t. cond (not t) (1 + position_or_len p xs) 0) parts.0 ∙ omega (arith, none_past p xs parts.1)

found_on : {X : Type 0} (p : X → Bool) (xs : List X) (k : ℕ) (t : Bool) → list_any p xs ≡ t → position p xs ≡ Some k → t ≡ true
found_on p xs k true e h = refl
found_on p xs k false e h =
    let at_end = none_past p xs e in
    let test : nat_lt (position_or_len p xs) (length xs) ≡ false = grind (arith, nat_tests) in
    let none : Some k ≡ None = sym h ∙ ap (λ t. cond {A = Option ℕ} t (Some (position_or_len p xs)) None) test in
    absurd (cc)

-- what has a place is there
pub found : {X : Type 0} (p : X → Bool) (xs : List X) (k : ℕ) → position p xs ≡ Some k → list_any p xs ≡ true
found p xs k h = found_on p xs k (list_any p xs) refl h

bytes_eq-comm_true : (m n : List ℕ) → bytes_eq m n ≡ true → bytes_eq n m ≡ true
bytes_eq-comm_true m n e = grind (arith, bytes_eq-Decides m n, bytes_eq-Decides n m)

twice_on : (n name : List ℕ) (names rest : List (List ℕ)) (t : Bool) → bytes_eq name n ≡ t → (t || list_any (bytes_eq name) names) ≡ true →
    (list_any (bytes_eq name) names ≡ true → are_distinct (names ++ name ∷ rest) ≡ false) → are_distinct (n ∷ names ++ name ∷ rest) ≡ false
twice_on n name names rest true e h more =
    let same : bytes_eq n name ≡ true = bytes_eq-comm_true name n e in
    grind (arith, same, list_any-append (bytes_eq n) names (name ∷ rest))
twice_on n name names rest false e h more = grind (arith, more h)

-- a name that was met before
pub distinct_not : (names rest : List (List ℕ)) (name : List ℕ) → list_any (bytes_eq name) names ≡ true → are_distinct (names ++ name ∷ rest) ≡ false
distinct_not [] rest name h = absurd (cc)
distinct_not (n ∷ names) rest name h =
    twice_on n name names rest (bytes_eq name n) refl h (λ there. distinct_not names rest name there)

absent_on : (names after : List (List ℕ)) (name : List ℕ) (t : Bool) → list_any (bytes_eq name) names ≡ t →
    are_distinct (names ++ name ∷ after) ≡ true → t ≡ false
absent_on names after name false e h = refl
absent_on names after name true e h = let both : true ≡ false = sym h ∙ distinct_not names after name e in absurd (cc)

-- what may be added to names
pub record MayFollow (before : List (List ℕ)) (name : List ℕ) : Type 0 where
  pub legal : is_name name ≡ true
  pub room : length before < atom_limit
  pub absent : list_any (bytes_eq name) before ≡ false

pub may_follow : (before after all : List (List ℕ)) (name : List ℕ) → before ++ name ∷ after ≡ all → are_names all ≡ true → length all ≤ atom_limit → MayFollow before name
may_follow before after all name e are few =
    let known = both_true (list_all is_name (before ++ name ∷ after)) (are_distinct (before ++ name ∷ after)) (ap are_names e ∙ are) in
    let here = both_true (list_all is_name before) (list_all is_name (name ∷ after)) (sym (list_all-append is_name before (name ∷ after)) ∙ known.0) in
    record {
      legal = (both_true (is_name name) (list_all is_name after) here.1).0;
      room = omega (arith, few, ap length e, length-append before (name ∷ after));
      absent = absent_on before after name (list_any (bytes_eq name) before) refl known.1;
    }

none_more_on : (ws names : List (List ℕ)) (w : List ℕ) → list_any (λ n. list_any (bytes_eq n) names) ws ≡ false → list_any (bytes_eq w) ws ≡ false →
    list_any (λ n. list_any (bytes_eq n) (names ++ w ∷ [])) ws ≡ false
none_more_on [] names w h i = refl
none_more_on (v ∷ ws) names w h i =
    let other : bytes_eq v w ≡ false = bytes_eq-comm w v (grind arith) in
    grind (arith, other, list_any-append (bytes_eq v) names (w ∷ []), none_more_on ws names w (grind arith) (grind arith))

-- declared names, and new ones that are legal, distinct and not among them
pub joined_names : (names ws : List (List ℕ)) → are_names names ≡ true → list_all is_name ws ≡ true → are_distinct ws ≡ true →
    list_any (λ n. list_any (bytes_eq n) names) ws ≡ false → are_names (names ++ ws) ≡ true
joined_names names [] are all distinct none = ap are_names (append-nil names) ∙ are
joined_names names (w ∷ ws) are all distinct none =
    let absent : list_any (bytes_eq w) names ≡ false = grind arith in
    let one = names_added names w are (grind arith) absent in
    ap are_names (sym (append_assoc names (w ∷ []) ws))
    ∙ joined_names (names ++ w ∷ []) ws one (grind arith) (grind arith) (none_more_on ws names w (grind arith) (grind arith))

plain_token : (t : Lexeme) → is_name_token t ≡ true → is_plain_name (token_word t) ≡ true
plain_token (word w) h = h
plain_token bang h = absurd (cc)
plain_token ampersand h = absurd (cc)
plain_token bar h = absurd (cc)
plain_token arrow h = absurd (cc)
plain_token both_arrow h = absurd (cc)
plain_token open_bracket h = absurd (cc)
plain_token close_bracket h = absurd (cc)
plain_token colon h = absurd (cc)
plain_token stray h = absurd (cc)

-- names by what is tested of each
pub all_names : (ts : List Lexeme) → list_all is_name_token ts ≡ true → list_any is_reserved (words_of ts) ≡ false →
    list_any is_long (words_of ts) ≡ false → list_all is_name (words_of ts) ≡ true
all_names [] h i j = refl
all_names (t ∷ ts) h i j =
    let plain : is_plain_name (token_word t) ≡ true = plain_token t (grind arith) in
    let short : nat_le (length (token_word t)) name_limit ≡ true = grind (arith, nat_tests) in
    grind (arith, plain, short, all_names ts (grind arith) (grind arith) (grind arith))

pub word_count : (ts : List Lexeme) → length (words_of ts) ≡ length ts
word_count [] = refl
word_count (t ∷ ts) = ap suc (word_count ts)
