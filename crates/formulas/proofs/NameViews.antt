-- Searches in lists of names, and a name added to one.
use Rattle.std.proofs.Common.{String, Global, string_bytes, sym, if◌then◌else◌, ◌≡◌, ℕ, ◌+◌, Bool, true, false, ◌||◌, not, ◌&&◌, slice_get, arith, List, [], ◌∷◌, ◌++◌, map, refl, ap, ◌∙◌, cond, position, length, Option, Some, None, nat_lt}
use Rattle.std.specs.List.{list_any, list_all, prefix_len}
use Rattle.std.specs.Str.{bytes_eq}
use Rattle.std.specs.String.{string_eq}
use Rattle.std.specs.Char.{is_ascii_digit}
use Rattle.std.proofs.lemmas.List.Folds.{list_all-append, list_any-append}
use Rattle.std.proofs.lemmas.Slice.Eq.{bytes_eq-Decides}
use Rattle.formulas.specs.Names.{is_word_byte, is_plain_name, is_name, are_distinct, are_names}
use Rattle.std.proofs.lemmas.List.{map-append, length-map}

pub list_any-map : {X Y : Type 0} (p : Y → Bool) (f : X → Y) (xs : List X) → list_any p (map f xs) ≡ list_any (λ x. p (f x)) xs
list_any-map p f [] = refl
list_any-map p f (x ∷ xs) = ap (λ b. p (f x) || b) (list_any-map p f xs)

prefix_len-map : {X Y : Type 0} (p : Y → Bool) (f : X → Y) (xs : List X) → prefix_len p (map f xs) ≡ prefix_len (λ x. p (f x)) xs
prefix_len-map p f [] = refl
prefix_len-map p f (x ∷ xs) = ap (λ n. cond (p (f x)) (1 + n) 0) (prefix_len-map p f xs)

pub position-map : {X Y : Type 0} (p : Y → Bool) (f : X → Y) (xs : List X) → position p (map f xs) ≡ position (λ x. p (f x)) xs
position-map p f xs =
    ap (λ n. cond {A = Option ℕ} (nat_lt n (length (map f xs))) (Some n) None) (prefix_len-map (λ y. not (p y)) f xs)
    ∙ ap (λ l. cond {A = Option ℕ} (nat_lt (prefix_len (λ x. not (p (f x))) xs) l) (Some (prefix_len (λ x. not (p (f x))) xs)) None) (length-map xs f)

-- a list that begins with this byte is a name by that byte and the rest
pub plain_by_first : (name : List ℕ) (first : ℕ) → Some first ≡ slice_get name 0 → is_plain_name name ≡ (not (is_ascii_digit first) && list_all is_word_byte name)
plain_by_first [] first e = absurd (grind arith)
plain_by_first (byte ∷ rest) first e = grind arith

pub bytes_eq-comm : (m n : List ℕ) → bytes_eq m n ≡ false → bytes_eq n m ≡ false
bytes_eq-comm m n e = grind (arith, bytes_eq-Decides m n, bytes_eq-Decides n m)

pub distinct_more : (names : List (List ℕ)) (name : List ℕ) → are_distinct names ≡ true → list_any (bytes_eq name) names ≡ false → are_distinct (names ++ name ∷ []) ≡ true
distinct_more [] name known absent = refl
distinct_more (n ∷ names) name known absent =
    let other : bytes_eq n name ≡ false = bytes_eq-comm name n (grind arith) in
    grind (arith, other, list_any-append (bytes_eq n) names (name ∷ []), distinct_more names name (grind arith) (grind arith))

-- one more name, which is not there yet
pub names_added : (names : List (List ℕ)) (name : List ℕ) → are_names names ≡ true → is_name name ≡ true → list_any (bytes_eq name) names ≡ false → are_names (names ++ name ∷ []) ≡ true
names_added names name known legal absent =
    let all : list_all is_name (names ++ name ∷ []) ≡ true = grind (arith, list_all-append is_name names (name ∷ [])) in
    let distinct : are_distinct (names ++ name ∷ []) ≡ true = distinct_more names name (grind arith) absent in
    grind arith

-- what the insertion of an absent name makes of a set's keys
pub keys_added : (keys after : List (String Global)) (names : List (List ℕ)) (key : String Global) (name : List ℕ) →
    map string_bytes keys ≡ names → string_bytes key ≡ name → list_any (bytes_eq name) names ≡ false →
    after ≡ (if list_any (string_eq key) keys then keys else keys ++ key ∷ []) → map string_bytes after ≡ names ++ name ∷ []
keys_added keys after names key name are is absent inserted =
    let fresh : list_any (string_eq key) keys ≡ false =
    sym (list_any-map (bytes_eq (string_bytes key)) string_bytes keys) ∙ ap (λ bs. list_any (bytes_eq bs) (map string_bytes keys)) is ∙ ap (list_any (bytes_eq name)) are ∙ absent in
    ap (map string_bytes) (inserted ∙ ap (λ t. if t then keys else keys ++ key ∷ []) fresh)
    ∙ map-append string_bytes keys (key ∷ [])
    ∙ ap (λ ks. ks ++ string_bytes key ∷ []) are
    ∙ ap (λ n. names ++ n ∷ []) is
