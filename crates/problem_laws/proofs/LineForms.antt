-- The tokens of canonical lines, and their forms.
use Rattle.std.proofs.Common.{◌≡◌, ℕ, zero, suc, ◌≤◌, ◌==◌, Bool, true, false, ◌&&◌, ◌⊎◌, inl, inr, ⊎_elim, List, [], ◌∷◌, ◌++◌, length, map, nat_lt, if◌then◌else◌, refl, ap, ◌∙◌, arith, append_assoc, append-nil}
use Rattle.std.specs.Prelude.{codes, decimal}
use Rattle.std.specs.Fmt.{digits}
use Rattle.std.specs.List.{list_all}
use Rattle.std.proofs.lemmas.Bool.Decides.{nat_tests}
use Rattle.formulas.specs.Names.{is_name, is_plain_name, is_word_byte, are_names}
use Rattle.formulas.specs.Limits.{times_limit}
use Rattle.line_tokens.specs.Bytes.{starts_word}
use Rattle.line_tokens.specs.Lexemes.{word, lexemes_of}
use Rattle.line_tokens.proofs.Words.{if_true}
use Rattle.formula_grammar.proofs.WordTokens.{IsWord, token_of_word, plain_word}
use Rattle.problem_lines.specs.Forms.{declaration, condition, belief, query, unknown, form_of, atoms_form, is_name_token, words_of}
use Rattle.problem_lines.specs.Numerals.{is_numeral, value_after}
use Rattle.formula_text.specs.CanonicalText.{formula_text}
use Rattle.merge_model.specs.declared.agent.Agent.{Agent}
use Rattle.profile_text.specs.ProblemText.{agent_line, atoms_line, spaced_names}

pub plain : (name : List ℕ) → is_name name ≡ true → is_plain_name name ≡ true
plain name h = grind arith

-- a word, a blank and more
word_blank : (w rest : List ℕ) → IsWord w → lexemes_of (w ++ 32 ∷ rest) ≡ word w ∷ lexemes_of rest
word_blank w rest is = token_of_word w (32 ∷ rest) is refl

head_word : (b : ℕ) (w : List ℕ) → list_all is_word_byte (b ∷ w) ≡ true → IsWord (b ∷ w)
head_word b w all = record { some = λ e. absurd (grind (arith, e)); all = all }

spaced_stops : (names : List (List ℕ)) → starts_word (spaced_names names) ≡ false
spaced_stops [] = refl
spaced_stops (name ∷ names) = refl

names_tokens : (names : List (List ℕ)) → list_all is_name names ≡ true → lexemes_of (spaced_names names) ≡ map word names
names_tokens [] h = refl
names_tokens (name ∷ names) h =
    token_of_word name (spaced_names names) (plain_word name (plain name (grind arith))) (spaced_stops names)
    ∙ ap (λ ts. word name ∷ ts) (names_tokens names (grind arith))

name_tokens_are : (names : List (List ℕ)) → list_all is_name names ≡ true → list_all is_name_token (map word names) ≡ true
name_tokens_are [] h = refl
name_tokens_are (name ∷ names) h =
    let first : is_plain_name name ≡ true = plain name (grind arith) in
    let rest : list_all is_name_token (map word names) ≡ true = name_tokens_are names (grind arith) in
    grind arith

words_again : (names : List (List ℕ)) → words_of (map word names) ≡ names
words_again [] = refl
words_again (name ∷ names) = ap (λ ns. name ∷ ns) (words_again names)

declares : (names : List (List ℕ)) → list_all is_name names ≡ true → 1 ≤ length names → atoms_form (map word names) ≡ declaration names
declares [] h some = absurd (omega arith)
declares (name ∷ names) h some =
    let named : list_all is_name_token (map word (name ∷ names)) ≡ true = name_tokens_are (name ∷ names) h in
    let both : (nat_lt 0 (length (map word (name ∷ names))) && list_all is_name_token (map word (name ∷ names))) ≡ true = grind (arith, nat_tests, named) in
    if_true (nat_lt 0 (length (map word (name ∷ names))) && list_all is_name_token (map word (name ∷ names))) (declaration (words_of (map word (name ∷ names)))) unknown both
    ∙ ap declaration (words_again (name ∷ names))

-- the line of the atoms declares them
pub atoms_form_of : (names : List (List ℕ)) → are_names names ≡ true → 1 ≤ length names → form_of (lexemes_of (atoms_line names)) ≡ declaration names
atoms_form_of names known some =
    let legal : list_all is_name names ≡ true = grind arith in
    ap form_of (token_of_word (codes "atoms") (spaced_names names) (head_word 97 (codes "toms") refl) (spaced_stops names))
    ∙ ap atoms_form (names_tokens names legal) ∙ declares names legal some

pub constraint_form_of : (text : List ℕ) → form_of (lexemes_of (codes "constraint " ++ text)) ≡ condition (lexemes_of text)
constraint_form_of text = ap form_of (word_blank (codes "constraint") text (head_word 99 (codes "onstraint") refl))

pub ask_form_of : (text : List ℕ) → form_of (lexemes_of (codes "ask " ++ text)) ≡ query (lexemes_of text)
ask_form_of text = ap form_of (word_blank (codes "ask") text (head_word 97 (codes "sk") refl))

-- the numerals from 1 to the greatest times are read as their numbers
abbrev pub reads_well : ℕ → Bool
reads_well n = is_numeral (decimal n) && value_after 0 (decimal n) == n && list_all is_word_byte (decimal n)

abbrev pub all_read_well : ℕ → Bool
all_read_well zero = true
all_read_well (suc n) = all_read_well n && reads_well (suc n)

below_or_at : (n m : ℕ) → n ≤ suc m → (n ≤ m) ⊎ (n ≡ suc m)
below_or_at n m few =
    elim (nat_lt m n) as (λ t. nat_lt m n ≡ t → (n ≤ m) ⊎ (n ≡ suc m)) [
      | true ↦ λ e. inr (let last : n ≡ suc m = grind (arith, nat_tests) in last)
      | false ↦ λ e. inl (let low : n ≤ m = grind (arith, nat_tests) in low)
    ] refl

pub well_at : (m n : ℕ) → all_read_well m ≡ true → 1 ≤ n → n ≤ m → reads_well n ≡ true
well_at zero n h some few = absurd (omega arith)
well_at (suc m) n h some few =
    ⊎_elim
    (λ low. well_at m n (grind arith) some low)
    (λ high. ap reads_well high ∙ (let last : reads_well (suc m) ≡ true = grind arith in last))
    (below_or_at n m few)

pub all_times : all_read_well times_limit ≡ true
unfolding digits
all_times = refl

numeral_word : (w : List ℕ) → is_numeral w ≡ true → list_all is_word_byte w ≡ true → IsWord w
numeral_word [] h all = absurd (grind arith)
numeral_word (b ∷ w) h all = head_word b w all

-- the line of an agent that counts once
once_form : (name text : List ℕ) → is_name name ≡ true → form_of (lexemes_of (codes "agent " ++ (name ++ 32 ∷ 58 ∷ 32 ∷ text))) ≡ belief name 1 (lexemes_of text)
once_form name text legal =
    ap form_of (word_blank (codes "agent") (name ++ 32 ∷ 58 ∷ 32 ∷ text) (head_word 97 (codes "gent") refl)
    ∙ ap (λ ts. word (codes "agent") ∷ ts) (word_blank name (58 ∷ 32 ∷ text) (plain_word name (plain name legal))))
    ∙ if_true (is_plain_name name) _ _ (plain name legal)

-- and of one that counts more often
times_form_of : (name numeral text : List ℕ) → is_name name ≡ true → is_numeral numeral ≡ true → list_all is_word_byte numeral ≡ true →
    form_of (lexemes_of (codes "agent " ++ (name ++ 32 ∷ (codes "times" ++ 32 ∷ (numeral ++ 32 ∷ 58 ∷ 32 ∷ text))))) ≡ belief name (value_after 0 numeral) (lexemes_of text)
times_form_of name numeral text legal digits all =
    ap form_of (word_blank (codes "agent") (name ++ 32 ∷ (codes "times" ++ 32 ∷ (numeral ++ 32 ∷ 58 ∷ 32 ∷ text))) (head_word 97 (codes "gent") refl)
    ∙ ap (λ ts. word (codes "agent") ∷ ts) (word_blank name (codes "times" ++ 32 ∷ (numeral ++ 32 ∷ 58 ∷ 32 ∷ text)) (plain_word name (plain name legal))
    ∙ ap (λ ts. word name ∷ ts) (word_blank (codes "times") (numeral ++ 32 ∷ 58 ∷ 32 ∷ text) (head_word 116 (codes "imes") refl)
    ∙ ap (λ ts. word (codes "times") ∷ ts) (word_blank numeral (58 ∷ 32 ∷ text) (numeral_word numeral digits all)))))
    ∙ if_true (is_plain_name name) _ _ (plain name legal)
    ∙ if_true (is_numeral numeral) _ _ digits

agent_at : (names : List (List ℕ)) (agent : Agent) (t : Bool) → (agent.times == 1) ≡ t → is_name agent.name ≡ true → 1 ≤ agent.times → agent.times ≤ times_limit →
    form_of (lexemes_of (codes "agent " ++ agent.name ++ (if t then [] else codes " times " ++ decimal agent.times) ++ codes " : " ++ formula_text names agent.base))
    ≡ belief agent.name agent.times (lexemes_of (formula_text names agent.base))
agent_at names agent true e legal some few =
    let text = formula_text names agent.base in
    let once : 1 ≡ agent.times = grind (arith, nat_tests) in
    ap (λ t. form_of (lexemes_of (codes "agent " ++ (t ++ codes " : " ++ text)))) (append-nil agent.name)
    ∙ ap (λ t. form_of (lexemes_of (codes "agent " ++ t))) (append_assoc agent.name (codes " : ") text)
    ∙ once_form agent.name text legal ∙ ap (λ n. belief agent.name n (lexemes_of text)) once
agent_at names agent false e legal some few =
    let text = formula_text names agent.base in
    let numeral = decimal agent.times in
    let well : reads_well agent.times ≡ true = well_at times_limit agent.times all_times some few in
    let digits : is_numeral (decimal agent.times) ≡ true = grind (arith, well) in
    let all : list_all is_word_byte (decimal agent.times) ≡ true = grind (arith, well) in
    let value : value_after 0 (decimal agent.times) ≡ agent.times = grind (arith, nat_tests, well) in
    ap (λ t. form_of (lexemes_of (codes "agent " ++ t)))
    (append_assoc (agent.name ++ (codes " times " ++ numeral)) (codes " : ") text
    ∙ append_assoc agent.name (codes " times " ++ numeral) (codes " : " ++ text)
    )
    ∙ times_form_of agent.name numeral text legal digits all
    ∙ ap (λ n. belief agent.name n (lexemes_of text)) value

pub agent_form_of : (names : List (List ℕ)) (agent : Agent) → is_name agent.name ≡ true → 1 ≤ agent.times → agent.times ≤ times_limit →
    form_of (lexemes_of (agent_line names agent)) ≡ belief agent.name agent.times (lexemes_of (formula_text names agent.base))
agent_form_of names agent legal some few = agent_at names agent (agent.times == 1) refl legal some few
