-- What a line without a fault says fits.
use Rattle.std.proofs.Common.{◌≡◌, ℕ, ◌+◌, ◌-◌, ◌*◌, ◌≤◌, Bool, true, false, ◌&&◌, List, [], ◌∷◌, length, nat_lt, nat_le, length-append, codes, if◌then◌else◌, refl, ap, ◌∙◌, arith}
use Rattle.std.specs.List.{list_all}
use Rattle.std.specs.Str.{bytes_eq}
use Rattle.std.proofs.lemmas.Bool.Decides.{nat_tests}
use Rattle.formulas.specs.Formulas.{nodes_of}
use Rattle.formulas.specs.Names.{is_name, is_plain_name, is_reserved}
use Rattle.formulas.specs.declared.formula.Formula.{Formula}
use Rattle.formulas.specs.Limits.{agent_limit, ask_limit, name_limit, node_limit, times_limit}
use Rattle.line_tokens.specs.Lexemes.{Lexeme, word, colon, lexemes_of}
use Rattle.problem_lines.specs.Lines.{content_of}
use Rattle.formula_grammar.specs.Readings.{IsRead}
use Rattle.formula_grammar.proofs.Measures.{nodes_spelled, width_spelled, both_false}
use Rattle.formula_grammar.proofs.Names.{nodes_of_symbols, past_unknown}
use Rattle.merge_model.specs.Limits.{IsWithin}
use Rattle.problem_lines.specs.Forms.{Form, blank, declaration, condition, belief, query, unknown, is_name_token, words_of, form_of, atoms_form, agent_form, times_form, numeral_form, base_form}
use Rattle.problem_lines.specs.Numerals.{is_numeral, value_after}
use Rattle.problem_reading.specs.declared.said.Said.{Said}
use Rattle.problem_reading.specs.declared.said.Said.TheVariants.{Nothing, Names, Condition, Belief, Query}
use Rattle.problem_reading.specs.Drafts.{Draft, size_of, constraint_size, other_size, total_times, is_long}
use Rattle.problem_reading.specs.Faults.{line_form, is_agent}
use Rattle.problem_reading.specs.Fitting.{Fits}
use Rattle.problem_reading.specs.Saying.{IsSaid, Says}

value_grows : (n : ℕ) (w : List ℕ) → n ≤ value_after n w
value_grows n [] = omega arith
value_grows n (b ∷ w) = omega (arith, value_grows (n * 10 + (b - 48)) w)

digit_first : (b : ℕ) (w : List ℕ) → is_numeral (b ∷ w) ≡ true → 1 ≤ b - 48
digit_first b w h = grind (arith, nat_tests)

numeral_counts : (w : List ℕ) → is_numeral w ≡ true → 1 ≤ value_after 0 w
numeral_counts [] h = absurd (cc)
numeral_counts (b ∷ w) h = omega (arith, digit_first b w h, value_grows (0 * 10 + (b - 48)) w)

-- an agent's line has a name and counts, and an atoms line has the words of name tokens
abbrev pub FormOk : Form → Type 0
FormOk (belief name times ts) = (1 ≤ times) × (is_plain_name name ≡ true)
FormOk (declaration names) = (ts : List Lexeme) × (names ≡ words_of ts) × (list_all is_name_token ts ≡ true)
FormOk (condition ts) = Unit {0}
FormOk (query ts) = Unit {0}
FormOk blank = Unit {0}
FormOk unknown = Unit {0}

ok_if : (b : Bool) (x y : Form) → (b ≡ true → FormOk x) → FormOk y → FormOk (if b then x else y)
ok_if true x y h i = h refl
ok_if false x y h i = i

base_ok : (name : List ℕ) (times : ℕ) (ts : List Lexeme) → 1 ≤ times → is_plain_name name ≡ true → FormOk (base_form name times ts)
base_ok name times [] h i = tt
base_ok name times (colon ∷ ts) h i = (h, i)
base_ok name times (t ∷ ts) h i = tt

numeral_ok : (name : List ℕ) (ts : List Lexeme) → is_plain_name name ≡ true → FormOk (numeral_form name ts)
numeral_ok name [] h = tt
numeral_ok name (word w ∷ ts) h = ok_if (is_numeral w) _ _ (λ e. base_ok name (value_after 0 w) ts (numeral_counts w e) h) tt
numeral_ok name (t ∷ ts) h = tt

times_ok : (name : List ℕ) (ts : List Lexeme) → is_plain_name name ≡ true → FormOk (times_form name ts)
times_ok name [] h = tt
times_ok name (colon ∷ ts) h = (omega arith, h)
times_ok name (word w ∷ ts) h = ok_if (bytes_eq w (codes "times")) _ _ (λ _. numeral_ok name ts h) tt
times_ok name (t ∷ ts) h = tt

agent_ok : (ts : List Lexeme) → FormOk (agent_form ts)
agent_ok [] = tt
agent_ok (word w ∷ ts) = ok_if (is_plain_name w) _ _ (λ e. times_ok w ts e) tt
agent_ok (t ∷ ts) = tt

second_true : (a b : Bool) → (a && b) ≡ true → b ≡ true
second_true true b h = h
second_true false b h = absurd (cc)

atoms_ok : (ts : List Lexeme) → FormOk (atoms_form ts)
atoms_ok ts =
    ok_if (nat_lt 0 (length ts) && list_all is_name_token ts) (declaration (words_of ts)) unknown
    (λ e. (ts, refl, second_true (nat_lt 0 (length ts)) (list_all is_name_token ts) e)) tt

pub form_ok : (ts : List Lexeme) → FormOk (form_of ts)
form_ok [] = tt
form_ok (word w ∷ ts) =
    ok_if (bytes_eq w (codes "atoms")) _ _ (λ _. atoms_ok ts)
    (ok_if (bytes_eq w (codes "constraint")) _ _ (λ _. tt)
    (ok_if (bytes_eq w (codes "agent")) _ _ (λ _. agent_ok ts) (ok_if (bytes_eq w (codes "ask")) _ _ (λ _. tt) tt)))
form_ok (t ∷ ts) = tt

pub nodes_read : (atoms : List (List ℕ)) (ts : List Lexeme) (f : Formula) → IsRead atoms ts f → nodes_of f ≡ size_of ts
nodes_read atoms ts f read = nodes_spelled read.spelled ∙ nodes_of_symbols atoms ts

within_read : (atoms : List (List ℕ)) (ts : List Lexeme) (f : Formula) → IsRead atoms ts f → IsWithin (length atoms) f
within_read atoms ts f read = record { width = width_spelled (length atoms) read.spelled (past_unknown atoms ts ∙ read.known); depth = read.depth }

one_bound : (n k : ℕ) → nat_lt n k ≡ false → k ≤ n
one_bound n k h = grind (arith, nat_tests)

named : (name : List ℕ) → is_plain_name name ≡ true → is_reserved name ≡ false → is_long name ≡ false → is_name name ≡ true
named name plain free short = let few : nat_le (length name) name_limit ≡ true = grind (arith, nat_tests) in grind (arith, few)

fits_form : (d : Draft) (form : Form) (said : Said) → FormOk form → IsSaid d form said → Fits d said
fits_form d blank Nothing ok h = tt
fits_form d (declaration names) (Names atoms) ok h = omega (arith, ap length h.3, length-append d.atoms names)
fits_form d (condition ts) (Condition f) ok h =
    record { nodes = omega (arith, nodes_read d.atoms ts f h.0, one_bound node_limit (other_size d.agents d.asks + size_of ts) h.2); within = within_read d.atoms ts f h.0 }
fits_form d (belief name times ts) (Belief agent) ok h =
    let all = both_false _ _ h.3 in
    let most = both_false _ _ all.0 in
    let few = both_false _ _ most.0 in
    record {
      room = one_bound agent_limit (length d.agents + 1) few.0;
      times = omega (arith, h.5, one_bound times_limit (total_times d.agents + times) most.1);
      nodes = omega (arith, nodes_read d.atoms ts agent.base h.0, one_bound node_limit (constraint_size d.constraint + other_size d.agents d.asks + size_of ts) all.1);
      within = within_read d.atoms ts agent.base h.0;
      counts = omega (arith, h.5, ok.0);
      legal = ap is_name h.4 ∙ named name ok.1 h.1 few.1;
      absent = ap (is_agent d) h.4 ∙ h.2;
    }
fits_form d (query ts) (Query f) ok h =
    let both = both_false _ _ h.1 in
    record {
      room = one_bound ask_limit (length d.asks + 1) both.0;
      nodes = omega (arith, nodes_read d.atoms ts f h.0, one_bound node_limit (constraint_size d.constraint + other_size d.agents d.asks + size_of ts) both.1);
      within = within_read d.atoms ts f h.0;
    }
fits_form d form said ok h = absurd h

pub fits : (d : Draft) (line : List ℕ) (said : Said) → Says d line said → Fits d said
fits d line said says = fits_form d (line_form line) said (form_ok (lexemes_of (content_of line))) says.said
