-- How far the lines of a text were read.
use Rattle.std.proofs.Common.{◌≡◌, ℕ, ◌+◌, ◌≤◌, ◌<◌, Bool, true, false, not, ◌==◌, List, [], ◌∷◌, ◌++◌, length, take, drop, cond, if◌then◌else◌, refl, ap, sym, ◌∙◌, inl, arith, suc, zero}
use Rattle.std.specs.List.{prefix_len}
use Rattle.problem_lines.specs.Lines.{lines_of, with_byte}
use Rattle.problem_reading.specs.declared.stop.TextStop.{TextStop}
use Rattle.problem_reading.specs.declared.stop.TextStop.TheVariants.{Fault, NoMemory}
use Rattle.problem_reading.specs.Lines.{StopsAfter}
use Rattle.problem_reading.specs.Spelling.{StopsText}

-- the bytes before the first line feed
abbrev pub line_size : List ℕ → ℕ
line_size text = prefix_len (λ b. not (b == 10)) text

abbrev AsLines : List ℕ → ℕ → Type 0
AsLines text n = lines_of text ≡ take n text ∷ lines_of (drop (suc n) text)

one_and : (n : ℕ) → suc n ≡ 1 + n
one_and n = omega arith

line_on : (b : ℕ) (s : List ℕ) (t : Bool) → (b == 10) ≡ t → ((c : ℕ) (r : List ℕ) → s ≡ c ∷ r → AsLines s (line_size s)) → AsLines (b ∷ s) (cond (not t) (1 + line_size s) 0)
line_on b s true e more = ap (λ t. if t then [] ∷ lines_of s else with_byte b (lines_of s)) e
line_on b [] false e more = ap (λ t. if t then [] ∷ [] else (b ∷ []) ∷ []) e
line_on b (c ∷ r) false e more =
    ap (λ t. if t then [] ∷ lines_of (c ∷ r) else with_byte b (lines_of (c ∷ r))) e
    ∙ ap (with_byte b) (more c r refl)
    ∙ ap (λ n. take n (b ∷ c ∷ r) ∷ lines_of (drop (suc n) (b ∷ c ∷ r))) (one_and (line_size (c ∷ r)))

-- the first line of a text that is not empty, and the lines after it
pub first_line : (text : List ℕ) → 0 < length text → AsLines text (line_size text)
first_line [] h = absurd (omega (arith, h))
first_line (b ∷ s) h = line_on b s (b == 10) refl (λ c r e. first_line s (omega (arith, ap length e)))

-- after the lines comes the rest of the text
pub record IsReadTo (bytes rest : List ℕ) (before : List (List ℕ)) : Type 0 where
  pub lines : before ++ lines_of rest ≡ lines_of bytes
  pub room : length before + length rest ≤ length bytes

pub stops_here : (bytes rest after line : List ℕ) (before : List (List ℕ)) (stop : TextStop) → IsReadTo bytes rest before → lines_of rest ≡ line ∷ lines_of after →
    StopsAfter before line stop → StopsText bytes stop
stops_here bytes rest after line before NoMemory is cut h = tt
stops_here bytes rest after line before (Fault fault) is cut h = inl (record {
  before = before;
  line = line;
  after = lines_of after;
  draft = h.1.0;
  lines = sym (ap (λ ls. before ++ ls) (sym cut) ∙ is.lines);
  declares = h.1.1;
  number = h.0;
  least = h.1.2;
})

pub drop_suc : (n : ℕ) (xs : List ℕ) → drop (suc n) xs ≡ drop 1 (drop n xs)
drop_suc zero xs = refl
drop_suc (suc n) [] = refl
drop_suc (suc n) (x ∷ xs) = drop_suc n xs

pub empty_of : (xs : List ℕ) → true ≡ (length xs == 0) → xs ≡ []
empty_of [] h = refl
empty_of (x ∷ xs) h = absurd (grind arith)
