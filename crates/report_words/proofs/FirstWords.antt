use Rattle.std.proofs.Common.{◌≡◌, ℕ, ◌+◌, ◌<◌, false, List, ◌∷◌, ◌++◌, length, get_or, take, drop, refl, ap, ◌∙◌, arith}
use Rattle.std.specs.Prelude.{eqb}
use Rattle.std.specs.List.{All}
use Rattle.std.proofs.lemmas.List.Splits.{slice_split_at}
use Rattle.std.proofs.lemmas.Grind.{common_steps}
use Rattle.std.proofs.lemmas.Bool.Decides.{nat_tests}
use Rattle.std.proofs.lemmas.List.Elements.{All-more}
use Rattle.report_words.specs.Words.{words_of}

abbrev pub HasNoBlank : List ℕ → Type 0
HasNoBlank bs = All (λ b. eqb b 32 ≡ false) bs

pub parts_at : (line : List ℕ) (i d : ℕ) → i < length line → line ≡ take i line ++ get_or line i d ∷ drop (i + 1) line
parts_at line i d h = grind (arith, common_steps)

pub first_word : (line : List ℕ) (i d : ℕ) → i < length line → HasNoBlank (take i line) → get_or line i d ≡ 32 → words_of line ≡ take i line ∷ words_of (drop (i + 1) line)
first_word line i d h none is =
    let e : line ≡ take i line ++ 32 ∷ drop (i + 1) line = parts_at line i d h ∙ ap (λ b. take i line ++ b ∷ drop (i + 1) line) is in
    ap words_of e ∙ slice_split_at (λ b. eqb b 32) (take i line) 32 (drop (i + 1) line) none refl

pub not_blank : (b : ℕ) → (b ≡ 32 → ⊥) → eqb b 32 ≡ false
not_blank b h = grind (arith, nat_tests)

pub one_more : (line : List ℕ) (i d : ℕ) → i < length line → HasNoBlank (take i line) → (get_or line i d ≡ 32 → ⊥) → HasNoBlank (take (i + 1) line)
one_more line i d h none is = All-more (λ b. eqb b 32 ≡ false) line i d h none (not_blank (get_or line i d) is)
