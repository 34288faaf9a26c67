-- Words of lines, one after another.
use Rattle.std.proofs.Common.{rules, ◌≡◌, ℕ, Bool, false, List, [], ◌∷◌, ◌++◌, length, map, decimal, None, Some, sym, ◌∙◌}
use Rattle.std.specs.Prelude.{IsTrue}
use Rattle.std.specs.List.{AllByRecursion}
use Rattle.std.proofs.lemmas.List.{append-nil}
use Rattle.report_words.specs.Numbers.{HasNumeral, number_at}
use Rattle.report_words.proofs.Numerals.{number_found, number_again}
use Rattle.formula_text.specs.ValuationWords.{valuation_word}
use Rattle.report_lines.specs.LineReading.{each_at, valuation_at}
use Rattle.report_lines.proofs.Elements.{each_found, row_none, row_same, valuation_found, valuation_again}

-- what does not go on so is not this
pub not_rest : (line : List (List ℕ)) (a : List ℕ) (ws us : List (List ℕ)) → line ≡ a ∷ ws → ((rest : List (List ℕ)) → ws ≡ us ++ rest → ⊥) → line ≡ a ∷ us → ⊥
not_rest line a ws us e none f = let g : ws ≡ us = cc in none [] (g ∙ sym (append-nil us))

pub numbers_found : (ws : List (List ℕ)) (ns : List ℕ) → each_at number_at ws ≡ Some ns → (ws ≡ map decimal ns) × AllByRecursion HasNumeral ns
numbers_found ws ns e = each_found number_at decimal HasNumeral number_found ws ns e

pub no_numbers : (line : List (List ℕ)) (head : List ℕ) (ws : List (List ℕ)) → line ≡ head ∷ ws → each_at number_at ws ≡ None → (ns : List ℕ) → AllByRecursion HasNumeral ns → line ≡ head ∷ map decimal ns → ⊥
no_numbers line head ws e none ns h f = row_none number_at decimal HasNumeral number_again line head ws e none ns h f

pub same_numbers : (line : List (List ℕ)) (head : List ℕ) (ws : List (List ℕ)) (all : List ℕ) → line ≡ head ∷ ws → each_at number_at ws ≡ Some all → (ns : List ℕ) → AllByRecursion HasNumeral ns → line ≡ head ∷ map decimal ns → all ≡ ns
same_numbers line head ws all e some ns h f = row_same number_at decimal HasNumeral number_again line head ws all e some ns h f

module _ (n : ℕ) where
  pub valuations_found : (ws : List (List ℕ)) (vs : List (List Bool)) → each_at (valuation_at n) ws ≡ Some vs → (ws ≡ map valuation_word vs) × AllByRecursion (λ v. length v ≡ n) vs
  valuations_found ws vs e = each_found (valuation_at n) valuation_word (λ v. length v ≡ n) (valuation_found n) ws vs e

  pub no_valuations : (line : List (List ℕ)) (head : List ℕ) (ws : List (List ℕ)) → line ≡ head ∷ ws → each_at (valuation_at n) ws ≡ None → (vs : List (List Bool)) → AllByRecursion (λ v. length v ≡ n) vs → line ≡ head ∷ map valuation_word vs → ⊥
  no_valuations line head ws e none vs h f = row_none (valuation_at n) valuation_word (λ v. length v ≡ n) (valuation_again n) line head ws e none vs h f

  pub same_valuations : (line : List (List ℕ)) (head : List ℕ) (ws : List (List ℕ)) (all : List (List Bool)) → line ≡ head ∷ ws → each_at (valuation_at n) ws ≡ Some all → (vs : List (List Bool)) → AllByRecursion (λ v. length v ≡ n) vs → line ≡ head ∷ map valuation_word vs → all ≡ vs
  same_valuations line head ws all e some vs h f = row_same (valuation_at n) valuation_word (λ v. length v ≡ n) (valuation_again n) line head ws all e some vs h f

pub not_true : IsTrue false → ⊥
not_true h = search rules
