-- A count of open brackets, token by token.
use Rattle.std.proofs.Common.{◌≡◌, ℕ, ◌≤◌, List, [], ◌∷◌, max, nat_cmp, ap, sym, ◌∙◌, arith}
use Rattle.std.specs.Ordering.{ord_max}
use Rattle.std.proofs.lemmas.Bool.Decides.{nat_tests}
use Rattle.line_tokens.specs.Lexemes.{Lexeme}
use Rattle.formula_grammar.specs.Symbols.{opened, most_open}

at_least : (n : ℕ) (ts : List Lexeme) → n ≤ most_open n ts
at_least n [] = omega arith
at_least n (t ∷ ts) = omega arith

above : (most before after new far : ℕ) → new ≡ max most after → before ≤ most → after ≤ far → max new far ≡ max most (max before far)
above most before after new far e h i = omega arith

pub bracket_step : (most before after new : ℕ) (t : Lexeme) (rest ts : List Lexeme) → ts ≡ t ∷ rest → after ≡ opened before t →
    new ≡ max most after → before ≤ most → max new (most_open after rest) ≡ max most (most_open before ts)
bracket_step most before after new t rest ts cut step e h =
    above most before after new (most_open after rest) e h (at_least after rest)
    ∙ ap (λ n. max most (max before (most_open n rest))) step ∙ ap (λ (xs : List Lexeme). max most (most_open before xs)) (sym cut)

pub greatest : (a b : ℕ) → ord_max nat_cmp a b ≡ max a b
greatest a b = grind (arith, nat_tests)
