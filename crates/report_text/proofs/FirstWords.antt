-- First words tell the lines of an answer apart.
use Rattle.std.proofs.Common.{◌≡◌, ◌≢◌, ℕ, ◌<◌, ◌⊎◌, inl, inr, List, [], ◌∷◌, codes, sym, ap, ◌∙◌, arith}
use Rattle.report_words.specs.Words.{words_of}
use Rattle.report_lines.specs.declared.kinds.Subject.TheVariants.{TheConstraint}
use Rattle.report_lines.specs.Items.{GaveUpLine, item_words}
use Rattle.report_lines.specs.Places.{Position, IsModelLine, IsNamedLine}
use Rattle.report_text.proofs.Unions.{IsNone}

heads : (a b : ℕ) (x y : List ℕ) (xs ys : List (List ℕ)) → (a ∷ x) ∷ xs ≡ (b ∷ y) ∷ ys → a ≡ b
heads a b x y xs ys e = cc

below : (a b : ℕ) (x y : List ℕ) (xs ys : List (List ℕ)) → a < b → (a ∷ x) ∷ xs ≡ (b ∷ y) ∷ ys → ⊥
below a b x y xs ys h e = let f : a ≡ b = heads a b x y xs ys e in omega arith

above : (a b : ℕ) (x y : List ℕ) (xs ys : List (List ℕ)) → b < a → (a ∷ x) ∷ xs ≡ (b ∷ y) ∷ ys → ⊥
above a b x y xs ys h e = let f : a ≡ b = heads a b x y xs ys e in omega arith

-- a line that begins with `model` is no other first line of an answer
pub no_other : (p : Position) (line : List ℕ) (rest : List (List ℕ)) → words_of line ≡ codes "model" ∷ rest → IsNone (λ x. IsNamedLine p TheConstraint x ⊎ (x ≡ GaveUpLine)) line
no_other p line rest is x (inl (inl e)) f = below 109 110 _ _ _ _ (omega arith) (sym is ∙ (f ∙ ap item_words e))
no_other p line rest is x (inl (inr e)) f = above 109 104 _ _ _ _ (omega arith) (sym is ∙ (f ∙ ap item_words e.1))
no_other p line rest is x (inr e) f = above 109 103 _ _ _ _ (omega arith) (sym is ∙ (f ∙ ap item_words e))

pub no_model : (p : Position) (line : List ℕ) → ((rest : List (List ℕ)) → words_of line ≢ codes "model" ∷ rest) → IsNone (IsModelLine p) line
no_model p line none x d f = none _ (f ∙ ap item_words d.1)

pub not_gave_up : (line : List ℕ) → words_of line ≢ codes "gave-up" ∷ [] → IsNone (λ x. x ≡ GaveUpLine) line
not_gave_up line none x e f = none (f ∙ ap item_words e)
