-- What a writer appends, and what it leaves where memory is refused.
use Rattle.std.specs.Prelude.{◌≡◌, ℕ, List, ◌++◌, Result, MatchResult}

-- old has grown to new by a part of the text from its start
pub record GrowsWithin (old new text : List ℕ) : Type 0 where
  pub part : List ℕ
  pub rest : List ℕ
  pub grown : new ≡ old ++ part
  pub begins : text ≡ part ++ rest

-- the text was appended; where memory was refused, a part of it from its start
abbrev pub Writes : {T E : Type 0} → Result T E → List ℕ → List ℕ → List ℕ → Type 0
Writes result old new text = MatchResult result (λ _. new ≡ old ++ text) (λ _. GrowsWithin old new text)
