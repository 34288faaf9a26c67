-- What stands while the text of a report comes in pieces.
use Rattle.std.specs.Prelude.{◌≡◌, ℕ, ◌+◌, List, ◌++◌, length}
use Rattle.report_lines.specs.Places.{Position, start}
use Rattle.report_lines.specs.Judged.{AreRight, pieces_of}

-- what has come is right lines, which lead to q, and a rest, whatever follows; the next line has this number
pub record Open (text rest : List ℕ) (q : Position) (number : ℕ) : Type 0 where
  pub before : List (List ℕ)
  pub whole : (more : List ℕ) → pieces_of (text ++ more) ≡ before ++ pieces_of (rest ++ more)
  pub right : AreRight start before q
  pub count : number ≡ length before + 1
