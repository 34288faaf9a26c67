-- What follows from the definitions of reports alone.
use Rattle.std.specs.Prelude.{◌≡◌, ℕ, List, [], ◌∷◌, ◌++◌, map}
use Rattle.report_lines.specs.declared.kinds.Due.{Due}
use Rattle.report_lines.specs.declared.kinds.Kind.{Kind}
use Rattle.report_lines.specs.declared.kinds.RefusedKind.{RefusedKind}
use Rattle.report_lines.specs.Items.{Item, item_words, item_line}
use Rattle.report_lines.specs.Places.{Position, DueAt}
use Rattle.report_lines.specs.Judged.{IsAccepted, IsFirstWrong, EndsBy, pieces_of}

-- at most one line that is due has given words
abbrev pub OneItemLaw : Type 0
OneItemLaw = (d : Due) (p : Position) (x y : Item) → DueAt d p x → DueAt d p y → item_words x ≡ item_words y → x ≡ y

-- no text is both accepted and refused
abbrev pub NeverBothLaw : Type 0
NeverBothLaw = (text : List ℕ) (answer : Kind) (line : ℕ) (k : RefusedKind) → IsAccepted text answer → IsFirstWrong text line k → ⊥

-- a text has at most one first wrong line, and that line one kind
abbrev pub OnlyOnceLaw : Type 0
OnlyOnceLaw = (text : List ℕ) (m n : ℕ) (k j : RefusedKind) → IsFirstWrong text m k → IsFirstWrong text n j → (m ≡ n) × (k ≡ j)

-- an accepted text is the lines of items, each due and right after those before it
abbrev pub ItemsLaw : Type 0
ItemsLaw = (text : List ℕ) (answer : Kind) → IsAccepted text answer → (xs : List Item) × (pieces_of text ≡ map item_line xs ++ [] ∷ []) × EndsBy xs answer
