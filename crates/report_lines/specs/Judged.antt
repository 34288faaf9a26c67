-- Which lines are right, which are wrong and of which kind, and what a whole text is.
use Rattle.std.specs.Prelude.{◌≡◌, ◌≢◌, ℕ, ◌+◌, List, [], ◌∷◌, ◌++◌, length, eqb}
use Rattle.std.specs.List.{slice_split}
use Rattle.report_words.specs.Words.{words_of}
use Rattle.report_lines.specs.declared.kinds.Due.TheVariants as due
use Rattle.report_lines.specs.declared.kinds.Kind.{Kind}
use Rattle.report_lines.specs.declared.kinds.Kind.TheVariants as kind
use Rattle.report_lines.specs.declared.kinds.RefusedKind.{RefusedKind}
use Rattle.report_lines.specs.declared.kinds.RefusedKind.TheVariants as refused
use Rattle.report_lines.specs.Items.{Item, item_words}
use Rattle.report_lines.specs.Places.{Position, start, IsDue}
use Rattle.report_lines.specs.Holding.{kind_of}
use Rattle.report_lines.specs.Following.{LeadsTo, Fails}

-- the line is an item of D that is right at p, and q stands after it
pub record IsRightAs (D : Item → Type 0) (p : Position) (line : List ℕ) (q : Position) : Type 0 where
  pub item : Item
  pub of : D item
  pub words : words_of line ≡ item_words item
  pub leads : LeadsTo p item q

-- the line is wrong at p: it is no item of D, or what must hold of the item does not
pub data IsWrongAs (D : Item → Type 0) (p : Position) (line : List ℕ) (k : RefusedKind) : Type 0 where
  absent : ((x : Item) → D x → words_of line ≢ item_words x) → k ≡ refused.Form → IsWrongAs D p line k
  faulty : (x : Item) → D x → words_of line ≡ item_words x → Fails p x → k ≡ kind_of x → IsWrongAs D p line k

abbrev pub IsRight : Position → List ℕ → Position → Type 0
IsRight p line q = IsRightAs (IsDue p) p line q

abbrev pub IsWrong : Position → List ℕ → RefusedKind → Type 0
IsWrong p line k = IsWrongAs (IsDue p) p line k

-- the lines of a text, and the piece after its last line feed
abbrev pub pieces_of : List ℕ → List (List ℕ)
pieces_of text = slice_split (λ b. eqb b 10) text

-- the lines are right, one after the other
abbrev pub AreRight : Position → List (List ℕ) → Position → Type 0
AreRight p [] q = p ≡ q
AreRight p (line ∷ lines) q = (m : Position) × IsRight p line m × AreRight m lines q

-- what comes after right lines is wrong at once: a piece that is no line, or nothing where a line is due; a line after
-- the end; a wrong line
pub data IsWrongNext (q : Position) (k : RefusedKind) : List (List ℕ) → Type 0 where
  unended : (piece : List ℕ) → (q.due ≡ due.Over → piece ≡ [] → ⊥) → k ≡ refused.Ended → IsWrongNext q k (piece ∷ [])
  after_end : (line next : List ℕ) (more : List (List ℕ)) → q.due ≡ due.Over → k ≡ refused.Ended → IsWrongNext q k (line ∷ next ∷ more)
  wrong_line : (line next : List ℕ) (more : List (List ℕ)) → q.due ≢ due.Over → IsWrong q line k → IsWrongNext q k (line ∷ next ∷ more)

-- the first line that is not right after those before it, and its kind
pub record IsFirstWrong (text : List ℕ) (line : ℕ) (k : RefusedKind) : Type 0 where
  pub before : List (List ℕ)
  pub rest : List (List ℕ)
  pub place : Position
  pub whole : pieces_of text ≡ before ++ rest
  pub right : AreRight start before place
  pub number : line ≡ length before + 1
  pub wrong : IsWrongNext place k rest

-- each line is right, the last one ends the report, and the answer is of this kind
pub record IsAccepted (text : List ℕ) (k : Kind) : Type 0 where
  pub lines : List (List ℕ)
  pub place : Position
  pub whole : pieces_of text ≡ lines ++ [] ∷ []
  pub right : AreRight start lines place
  pub over : place.due ≡ due.Over
  pub answer : k ≡ place.kind

abbrev pub IsSpent : List ℕ → Type 0
IsSpent text = IsAccepted text kind.Spent

-- the items, each due and right after those before it, lead from p to q
abbrev pub Run : Position → List Item → Position → Type 0
Run p [] q = p ≡ q
Run p (x ∷ xs) q = (m : Position) × IsDue p x × LeadsTo p x m × Run m xs q

-- the items are those of a whole report
pub record EndsBy (xs : List Item) (k : Kind) : Type 0 where
  pub place : Position
  pub run : Run start xs place
  pub over : place.due ≡ due.Over
  pub answer : k ≡ place.kind
