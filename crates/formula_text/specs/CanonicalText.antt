-- The canonical text of a formula.
use Rattle.std.specs.Prelude.{ℕ, List, [], ◌++◌, slice_get, unwrap_or, codes}
use Rattle.formulas.specs.declared.formula.Formula.{Formula}
use Rattle.formulas.specs.declared.formula.Formula.TheOpen.{Formula-F}
use Rattle.formulas.specs.declared.formula.Formula.TheFolds.{fold-Formula}

-- the name of an atom
abbrev pub name_of : List (List ℕ) → ℕ → List ℕ
name_of names k = unwrap_or (slice_get names k) []

-- two texts with a connective between them, in brackets
abbrev pub joined_text : List ℕ → List ℕ → List ℕ → List ℕ
joined_text left mark right = codes "(" ++ left ++ mark ++ right ++ codes ")"

-- the text of a formula, from the texts of its parts
abbrev pub text_step : List (List ℕ) → Formula-F (List ℕ) → List ℕ
text_step names Formula-F.Top = codes "true"
text_step names Formula-F.Bottom = codes "false"
text_step names (Formula-F.Atom k) = name_of names k
text_step names (Formula-F.Not s) = codes "!" ++ s
text_step names (Formula-F.And s t) = joined_text s (codes " & ") t
text_step names (Formula-F.Or s t) = joined_text s (codes " | ") t
text_step names (Formula-F.Implies s t) = joined_text s (codes " -> ") t
text_step names (Formula-F.Iff s t) = joined_text s (codes " <-> ") t

-- the canonical text of a formula over atoms of these names
abbrev pub formula_text : List (List ℕ) → Formula → List ℕ
formula_text names f = fold-Formula (List ℕ) (text_step names) f
