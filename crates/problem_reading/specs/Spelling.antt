-- Which problem a text spells, and its first fault.
use Rattle.std.specs.Prelude.{◌≡◌, ◌≢◌, ℕ, ◌+◌, List, [], ◌∷◌, ◌++◌, length, unwrap_or, ◌⊎◌}
use Rattle.formulas.specs.declared.formula.Formula as formula
use Rattle.merge_model.specs.declared.problem.Problem.{Problem}
use Rattle.problem_lines.specs.Lines.{lines_of}
use Rattle.problem_reading.specs.declared.stop.TextFault.{TextFault}
use Rattle.problem_reading.specs.declared.stop.TextKind.TheVariants.{NoAtoms, NoAgent}
use Rattle.problem_reading.specs.declared.stop.TextStop.{TextStop}
use Rattle.problem_reading.specs.declared.stop.TextStop.TheVariants.{Fault, NoMemory}
use Rattle.problem_reading.specs.Drafts.{Draft, empty_draft}
use Rattle.problem_reading.specs.Faults.{IsLineFault}
use Rattle.problem_reading.specs.Saying.{Adds}

-- lines without a fault, and what they declare
pub data Declares : List (List ℕ) → Draft → Type 0 where
  no_lines : Declares [] empty_draft
  one_more : {lines : List (List ℕ)} {d : Draft} (line : List ℕ) (e : Draft) → Declares lines d → Adds d line e → Declares (lines ++ line ∷ []) e

-- the problem of what is declared; without a constraint line the constraint is true
pub record IsProblemOf (d : Draft) (p : Problem) : Type 0 where
  pub some_atom : d.atoms ≢ []
  pub some_agent : d.agents ≢ []
  pub atoms : p.atoms ≡ d.atoms
  pub constraint : p.constraint ≡ unwrap_or d.constraint formula.Top
  pub agents : p.agents ≡ d.agents
  pub asks : p.asks ≡ d.asks

-- the fault of the whole of what is declared
abbrev pub IsEndFault : Draft → TextFault → Type 0
IsEndFault d fault =
    (fault.line ≡ 0) × (((fault.kind ≡ NoAtoms) × (d.atoms ≡ [])) ⊎ ((fault.kind ≡ NoAgent) × (d.atoms ≢ []) × (d.agents ≡ [])))

-- why the end of a text stops its reading
abbrev pub EndsAt : Draft → TextStop → Type 0
EndsAt d (Fault fault) = IsEndFault d fault
EndsAt d NoMemory = ⊥

-- no line of the text has a fault, and it spells the problem
abbrev pub Spelled : List ℕ → Problem → Type 0
Spelled bytes p = (d : Draft) × Declares (lines_of bytes) d × IsProblemOf d p

-- the least fault of the first line that has one, by the lines before it
pub record IsFirstLineFault (bytes : List ℕ) (fault : TextFault) : Type 0 where
  pub before : List (List ℕ)
  pub line : List ℕ
  pub after : List (List ℕ)
  pub draft : Draft
  pub lines : lines_of bytes ≡ before ++ line ∷ after
  pub declares : Declares before draft
  pub number : fault.line ≡ length before + 1
  pub least : IsLineFault draft line fault.kind

-- the first fault of a text: that of a line, or where none has one, that of the whole
abbrev pub FirstFault : List ℕ → TextFault → Type 0
FirstFault bytes fault = IsFirstLineFault bytes fault ⊎ ((d : Draft) × Declares (lines_of bytes) d × IsEndFault d fault)

-- why a text is not read; want of memory says nothing
abbrev pub StopsText : List ℕ → TextStop → Type 0
StopsText bytes (Fault fault) = FirstFault bytes fault
StopsText bytes NoMemory = Unit {0}
