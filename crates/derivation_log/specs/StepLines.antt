-- What a step line says, and how it is written.
use Rattle.std.specs.Prelude.{◌≡◌, ℕ, ◌≤◌, ◌<◌, ◌^◌, ◌==◌, Bool, true, false, ◌&&◌, ◌||◌, not, nat_lt, nat_le, List, [], ◌∷◌, ◌++◌, map, codes, decimal, Result, Ok, Err}
use Rattle.std.specs.List.{flat_map, AllByRecursion}
use Rattle.report_words.specs.declared.numbers.WideLit.{WideLit}
use Rattle.report_words.specs.Numbers.{HasNumeral, IsLiteral, literal_word}
use Rattle.report_words.specs.Words.{line_of}
use Rattle.clause_store.specs.declared.lit.Lit.{Lit}
use Rattle.derivation_log.specs.declared.wide.WideLink.{WideLink}
use Rattle.derivation_log.specs.declared.wide.WideStep.{WideStep}
use Rattle.derivation_log.specs.declared.step.Link.{Link}
use Rattle.derivation_log.specs.declared.step.Step.{Step}
use Rattle.derivation_log.specs.declared.step.StepKind.{StepKind}
use Rattle.derivation_log.specs.declared.step.StepKind.TheVariants.{Learned, Claimed}
use Rattle.derivation_log.specs.declared.reading.StepReadStop.{StepReadStop}
use Rattle.derivation_log.specs.declared.reading.StepReadStop.TheVariants as stops

-- a step line without where it lies in memory: its literals may have any number
pub record StepLine : Type 0 where
  pub number : ℕ
  pub kind : StepKind
  pub clause : List WideLit
  pub first : ℕ
  pub chain : List WideLink

abbrev pub seen : WideStep → StepLine
seen s = record { number = s.number; kind = s.kind; clause = s.clause.items; first = s.first; chain = s.chain.items }

abbrev pub widen : Lit → WideLit
widen l = record { var = l.var; positive = l.positive }

abbrev pub widen_link : Link → WideLink
widen_link l = record { pivot = widen l.pivot; number = l.number }

-- a step of a number, as its line says it
abbrev pub step_line : ℕ → Step → StepLine
step_line number step = record { number = number; kind = step.kind; clause = map widen step.clause; first = step.first; chain = map widen_link step.chain }

abbrev pub kind_word : StepKind → List ℕ
kind_word Learned = codes "learned"
kind_word Claimed = codes "claimed"

abbrev pub link_words : WideLink → List (List ℕ)
link_words l = literal_word l.pivot ∷ decimal l.number ∷ []

-- the words of a step line
abbrev pub step_words : StepLine → List (List ℕ)
step_words s = codes "step" ∷ decimal s.number ∷ kind_word s.kind ∷ (map literal_word s.clause ++ codes "0" ∷ decimal s.first ∷ flat_map link_words s.chain)

pub record IsLink (l : WideLink) : Type 0 where
  pub pivot : IsLiteral l.pivot
  pub number : HasNumeral l.number

-- its numbers have at most 19 digits, and those of literals are not 0
pub record IsStep (s : StepLine) : Type 0 where
  pub number : HasNumeral s.number
  pub clause : AllByRecursion IsLiteral s.clause
  pub first : HasNumeral s.first
  pub chain : AllByRecursion IsLink s.chain

-- variables are numbered below it
abbrev pub number_limit : ℕ
number_limit = 2 ^ 32

-- a literal with a number that is too great
abbrev pub is_big : WideLit → Bool
is_big l = nat_le number_limit l.var

abbrev pub any_big : List WideLit → Bool
any_big [] = false
any_big (l ∷ ls) = is_big l || any_big ls

abbrev pub any_big_pivot : List WideLink → Bool
any_big_pivot [] = false
any_big_pivot (l ∷ ls) = is_big l.pivot || any_big_pivot ls

abbrev pub has_big : StepLine → Bool
has_big s = any_big s.clause || any_big_pivot s.chain

-- the order of literals: by variable, positive first
abbrev pub is_before : WideLit → WideLit → Bool
is_before a b = nat_lt a.var b.var || ((a.var == b.var) && (a.positive && not b.positive))

abbrev pub rises_after : WideLit → List WideLit → Bool
rises_after a [] = true
rises_after a (b ∷ ls) = is_before a b && rises_after b ls

-- the literals are sorted and distinct
abbrev pub rises : List WideLit → Bool
rises [] = true
rises (a ∷ ls) = rises_after a ls

-- the line spells this step
pub record IsStepLine (line : List ℕ) (s : StepLine) : Type 0 where
  pub is_step : IsStep s
  pub spelled : line ≡ line_of (step_words s)

-- the answer to the reading of a line
abbrev pub IsReading : List ℕ → Result (ℕ × Step) StepReadStop → Type 0
IsReading line (Ok read) = IsStepLine line (step_line read.0 read.1) × (has_big (step_line read.0 read.1) ≡ false) × (rises (map widen read.1.clause) ≡ true)
IsReading line (Err stops.Form) = (s : StepLine) → IsStepLine line s → ⊥
IsReading line (Err stops.TooBig) = (s : StepLine) × IsStepLine line s × (has_big s ≡ true)
IsReading line (Err stops.Unsorted) = (s : StepLine) × IsStepLine line s × (has_big s ≡ false) × (rises s.clause ≡ false)
IsReading line (Err stops.NoMemory) = Unit {0}

-- a step that has a line: the literals are of variables, and the numbers have at most 19 digits
pub record HasLine (n : ℕ) (s : Step) : Type 0 where
  pub number : HasNumeral n
  pub clause : AllByRecursion (λ l. (1 ≤ l.var) × (l.var < number_limit)) s.clause
  pub first : HasNumeral s.first
  pub pivots : AllByRecursion (λ link. (1 ≤ link.pivot.var) × (link.pivot.var < number_limit)) s.chain
  pub links : AllByRecursion (λ link. HasNumeral link.number) s.chain
