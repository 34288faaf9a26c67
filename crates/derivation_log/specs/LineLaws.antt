-- What step lines say.
use Rattle.std.specs.Prelude.{◌≡◌, ◌≢◌, ℕ, List, Result, Ok, Err}
use Rattle.report_words.specs.Words.{line_of}
use Rattle.clause_store.specs.Lits.{Ascends}
use Rattle.derivation_log.specs.declared.step.Step.{Step}
use Rattle.derivation_log.specs.declared.reading.StepReadStop.{StepReadStop}
use Rattle.derivation_log.specs.declared.reading.StepReadStop.TheVariants.{NoMemory}
use Rattle.derivation_log.specs.StepLines.{StepLine, IsStepLine, IsReading, HasLine, step_line, step_words}

abbrev pub OnceLaw : Type 0
OnceLaw = (line : List ℕ) (s t : StepLine) → IsStepLine line s → IsStepLine line t → s ≡ t

abbrev pub ReadBackLaw : Type 0
ReadBackLaw = (number : ℕ) (step : Step) (r : Result (ℕ × Step) StepReadStop) → HasLine number step → Ascends step.clause → r ≢ Err NoMemory → IsReading (line_of (step_words (step_line number step))) r → r ≡ Ok (number, step)
