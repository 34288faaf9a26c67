-- A step line after clauses that are known.
use Rattle.std.specs.Prelude.{◌≡◌, ℕ, ◌==◌, nat_le, Bool, true, false, not, ◌&&◌, List, [], ◌∷◌, ◌++◌, length, map, is_none, None, Result, Ok, Err}
use Rattle.std.specs.List.{list_all}
use Rattle.report_words.specs.declared.numbers.WideLit.{WideLit}
use Rattle.clause_store.specs.declared.lit.Lit.{Lit}
use Rattle.clause_store.specs.Clauses.{Clauses}
use Rattle.derivation_log.specs.declared.wide.WideLink.{WideLink}
use Rattle.derivation_log.specs.declared.step.Link.{Link}
use Rattle.derivation_log.specs.declared.step.Step.{Step}
use Rattle.derivation_log.specs.declared.step.StepKind.{StepKind}
use Rattle.derivation_log.specs.Logs.{Follows}
use Rattle.derivation_log.specs.StepLines.{StepLine, IsStepLine, has_big, rises, step_line}
use Rattle.log_checker.specs.Verdicts.{verdict_of}
use Rattle.log_lines.specs.declared.taking.TakeStop.{TakeStop}
use Rattle.log_lines.specs.declared.taking.TakeStop.TheVariants as stops

abbrev pub narrow : WideLit → Lit
narrow l = record { var = l.var; positive = l.positive }

abbrev pub narrow_link : WideLink → Link
narrow_link l = record { pivot = narrow l.pivot; number = l.number }

-- the step of a step line, where no literal is too big
abbrev pub narrow_step : StepLine → Step
narrow_step s = record { kind = s.kind; clause = map narrow s.clause; first = s.first; chain = map narrow_link s.chain }

-- the step has the next number, its literals are sorted and distinct and over these variables, and it follows
abbrev pub is_step : ℕ → List (List Lit) → StepLine → Bool
is_step vars known s =
    (s.number == length known)
    && (not (has_big s)
    && (rises s.clause
    && (list_all (λ (l : Lit). nat_le l.var vars) (narrow_step s).clause
    && is_none (verdict_of known (narrow_step s)))))

-- what is known once a step is taken in
abbrev pub after_step : Clauses → StepLine → Clauses
after_step known s = record known { list = known.list ++ (narrow_step s).clause ∷ [] }

-- a line is taken in, is no step line, or is one that is not right here
abbrev pub IsTaken : Clauses → List ℕ → Clauses → Result StepKind TakeStop → Type 0
IsTaken known line new (Ok kind) =
    (s : StepLine) × IsStepLine line s × (is_step known.vars known.list s ≡ true) × (new ≡ after_step known s) × (kind ≡ s.kind)
IsTaken known line new (Err stops.Form) = (s : StepLine) → IsStepLine line s → ⊥
IsTaken known line new (Err stops.Step) = (s : StepLine) × IsStepLine line s × (is_step known.vars known.list s ≡ false)
IsTaken known line new (Err stops.NoMemory) = Unit {0}

-- a step without a verdict against it follows
abbrev pub FollowsLaw : Type 0
FollowsLaw = (known : List (List Lit)) (step : Step) → verdict_of known step ≡ None → Follows known step

-- the step of the line that a step is written as is that step
abbrev pub NarrowLaw : Type 0
NarrowLaw = (n : ℕ) (step : Step) → narrow_step (step_line n step) ≡ step
