-- The lines of a report, entry by entry.
use Rattle.std.specs.Prelude.{ℕ, ◌+◌, Bool, true, false, List, [], ◌∷◌, ◌++◌, Option, codes, decimal}
use Rattle.merge_model.specs.declared.answer.Answer.{Answer}
use Rattle.merge_model.specs.declared.answer.Verdict.{Verdict}
use Rattle.merge_model.specs.declared.answer.Verdict.TheVariants.{Yes, No}
use Rattle.merge_model.specs.declared.operator.AggregatorName.{AggregatorName}
use Rattle.merge_model.specs.declared.operator.DistanceName.{DistanceName}
use Rattle.merge_model.specs.declared.problem.Problem.{Problem}
use Rattle.derivation_log.specs.declared.step.Step.{Step}
use Rattle.derivation_log.specs.StepLines.{step_line}
use Rattle.report_words.specs.Words.{line_of}
use Rattle.report_lines.specs.declared.kinds.Subject.TheVariants.{BaseOf}
use Rattle.report_lines.specs.declared.report.Proof.{Proof}
use Rattle.report_lines.specs.declared.report.Proof.TheVariants.{Constraint, Base, Far, Least, Holds}
use Rattle.report_lines.specs.Items.{Item, VerdictLine, LogLine}
use Rattle.report_lines.specs.Parts.{shown_items, named_item, front_items, items_text}

-- the lines of the verdict on query q
abbrev pub verdict_entry : ℕ → Verdict → List Item
verdict_entry q Yes = VerdictLine q true ∷ []
verdict_entry q (No shown) = VerdictLine q false ∷ shown_items shown

-- the line of the base of agent i
abbrev pub base_entry : ℕ → Option (List Bool) → List Item
base_entry i entry = named_item (BaseOf i) entry ∷ []

-- the line of the step of number n
abbrev pub step_entry : ℕ → Step → List Item
step_entry n step = LogLine (step_line n step) ∷ []

-- the words of a proof: its claim and the number of its step
abbrev pub proof_words : Proof → List (List ℕ)
proof_words (Constraint n) = codes "constraint" ∷ decimal n ∷ []
proof_words (Base i n) = codes "agent" ∷ decimal (i + 1) ∷ decimal n ∷ []
proof_words (Far k i n) = codes "far" ∷ decimal k ∷ decimal (i + 1) ∷ decimal n ∷ []
proof_words (Least j n) = codes "least" ∷ decimal (j + 1) ∷ decimal n ∷ []
proof_words (Holds q n) = codes "yes" ∷ decimal (q + 1) ∷ decimal n ∷ []

-- its line, with the line feed
abbrev pub proof_text : Proof → List ℕ
proof_text p = line_of (codes "shown" ∷ proof_words p) ++ codes "\n"

-- the lines of a report that stand before its log
abbrev pub front_text : DistanceName → AggregatorName → ℕ → Problem → Answer → List ℕ
front_text distance aggregator conflicts problem answer =
    items_text (front_items
    (record { distance = distance; aggregator = aggregator; conflicts = conflicts })
    (record { problem = problem; answer = answer; steps = []; shown = [] }))
