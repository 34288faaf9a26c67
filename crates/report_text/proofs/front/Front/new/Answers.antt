use Rattle.std.proofs.Common.{List, ℕ, refl, sym, subst}
use Rattle.problem_reading.specs.Drafts.{empty_draft}
use Rattle.problem_reading.specs.Spelling.{Declares, no_lines}
use Rattle.report_text.proofs.front.Front.new.Goals as goal

pub returns : goal.returns
returns c = record { place = refl; declared = subst (λ (ls : List (List ℕ)). Declares ls empty_draft) (sym c.new.ensures) no_lines; come = tt }
