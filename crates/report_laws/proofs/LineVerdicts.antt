-- Each line is right or wrong where a line is due.
use Rattle.std.proofs.Common.{◌≡◌, ℕ, Bool, true, false, ◌⊎◌, inl, inr, List, refl, subst}
use Rattle.problem_reading.specs.declared.said.Said.{Said}
use Rattle.problem_reading.specs.declared.said.Said.TheVariants.{Nothing, Names, Condition, Belief, Query}
use Rattle.problem_reading.specs.Canonical.{IsWritten}
use Rattle.problem_reading.specs.Drafts.{Draft}
use Rattle.problem_reading.specs.Saying as saying
use Rattle.problem_reading.proofs.OneSaid.{one_said}
use Rattle.problem_laws.proofs.LineChoice.{LineChoice, line_choice}
use Rattle.problem_laws.proofs.LineLaws.{never_both}
use Rattle.report_words.specs.Words.{words_of}
use Rattle.report_lines.specs.declared.kinds.RefusedKind.{RefusedKind}
use Rattle.report_lines.specs.declared.kinds.RefusedKind.TheVariants as refused
use Rattle.report_lines.specs.Items.{Item, ProblemLine, item_words}
use Rattle.report_lines.specs.Places.{Position, IsDue}
use Rattle.report_lines.specs.Holding.{holds, kind_of}
use Rattle.report_lines.specs.Following.{LeadsTo, Fails, after, after_said}
use Rattle.report_lines.specs.Judged.{IsRight, IsWrong, absent, faulty}
use Rattle.report_laws.proofs.Choices.{Decided, Choice, same_word}
use Rattle.report_laws.proofs.Dues.{due_choice}

-- what stands after an item, or that what must hold of it does not
abbrev Turn : Position → Item → Type 0
Turn p x = ((q : Position) × LeadsTo p x q) ⊎ Fails p x

is_written : (d : Draft) (line : List ℕ) (said : Said) → Decided (IsWritten d line said)
is_written d line Nothing = inr (λ h. h)
is_written d line (Names atoms) = same_word line _
is_written d line (Condition f) = same_word line _
is_written d line (Belief agent) = same_word line _
is_written d line (Query f) = same_word line _

by_written : (p : Position) (line : List ℕ) (said : Said) → saying.Says p.draft line said → Decided (IsWritten p.draft line said) → Turn p (ProblemLine line)
by_written p line said says (inl h) = inl (after_said p said, (said, (says, h), refl))
by_written p line said says (inr h) = inr (λ other c. h (subst (λ (s : Said). IsWritten p.draft line s) (one_said p.draft line other said c.0 says) c.1))

by_line : (p : Position) (line : List ℕ) → LineChoice p.draft line → Turn p (ProblemLine line)
by_line p line (inl h) = by_written p line h.1.0 h.1.1 (is_written p.draft line h.1.0)
by_line p line (inr h) = inr (λ said c. never_both p.draft line (saying.after p.draft said) h.0 (said, c.0, refl) h.1)

abbrev Leads : Bool → Position → Position → Type 0
Leads b q r = (b ≡ true) × (r ≡ q)

by_test : (b : Bool) (q : Position) → ((r : Position) × Leads b q r) ⊎ (b ≡ false)
by_test true q = inl (q, (refl, refl))
by_test false q = inr refl

turn : (p : Position) (x : Item) → Turn p x
turn p (ProblemLine line) = by_line p line (line_choice p.draft line)
turn p x = by_test (holds p x) (after p x)

-- a line is right, and leads on, or is wrong
abbrev pub LineVerdict : Position → List ℕ → Type 0
LineVerdict p line = ((q : Position) × IsRight p line q) ⊎ ((k : RefusedKind) × IsWrong p line k)

of_turn : (p : Position) (line : List ℕ) (x : Item) → IsDue p x → words_of line ≡ item_words x → Turn p x → LineVerdict p line
of_turn p line x d w (inl h) = inl (h.0, record { item = x; of = d; words = w; leads = h.1 })
of_turn p line x d w (inr h) = inr (kind_of x, faulty x d w h refl)

of_choice : (p : Position) (line : List ℕ) → Choice (IsDue p) (words_of line) → LineVerdict p line
of_choice p line (inl h) = of_turn p line h.0 h.1 h.2 (turn p h.0)
of_choice p line (inr h) = inr (refused.Form, absent h refl)

pub line_verdict : (p : Position) (line : List ℕ) → LineVerdict p line
line_verdict p line = of_choice p line (due_choice p.due p line)
