-- What stands after a line.
use Rattle.std.specs.Prelude.{◌≡◌, ℕ, ◌+◌, ◌==◌, nat_lt, Bool, true, false, if◌then◌else◌, List, [], ◌∷◌, ◌++◌, drop}
use Rattle.merge_encoding.specs.Claims.{Assertion, NoBreaker}
use Rattle.problem_reading.specs.declared.said.Said.{Said}
use Rattle.problem_reading.specs.declared.said.Said.TheVariants.{Nothing, Names, Condition, Belief, Query}
use Rattle.problem_reading.specs.Canonical.{IsWritten}
use Rattle.problem_reading.specs.Saying as saying
use Rattle.report_lines.specs.declared.kinds.Due.{Due}
use Rattle.report_lines.specs.declared.kinds.Due.TheVariants as due
use Rattle.report_lines.specs.declared.kinds.Kind.TheVariants as kind
use Rattle.report_lines.specs.declared.kinds.Subject.{Subject}
use Rattle.report_lines.specs.Items.{Item, HeadLine, DistanceLine, AggregatorLine, ConflictsLine, ProblemLine, ModelLine, VectorLine, NearestLine, MeasureLine, VerdictLine, NoModelLine, HasModelLine, GaveUpLine, MainLine, LogLine, ShownLine, EndLine}
use Rattle.report_lines.specs.ClaimsDue.{DueClaim, of_first, far_claims, least_claims, lack_of}
use Rattle.report_lines.specs.Places.{Position, agents_at, asks_at, values_at}
use Rattle.derivation_log.specs.Logs.{is_learned}
use Rattle.derivation_log.specs.StepLines.{StepLine}
use Rattle.log_lines.specs.Spending.{Noted}
use Rattle.log_lines.specs.Taking.{narrow_step}
use Rattle.report_lines.specs.Holding.{holds, named_with}

abbrev pub claimed : Position → Assertion → List DueClaim
claimed p says = p.claims ++ of_first says ∷ []

-- due once so many verdicts are given
abbrev pub due_after_verdicts : Position → ℕ → Due
due_after_verdicts p k = if nat_lt k (asks_at p) then due.Verdict else due.Main

-- due once so many agents are named
abbrev pub due_after_named : Position → ℕ → Due
due_after_named p i = if nat_lt i (agents_at p) then due.Named else due.Main

abbrev pub due_after_said : Said → Due
due_after_said Nothing = due.Atoms
due_after_said (Names atoms) = due.Constraint
due_after_said (Condition f) = due.FirstAgent
due_after_said (Belief agent) = due.Agents
due_after_said (Query f) = due.Asks

abbrev pub after_said : Position → Said → Position
after_said p said = record p { due = due_after_said said; draft = saying.after p.draft said }

abbrev pub after_verdict : Position → ℕ → Bool → Position
after_verdict p q true = record p { due = due_after_verdicts p (q + 1); verdicts = q + 1; claims = claimed p (NoBreaker q (values_at p)) }
after_verdict p q false = record p { due = due.Model; verdicts = q + 1 }

abbrev pub after_named : Position → Subject → Position
after_named p s = record p { due = due_after_named p (named_with s); kind = kind.Inconsistent; named = named_with s }

-- what is kept of a step
abbrev pub noted : StepLine → Noted
noted s = record { learned = is_learned s.kind; clause = (narrow_step s).clause }

abbrev pub after : Position → Item → Position
after p HeadLine = record p { due = due.Distance }
after p (DistanceLine d) = record p { due = due.Aggregator; distance = d }
after p (AggregatorLine a) = record p { due = due.Conflicts; aggregator = a }
after p (ConflictsLine b) = record p { due = due.Atoms; conflicts = b }
after p (ProblemLine line) = p
after p (ModelLine w) = record p { due = due.Vector; model = w }
after p (VectorLine ds) = record p {
  due = due.Nearest;
  vector = ds;
  best = if p.verdicts == 0 then ds else p.best;
  claims = p.claims ++ far_claims p.verdicts p.model ds;
}
after p (NearestLine ws) = record p { due = if p.verdicts == 0 then due.Measure else due_after_verdicts p p.verdicts }
after p (MeasureLine rs) = record p { due = due_after_verdicts p 0; claims = p.claims ++ least_claims (values_at p) }
after p (VerdictLine q given) = after_verdict p q given
after p (NoModelLine s) = record (after_named p s) { claims = claimed p (lack_of s) }
after p (HasModelLine s w) = after_named p s
after p GaveUpLine = record p { due = due.Main; kind = kind.Spent }
after p (MainLine v c) = record p { due = due.Log }
after p (LogLine s) = record p { steps = p.steps ++ noted s ∷ [] }
after p (ShownLine c n) = record p { due = due.Proofs; claims = drop 1 p.claims }
after p (EndLine n) = record p { due = due.Over }

-- the line says this without a fault, and is its canonical line
abbrev pub IsCanonical : Position → List ℕ → Said → Type 0
IsCanonical p line said = saying.Says p.draft line said × IsWritten p.draft line said

-- what must hold of the line holds, and q stands after it
abbrev pub LeadsTo : Position → Item → Position → Type 0
LeadsTo p (ProblemLine line) q = (said : Said) × IsCanonical p line said × (q ≡ after_said p said)
LeadsTo p x q = (holds p x ≡ true) × (q ≡ after p x)

-- it does not
abbrev pub Fails : Position → Item → Type 0
Fails p (ProblemLine line) = (said : Said) → IsCanonical p line said → ⊥
Fails p x = holds p x ≡ false
