-- How checkers judge the lines of an answer.
use Rattle.std.proofs.Common.{◌≡◌, ℕ, inl, inr, ◌+◌, Bool, true, false, cond, ◌==◌, nat_lt, List, Ok, Err, ap, sym, subst, ◌∙◌}
use Rattle.merge_model.specs.declared.operator.AggregatorName.{AggregatorName}
use Rattle.merge_model.specs.declared.operator.DistanceName.{DistanceName}
use Rattle.merge_model.specs.declared.problem.Problem.{Problem}
use Rattle.problem_reading.specs.Drafts.{Draft}
use Rattle.report_lines.specs.declared.kinds.RefusedKind.{RefusedKind}
use Rattle.report_lines.specs.declared.kinds.Subject.TheVariants.{TheConstraint, BaseOf}
use Rattle.report_lines.specs.declared.kinds.Due.{Due}
use Rattle.report_lines.specs.declared.kinds.Due.TheVariants as due
use Rattle.report_lines.specs.Items.{Item, ModelLine, VectorLine, NearestLine, MeasureLine, VerdictLine, NoModelLine, HasModelLine, MainLine}
use Rattle.report_lines.specs.Places.{Position, start, IsAnswerLine, IsNamedLine, IsDue, DueAt, agents_at, asks_at}
use Rattle.report_lines.specs.Following.{LeadsTo, Fails, due_after_verdicts}
use Rattle.report_lines.specs.Judged.{IsRightAs, IsWrongAs, absent, faulty}
use Rattle.report_text.specs.declared.answering.Answering.{Answering}
use Rattle.report_text.specs.declared.checker.Checker.TheVariants as checkers
use Rattle.report_text.specs.declared.stop.LineStop.{LineStop}
use Rattle.report_text.specs.declared.stop.LineStop.TheVariants as stops
use Rattle.report_text.specs.Answering as answering
use Rattle.report_text.specs.Front.{LeavesAnswers, States}
use Rattle.report_text.specs.Judging.{JudgedAs}
use Rattle.report_text.specs.Checker.{IsBegun, StandsInAnswer, IsNext}

-- the first line of an answer leads on as if queries were due, and past that place

begun_if : (b : Bool) (d e : Due) → IsBegun d → IsBegun e → IsBegun (cond b d e)
begun_if true d e h k = h
begun_if false d e h k = k

after_begun : (q r : Position) → q ≡ r → IsBegun r.due → IsBegun q.due
after_begun q r e h = subst (λ (x : Position). IsBegun x.due) (sym e) h

-- the same place, where queries are due
abbrev at_asks : Position → Position
at_asks p = record p { due = due.Asks }

abbrev Leads : Position → Position → Item → Type 0
Leads p q x = LeadsTo (at_asks p) x q → LeadsTo p x q × IsBegun q.due

named_leads : (p q : Position) (x : Item) → IsNamedLine p TheConstraint x → Leads p q x
named_leads p q x (inl e) = subst (Leads p q) (sym e) (λ l. (l, after_begun q _ l.1 (begun_if (nat_lt 0 (agents_at p)) due.Named due.Main tt tt)))
named_leads p q x (inr h) = subst (Leads p q) (sym h.1) (λ l. (l, after_begun q _ l.1 (begun_if (nat_lt 0 (agents_at p)) due.Named due.Main tt tt)))

answer_leads : (p q : Position) (x : Item) → IsAnswerLine p x → Leads p q x
answer_leads p q x (inl h) = subst (Leads p q) (sym h.1) (λ l. (l, after_begun q _ l.1 tt))
answer_leads p q x (inr (inl h)) = named_leads p q x h
answer_leads p q x (inr (inr e)) = subst (Leads p q) (sym e) (λ l. (l, after_begun q _ l.1 tt))

abbrev Fail : Position → Item → Type 0
Fail p x = Fails (at_asks p) x → Fails p x

named_fails : (p : Position) (x : Item) → IsNamedLine p TheConstraint x → Fail p x
named_fails p x (inl e) = subst (Fail p) (sym e) (λ f. f)
named_fails p x (inr h) = subst (Fail p) (sym h.1) (λ f. f)

answer_fails : (p : Position) (x : Item) → IsAnswerLine p x → Fail p x
answer_fails p x (inl h) = subst (Fail p) (sym h.1) (λ f. f)
answer_fails p x (inr (inl h)) = named_fails p x h
answer_fails p x (inr (inr e)) = subst (Fail p) (sym e) (λ f. f)

-- where the answer begins: the place where queries are due, whatever is due before it
pub answer_place : (p : Position) (distance : DistanceName) (aggregator : AggregatorName) (conflicts : ℕ) (problem : Problem) (a : Answering) → States p distance aggregator conflicts problem →
    answering.position_of a ≡ record start { due = due.Asks; distance = distance; aggregator = aggregator; conflicts = conflicts; draft = answering.draft_of problem } →
    answering.StandsAtAnswer a (record p { due = due.Asks })
answer_place p distance aggregator conflicts problem a h e =
    ap (λ (x : Position). record x { due = due.Asks }) h.place
    ∙ (ap (λ (d : Draft). record start { due = due.Asks; distance = distance; aggregator = aggregator; conflicts = conflicts; draft = d }) h.draft ∙ sym e)

first_wrong : (p : Position) (line : List ℕ) (k : RefusedKind) → LeavesAnswers p line → IsWrongAs (IsAnswerLine p) (at_asks p) line k → IsWrongAs (IsDue p) p line k
first_wrong p line k only (absent none e) = absent (λ x d w. none x (only.only x d w) w) e
first_wrong p line k only (faulty x d w f e) = faulty x (only.due x d) w (answer_fails p x d f) e

-- the first line of an answer is judged
pub first_stop : (p : Position) (line : List ℕ) (stands : Position → Type 0) (stop : LineStop) → LeavesAnswers p line → JudgedAs {X = Unit {0}} (IsAnswerLine p) (at_asks p) line stands (Err stop) → IsNext p line (Err stop)
first_stop p line stands (stops.Wrong k) only h = first_wrong p line k only h
first_stop p line stands stops.NoMemory only h = tt

pub first_next : (p q : Position) (line : List ℕ) (a : Answering) → LeavesAnswers p line → IsRightAs (IsAnswerLine p) (at_asks p) line q → answering.StandsAtAnswer a q → answering.IsFit a →
    IsNext p line (Ok (checkers.Answer a))
first_next p q line a only h place fit =
    let l = answer_leads p q h.item h.of h.leads in
    let begun : IsBegun a.due = subst (λ (x : Position). IsBegun x.due) place l.1 in
    (q, record { item = h.item; of = only.due h.item h.of; words = h.words; leads = l.0 }, record { place = place; fit = fit; begun = begun })

-- the lines after it

verdicts_begun : (p : Position) (k : ℕ) → IsBegun (due_after_verdicts p k)
verdicts_begun p k = begun_if (nat_lt k (asks_at p)) due.Verdict due.Main tt tt

verdict_begun : (p q : Position) (given : Bool) → LeadsTo p (VerdictLine p.verdicts given) q → IsBegun q.due
verdict_begun p q true l = after_begun q _ l.1 (verdicts_begun p (p.verdicts + 1))
verdict_begun p q false l = after_begun q _ l.1 tt

named_begun : (p q : Position) (x : Item) → IsNamedLine p (BaseOf p.named) x → LeadsTo p x q → IsBegun q.due
named_begun p q x (inl e) l = let m : LeadsTo p (NoModelLine (BaseOf p.named)) q = subst (λ (y : Item). LeadsTo p y q) e l in after_begun q _ m.1 (begun_if (nat_lt (p.named + 1) (agents_at p)) due.Named due.Main tt tt)
named_begun p q x (inr h) l = let m : LeadsTo p (HasModelLine (BaseOf p.named) h.0) q = subst (λ (y : Item). LeadsTo p y q) h.1 l in after_begun q _ m.1 (begun_if (nat_lt (p.named + 1) (agents_at p)) due.Named due.Main tt tt)

later_begun : (d : Due) (a : Answering) (p q : Position) (x : Item) → IsBegun d → answering.FitsAt d a → DueAt d p x → LeadsTo p x q → IsBegun q.due
later_begun due.Agents a p q x b f h l = absurd b
later_begun due.Asks a p q x b f h l = absurd b
later_begun due.Model a p q x b f h l = let m : LeadsTo p (ModelLine h.0) q = subst (λ (y : Item). LeadsTo p y q) h.1 l in after_begun q _ m.1 tt
later_begun due.Vector a p q x b f h l = let m : LeadsTo p (VectorLine h.0) q = subst (λ (y : Item). LeadsTo p y q) h.1 l in after_begun q _ m.1 tt
later_begun due.Nearest a p q x b f h l = let m : LeadsTo p (NearestLine h.0) q = subst (λ (y : Item). LeadsTo p y q) h.1 l in after_begun q _ m.1 (begun_if (p.verdicts == 0) due.Measure (due_after_verdicts p p.verdicts) tt (verdicts_begun p p.verdicts))
later_begun due.Measure a p q x b f h l = let m : LeadsTo p (MeasureLine h.0) q = subst (λ (y : Item). LeadsTo p y q) h.1 l in after_begun q _ m.1 (verdicts_begun p 0)
later_begun due.Verdict a p q x b f h l = verdict_begun p q h.0 (subst (λ (y : Item). LeadsTo p y q) h.1 l)
later_begun due.Named a p q x b f h l = named_begun p q x h l
later_begun due.Main a p q x b f h l = let m : LeadsTo p (MainLine h.0 h.1) q = subst (λ (y : Item). LeadsTo p y q) h.2 l in after_begun q _ m.1 tt
later_begun due.Head a p q x b f h l = absurd f
later_begun due.Distance a p q x b f h l = absurd f
later_begun due.Aggregator a p q x b f h l = absurd f
later_begun due.Conflicts a p q x b f h l = absurd f
later_begun due.Atoms a p q x b f h l = absurd f
later_begun due.Constraint a p q x b f h l = absurd f
later_begun due.FirstAgent a p q x b f h l = absurd f
later_begun due.Log a p q x b f h l = absurd f
later_begun due.Proofs a p q x b f h l = absurd f
later_begun due.Over a p q x b f h l = absurd f

answer_due : (d : Due) (p : Position) → IsBegun d → (x : Item) → answering.AnswerAt d p x → DueAt d p x
answer_due due.Agents p b x h = absurd b
answer_due due.Asks p b x h = absurd b
answer_due _ p b x h = h

due_answer : (d : Due) (p : Position) → IsBegun d → (x : Item) → DueAt d p x → answering.AnswerAt d p x
due_answer due.Agents p b x h = absurd b
due_answer due.Asks p b x h = absurd b
due_answer _ p b x h = h

later_wrong : (p : Position) (line : List ℕ) (k : RefusedKind) → IsBegun p.due → IsWrongAs (answering.AnswerAt p.due p) p line k → IsWrongAs (IsDue p) p line k
later_wrong p line k b (absent none e) = absent (λ x d. none x (due_answer p.due p b x d)) e
later_wrong p line k b (faulty x d w f e) = faulty x (answer_due p.due p b x d) w f e

due_begun : (p : Position) (a : Answering) → StandsInAnswer a p → IsBegun p.due
due_begun p a h = subst (λ (x : Position). IsBegun x.due) (sym h.place) h.begun

-- a later line of an answer is judged
pub later_stop : (p : Position) (line : List ℕ) (a : Answering) (stands : Position → Type 0) (stop : LineStop) → StandsInAnswer a p → JudgedAs {X = Unit {0}} (answering.AnswerAt p.due p) p line stands (Err stop) → IsNext p line (Err stop)
later_stop p line a stands (stops.Wrong k) s h = later_wrong p line k (due_begun p a s) h
later_stop p line a stands stops.NoMemory s h = tt

pub later_next : (p q : Position) (line : List ℕ) (a b : Answering) → StandsInAnswer a p → IsRightAs (answering.AnswerAt p.due p) p line q → answering.StandsAtAnswer b q → answering.IsFit b →
    IsNext p line (Ok (checkers.Answer b))
later_next p q line a b s h place fit =
    let begun = due_begun p a s in
    let same : a.due ≡ p.due = sym (ap (λ (x : Position). x.due) s.place) in
    let fits : answering.FitsAt p.due a = subst (λ (d : Due). answering.FitsAt d a) same s.fit.place in
    let of = answer_due p.due p begun h.item h.of in
    let later : IsBegun b.due = subst (λ (x : Position). IsBegun x.due) place (later_begun p.due a p q h.item begun fits of h.leads) in
    (q, record { item = h.item; of = of; words = h.words; leads = h.leads }, record { place = place; fit = fit; begun = later })

-- a refusal is one whatever would have come
pub same_stop : (p : Position) (line : List ℕ) (stands : Position → Type 0) (stop : LineStop) → JudgedAs {X = Unit {0}} (IsDue p) p line stands (Err stop) → IsNext p line (Err stop)
same_stop p line stands (stops.Wrong k) h = h
same_stop p line stands stops.NoMemory h = tt
