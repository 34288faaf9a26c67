-- A judgement on some of the lines that are due, and on all of them.
use Rattle.std.proofs.Common.{◌≡◌, ◌≢◌, ℕ, Bool, true, false, ◌||◌, List, codes, refl, ap, sym, subst, ◌∙◌, inl, inr, Result, Ok, Err}
use Rattle.std.specs.Str.{bytes_eq}
use Rattle.std.proofs.lemmas.Slice.Eq.{bytes_eq-Decides}
use Rattle.report_words.specs.Words.{words_of}
use Rattle.report_lines.specs.declared.kinds.Due.{Due}
use Rattle.report_lines.specs.declared.kinds.Due.TheVariants as due
use Rattle.report_lines.specs.declared.kinds.RefusedKind.{RefusedKind}
use Rattle.report_lines.specs.Items.{Item, ProblemLine, item_words}
use Rattle.report_lines.specs.Places.{Position, DueAt, IsProblemLine, IsAnswerLine, first_word}
use Rattle.report_lines.specs.Judged.{IsWrongAs, absent, faulty}
use Rattle.report_lines.proofs.OneItem.{same_line}
use Rattle.report_text.specs.declared.front.FrontDue.{FrontDue}
use Rattle.report_text.specs.declared.front.FrontDue.TheVariants as front
use Rattle.report_text.specs.declared.stop.LineStop.{LineStop}
use Rattle.report_text.specs.declared.stop.LineStop.TheVariants as stops
use Rattle.report_text.specs.Front.{LeavesAnswers, due_of, takes}
use Rattle.report_text.specs.Judging.{JudgedAs, IsJudged}
use Rattle.formula_grammar.proofs.Measures.{both_false}

pub at_due : {X : Type 0} (p : Position) (d : Due) (line : List ℕ) (stands : Position → Type 0) (r : Result X LineStop) → p.due ≡ d →
    JudgedAs (DueAt d p) p line stands r → IsJudged p line stands r
at_due p d line stands r e h = subst (λ (k : Due). JudgedAs (DueAt k p) p line stands r) (sym e) h

-- a line with another first word is no line of the problem with this one
pub no_problem : (word line : List ℕ) → (first_word line ≡ word → ⊥) → (x : Item) → IsProblemLine word x → words_of line ≢ item_words x
no_problem word line other x d f = other (ap first_word (same_line line d.0 (f ∙ ap item_words d.1)) ∙ d.2)

moved_wrong : (word : List ℕ) (E : Item → Type 0) (p : Position) (line : List ℕ) (k : RefusedKind) → first_word line ≡ word → ((x : Item) → IsProblemLine word x → E x) →
    IsWrongAs (IsProblemLine word) p line k → IsWrongAs E p line k
moved_wrong word E p line k first into (absent none e) = absurd (none (ProblemLine line) (line, refl, first) refl)
moved_wrong word E p line k first into (faulty x d w h e) = faulty x (into x d) w h e

-- a line of the problem with a first word that is due is judged as such
pub moved : {X : Type 0} (word : List ℕ) (E : Item → Type 0) (p : Position) (line : List ℕ) (stands : Position → Type 0) (r : Result X LineStop) → first_word line ≡ word →
    ((x : Item) → IsProblemLine word x → E x) → JudgedAs (IsProblemLine word) p line stands r → JudgedAs E p line stands r
moved word E p line stands (Ok u) first into h = (h.0, record { item = h.1.item; of = into h.1.item h.1.of; words = h.1.words; leads = h.1.leads }, h.2)
moved word E p line stands (Err (stops.Wrong k)) first into h = moved_wrong word E p line k first into h
moved word E p line stands (Err stops.NoMemory) first into h = tt

pub is_word : (v w : List ℕ) → bytes_eq v w ≡ true → v ≡ w
is_word v w e = (bytes_eq-Decides v w).0 e

pub other_word : (v w : List ℕ) → bytes_eq v w ≡ false → v ≡ w → ⊥
other_word v w e f = let t : bytes_eq v w ≡ true = (bytes_eq-Decides v w).1 f in absurd (cc)

no_word_by : (b : Bool) (v w : List ℕ) → bytes_eq v w ≡ b → (v ≡ w → ⊥) → b ≡ false
no_word_by true v w e other = absurd (other (is_word v w e))
no_word_by false v w e other = refl

no_word : (v w : List ℕ) → (v ≡ w → ⊥) → bytes_eq v w ≡ false
no_word v w other = no_word_by (bytes_eq v w) v w refl other

pub second : (a b : Bool) → (a || b) ≡ true → a ≡ false → b ≡ true
second true b e f = absurd (cc)
second false b e f = e

answer_of : (p : Position) (line : List ℕ) (x : Item) → (first_word line ≡ codes "ask" → ⊥) → DueAt due.Asks p x → words_of line ≡ item_words x → IsAnswerLine p x
answer_of p line x ask (inl d) w = absurd (no_problem (codes "ask") line ask x d w)
answer_of p line x ask (inr d) w = d

answer_on : (p : Position) (line : List ℕ) (x : Item) → (first_word line ≡ codes "agent" → ⊥) → (first_word line ≡ codes "ask" → ⊥) → DueAt due.Agents p x → words_of line ≡ item_words x →
    IsAnswerLine p x
answer_on p line x agent ask (inl d) w = absurd (no_problem (codes "agent") line agent x d w)
answer_on p line x agent ask (inr d) w = answer_of p line x ask d w

leaves_at : (p : Position) (line : List ℕ) (d : Due) → p.due ≡ d → ((x : Item) → IsAnswerLine p x → DueAt d p x) →
    ((x : Item) → DueAt d p x → words_of line ≡ item_words x → IsAnswerLine p x) → LeavesAnswers p line
leaves_at p line d e into only = record {
  due = λ x h. subst (λ (k : Due). DueAt k p x) (sym e) (into x h);
  only = λ x h w. only x (subst (λ (k : Due). DueAt k p x) e h) w;
}

pub leaves : (place : FrontDue) (p : Position) (line : List ℕ) → p.due ≡ due_of place → takes place line ≡ false → LeavesAnswers p line
leaves front.Agents p line e none =
    let both = both_false _ _ none in
    leaves_at p line due.Agents e (λ x h. inr (inr h)) (λ x h w. answer_on p line x (other_word _ _ both.0) (other_word _ _ both.1) h w)
leaves front.Asks p line e none = leaves_at p line due.Asks e (λ x h. inr h) (λ x h w. answer_of p line x (other_word _ _ none) h w)
leaves place p line e none = absurd (cc)

-- what is taken after an agent, and is no agent, is a query
pub ask_taken : (place : FrontDue) (line : List ℕ) → place ≡ front.Agents → takes place line ≡ true → (first_word line ≡ codes "agent" → ⊥) → first_word line ≡ codes "ask"
ask_taken place line at taken other =
    let test : (bytes_eq (first_word line) (codes "agent") || bytes_eq (first_word line) (codes "ask")) ≡ true = subst (λ (k : FrontDue). takes k line ≡ true) at taken in
    is_word (first_word line) (codes "ask") (second _ _ test (no_word _ _ other))

pub asks_taken : (place : FrontDue) (line : List ℕ) → place ≡ front.Asks → takes place line ≡ true → first_word line ≡ codes "ask"
asks_taken place line at taken = is_word (first_word line) (codes "ask") (subst (λ (k : FrontDue). takes k line ≡ true) at taken)
