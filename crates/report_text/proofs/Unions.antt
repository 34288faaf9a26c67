-- A judgement on some of the lines that are due is one on all of them.
use Rattle.std.proofs.Common.{◌≡◌, ◌≢◌, ℕ, true, false, List, refl, sym, subst, ◌⊎◌, inl, inr, Result, Ok, Err}
use Rattle.report_words.specs.Words.{words_of}
use Rattle.report_lines.specs.declared.kinds.Due.{Due}
use Rattle.report_lines.specs.declared.kinds.Due.TheVariants as due
use Rattle.report_lines.specs.declared.kinds.RefusedKind.{RefusedKind}
use Rattle.report_lines.specs.Following.{LeadsTo, Fails, after}
use Rattle.report_lines.specs.Holding.{holds}
use Rattle.report_lines.specs.Items.{Item, item_words}
use Rattle.report_lines.specs.Judged.{IsWrongAs, absent, faulty}
use Rattle.report_lines.specs.Places.{Position, IsAnswerLine}
use Rattle.report_text.specs.declared.stop.LineStop.{LineStop}
use Rattle.report_text.specs.declared.stop.LineStop.TheVariants as stops
use Rattle.report_text.specs.Answering.{AnswerAt}
use Rattle.report_text.specs.Judging.{JudgedAs}
use Rattle.report_text.specs.Taking.{Takes}

-- the line is none of these
abbrev pub IsNone : (Item → Type 0) → List ℕ → Type 0
IsNone D line = (x : Item) → D x → words_of line ≢ item_words x

moved_wrong : (D E : Item → Type 0) (p : Position) (line : List ℕ) (k : RefusedKind) → ((x : Item) → D x → E x) → (IsNone D line → IsNone E line) → IsWrongAs D p line k → IsWrongAs E p line k
moved_wrong D E p line k into none (absent a e) = absent (none a) e
moved_wrong D E p line k into none (faulty x d w h e) = faulty x (into x d) w h e

pub moved : {X : Type 0} (D E : Item → Type 0) (p : Position) (line : List ℕ) (stands : Position → Type 0) (r : Result X LineStop) → ((x : Item) → D x → E x) → (IsNone D line → IsNone E line)
    → JudgedAs D p line stands r → JudgedAs E p line stands r
moved D E p line stands (Ok u) into none h = let right = h.1 in (h.0, record { item = right.item; of = into right.item right.of; words = right.words; leads = right.leads }, h.2)
moved D E p line stands (Err (stops.Wrong k)) into none h = moved_wrong D E p line k into none h
moved D E p line stands (Err stops.NoMemory) into none h = tt

either_none : (D E : Item → Type 0) (line : List ℕ) → IsNone D line → IsNone E line → IsNone (λ x. D x ⊎ E x) line
either_none D E line d e x (inl h) = d x h
either_none D E line d e x (inr h) = e x h

-- the line is none of the others
pub left : {X : Type 0} (D E : Item → Type 0) (p : Position) (line : List ℕ) (stands : Position → Type 0) (r : Result X LineStop) → IsNone E line → JudgedAs D p line stands r → JudgedAs (λ x. D x ⊎ E x) p line stands r
left D E p line stands r other h = moved D (λ x. D x ⊎ E x) p line stands r (λ x d. inl d) (λ none. either_none D E line none other) h

pub right : {X : Type 0} (D E : Item → Type 0) (p : Position) (line : List ℕ) (stands : Position → Type 0) (r : Result X LineStop) → IsNone D line → JudgedAs E p line stands r → JudgedAs (λ x. D x ⊎ E x) p line stands r
right D E p line stands r other h = moved E (λ x. D x ⊎ E x) p line stands r (λ x e. inr e) (λ none. either_none D E line other none) h

-- the line has the words of the item, and the state takes it
pub taken : {X : Type 0} (D : Item → Type 0) (p : Position) (line : List ℕ) (x : Item) (stands : Position → Type 0) (r : Result X LineStop) →
    ((q : Position) → holds p x ≡ true → q ≡ after p x → LeadsTo p x q) → (holds p x ≡ false → Fails p x) → D x → words_of line ≡ item_words x → Takes p x stands r → JudgedAs D p line stands r
taken D p line x stands (Ok u) leads fails d w h = (after p x, record { item = x; of = d; words = w; leads = leads (after p x) h.0 refl }, h.1)
taken D p line x stands (Err (stops.Wrong k)) leads fails d w h = faulty x d w (fails h.0) h.1
taken D p line x stands (Err stops.NoMemory) leads fails d w h = tt

-- at the position of the state, and so at each that it stands at
pub at_place : {X : Type 0} (place : Position) (d : Due) (line : List ℕ) (stands : Position → Type 0) (r : Result X LineStop) → place.due ≡ d → JudgedAs (AnswerAt d place) place line stands r →
    (p : Position) → p ≡ place → JudgedAs (AnswerAt p.due p) p line stands r
at_place place d line stands r e h p same =
    subst (λ (q : Position). JudgedAs (AnswerAt q.due q) q line stands r) (sym same) (subst (λ (k : Due). JudgedAs (AnswerAt k place) place line stands r) (sym e) h)

-- at the first line of an answer
pub at_first : {X : Type 0} (place : Position) (line : List ℕ) (stands : Position → Type 0) (r : Result X LineStop) → (place.due ≡ due.Agents) ⊎ (place.due ≡ due.Asks) → JudgedAs (IsAnswerLine place) place line stands r →
    (p : Position) → p ≡ place → JudgedAs (AnswerAt p.due p) p line stands r
at_first place line stands r (inl e) h p same = at_place place due.Agents line stands r e h p same
at_first place line stands r (inr e) h p same = at_place place due.Asks line stands r e h p same
