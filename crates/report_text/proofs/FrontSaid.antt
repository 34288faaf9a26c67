-- What canonical lines of the problem say, by their first words.
use Rattle.std.proofs.Common.{◌≡◌, ◌≢◌, ℕ, false, List, [], ◌∷◌, ◌++◌, codes, drop, length, refl, ap, sym, subst, ◌∙◌, inl, inr, arith}
use Rattle.std.proofs.lemmas.Grind.{common_steps}
use Rattle.std.specs.Prelude.{IsSome}
use Rattle.std.specs.Str.{bytes_eq}
use Rattle.formulas.specs.Names.{AtomList}
use Rattle.problem_reading.specs.declared.said.Said.{Said}
use Rattle.problem_reading.specs.declared.said.Said.TheVariants.{Nothing, Names, Condition, Belief, Query}
use Rattle.problem_reading.specs.Canonical.{IsWritten}
use Rattle.problem_reading.specs.Drafts.{Draft}
use Rattle.problem_reading.specs.Faults.{line_form}
use Rattle.problem_reading.specs.Saying.{Says, IsSaid, after}
use Rattle.profile_text.specs.ProblemText.{atoms_line, spaced_names}
use Rattle.report_lines.specs.Following.{due_after_said}
use Rattle.report_lines.specs.Places.{first_word}
use Rattle.report_text.specs.declared.front.FrontDue.{FrontDue}
use Rattle.report_text.specs.declared.front.FrontDue.TheVariants as front
use Rattle.report_text.specs.Front.{HasCome, HasConflicts, IsWhole, Precedes, due_of, word_before}
use Rattle.report_text.proofs.FrontJudged.{other_word}

-- the first word of a line that says this
abbrev word_of : Said → List ℕ
word_of Nothing = []
word_of (Names atoms) = codes "atoms"
word_of (Condition f) = codes "constraint"
word_of (Belief agent) = codes "agent"
word_of (Query f) = codes "ask"

first_of_names : (names : List (List ℕ)) → first_word (codes "atoms" ++ spaced_names names) ≡ codes "atoms"
first_of_names [] = refl
first_of_names (name ∷ names) = refl

first_of : (d : Draft) (line : List ℕ) (said : Said) → IsWritten d line said → first_word line ≡ word_of said
first_of d line Nothing w = absurd w
first_of d line (Names atoms) w = ap first_word w ∙ first_of_names _
first_of d line (Condition f) w = ap first_word w
first_of d line (Belief agent) w = ap first_word w
first_of d line (Query f) w = ap first_word w

-- what is due after what is said
abbrev place_after : Said → FrontDue
place_after Nothing = front.Atoms
place_after (Names atoms) = front.Constraint
place_after (Condition f) = front.FirstAgent
place_after (Belief agent) = front.Agents
place_after (Query f) = front.Asks

-- the place is one of those that lines of the problem lead to
abbrev IsLater : FrontDue → Type 0
IsLater front.Constraint = Unit {0}
IsLater front.FirstAgent = Unit {0}
IsLater front.Agents = Unit {0}
IsLater front.Asks = Unit {0}
IsLater _ = ⊥

differ : (v w : List ℕ) (X : Type 0) → bytes_eq v w ≡ false → v ≡ w → X
differ v w X e f = absurd (other_word v w e f)

place_is : (next : FrontDue) (said : Said) → IsLater next → word_of said ≡ word_before next → next ≡ place_after said
place_is front.Constraint Nothing l e = differ _ _ _ refl e
place_is front.Constraint (Names atoms) l e = refl
place_is front.Constraint (Condition f) l e = differ _ _ _ refl e
place_is front.Constraint (Belief agent) l e = differ _ _ _ refl e
place_is front.Constraint (Query f) l e = differ _ _ _ refl e
place_is front.FirstAgent Nothing l e = differ _ _ _ refl e
place_is front.FirstAgent (Names atoms) l e = differ _ _ _ refl e
place_is front.FirstAgent (Condition f) l e = refl
place_is front.FirstAgent (Belief agent) l e = differ _ _ _ refl e
place_is front.FirstAgent (Query f) l e = differ _ _ _ refl e
place_is front.Agents Nothing l e = differ _ _ _ refl e
place_is front.Agents (Names atoms) l e = differ _ _ _ refl e
place_is front.Agents (Condition f) l e = differ _ _ _ refl e
place_is front.Agents (Belief agent) l e = refl
place_is front.Agents (Query f) l e = differ _ _ _ refl e
place_is front.Asks Nothing l e = differ _ _ _ refl e
place_is front.Asks (Names atoms) l e = differ _ _ _ refl e
place_is front.Asks (Condition f) l e = differ _ _ _ refl e
place_is front.Asks (Belief agent) l e = differ _ _ _ refl e
place_is front.Asks (Query f) l e = refl
place_is place said l e = absurd l

later : (place next : FrontDue) → Precedes place next → IsLater next
later front.Atoms next e = subst IsLater (sym e) tt
later front.Constraint next e = subst IsLater (sym e) tt
later front.FirstAgent next e = subst IsLater (sym e) tt
later front.Agents next (inl e) = subst IsLater (sym e) tt
later front.Agents next (inr e) = subst IsLater (sym e) tt
later front.Asks next e = subst IsLater (sym e) tt
later place next e = absurd e

pub next_is : (place next : FrontDue) (d : Draft) (line : List ℕ) (said : Said) → Precedes place next → first_word line ≡ word_before next → IsWritten d line said →
    next ≡ place_after said
next_is place next d line said order first w = place_is next said (later place next order) (sym (first_of d line said w) ∙ first)

pub due_next : (said : Said) → due_after_said said ≡ due_of (place_after said)
due_next Nothing = refl
due_next (Names atoms) = refl
due_next (Condition f) = refl
due_next (Belief agent) = refl
due_next (Query f) = refl

-- a line without a name declares nothing
no_names : (d : Draft) (line : List ℕ) (atoms : List (List ℕ)) → line ≡ codes "atoms" → IsSaid d (line_form line) (Names atoms) → ⊥
no_names d line atoms e said = subst (λ (l : List ℕ). IsSaid d (line_form l) (Names atoms)) e said

drop_none : (n : ℕ) (xs : List (List ℕ)) → xs ≡ [] → drop n xs ≡ []
drop_none n xs e = ap (drop n) e ∙ grind (arith, common_steps)

some_atom : (d : Draft) (line : List ℕ) (atoms : AtomList) → Says d line (Names atoms) → IsWritten d line (Names atoms) → atoms ≢ []
some_atom d line [] says w = absurd (no_names d line [] (w ∙ ap atoms_line (drop_none (length d.atoms) [] refl)) says.said)
some_atom d line (atom ∷ atoms) says w = λ none. absurd (cc)

more_some : {X : Type 0} (xs : List X) (x : X) → xs ++ x ∷ [] ≢ []
more_some [] x = λ e. absurd (cc)
more_some (y ∷ xs) x = λ e. absurd (cc)

-- what has come before a line of the problem after which this is due
abbrev HadCome : FrontDue → ℕ → Draft → Type 0
HadCome front.Constraint conflicts d = HasConflicts conflicts
HadCome front.FirstAgent conflicts d = HasConflicts conflicts × (d.atoms ≢ [])
HadCome front.Agents conflicts d = HasConflicts conflicts × (d.atoms ≢ []) × IsSome d.constraint
HadCome front.Asks conflicts d = IsWhole conflicts d
HadCome _ conflicts d = ⊥

had_come : (place next : FrontDue) (conflicts : ℕ) (d : Draft) → Precedes place next → HasCome place conflicts d → HadCome next conflicts d
had_come front.Atoms next conflicts d e h = subst (λ (n : FrontDue). HadCome n conflicts d) (sym e) h
had_come front.Constraint next conflicts d e h = subst (λ (n : FrontDue). HadCome n conflicts d) (sym e) h
had_come front.FirstAgent next conflicts d e h = subst (λ (n : FrontDue). HadCome n conflicts d) (sym e) h
had_come front.Agents next conflicts d (inl e) h = subst (λ (n : FrontDue). HadCome n conflicts d) (sym e) (h.number, h.atom, h.constraint)
had_come front.Agents next conflicts d (inr e) h = subst (λ (n : FrontDue). HadCome n conflicts d) (sym e) h
had_come front.Asks next conflicts d e h = subst (λ (n : FrontDue). HadCome n conflicts d) (sym e) h
had_come place next conflicts d e h = absurd e

come_after : (said : Said) (conflicts : ℕ) (d : Draft) (line : List ℕ) → Says d line said → IsWritten d line said → HadCome (place_after said) conflicts d →
    HasCome (place_after said) conflicts (after d said)
come_after Nothing conflicts d line says w h = absurd w
come_after (Names atoms) conflicts d line says w h = (h, some_atom d line atoms says w)
come_after (Condition f) conflicts d line says w h = (h.0, h.1, refl)
come_after (Belief agent) conflicts d line says w h = record { number = h.0; atom = h.1; constraint = h.2; agent = more_some d.agents agent }
come_after (Query f) conflicts d line says w h = record { number = h.number; atom = h.atom; constraint = h.constraint; agent = h.agent }

pub come_next : (place next : FrontDue) (conflicts : ℕ) (d : Draft) (line : List ℕ) (said : Said) → Precedes place next → next ≡ place_after said → Says d line said →
    IsWritten d line said → HasCome place conflicts d → HasCome next conflicts (after d said)
come_next place next conflicts d line said order e says w h =
    let had = subst (λ (n : FrontDue). HadCome n conflicts d) e (had_come place next conflicts d order h) in
    subst (λ (n : FrontDue). HasCome n conflicts (after d said)) (sym e) (come_after said conflicts d line says w had)
