-- Canonical lines in the order of a canonical text are those of the problem that they spell.
use Rattle.std.proofs.Common.{◌≡◌, true, List, [], ◌∷◌, ◌++◌, map, codes, Option, Some, None, unwrap_or, refl, ap, sym, subst, ◌∙◌, append_assoc, append-nil}
use Rattle.std.specs.Prelude.{nat_eq}
use Rattle.std.specs.List.{starts_with}
use Rattle.std.proofs.lemmas.List.{map-append}
use Rattle.formulas.specs.Names.{AtomList, names_of}
use Rattle.formulas.specs.declared.formula.Formula.{Formula}
use Rattle.formulas.specs.declared.formula.Formula as formula
use Rattle.merge_model.specs.declared.agent.Agent.{Agent}
use Rattle.merge_model.specs.declared.problem.Problem.{Problem}
use Rattle.problem_reading.specs.declared.said.Said.{Said}
use Rattle.problem_reading.specs.declared.said.Said.TheVariants.{Nothing, Names, Condition, Belief, Query}
use Rattle.problem_reading.specs.Canonical.{IsWritten}
use Rattle.problem_reading.specs.Drafts.{Draft, empty_draft}
use Rattle.problem_reading.specs.Lines.{Spell}
use Rattle.problem_reading.specs.Saying.{Says, after}
use Rattle.problem_reading.specs.Spelling.{Declares, no_lines, one_more, IsProblemOf}
use Rattle.problem_reading.proofs.OneDraft.{Line, declares_once}
use Rattle.profile_text.specs.ProblemText.{agent_line, ask_line, atoms_line, constraint_line, problem_lines}
use Rattle.problem_laws.specs.CanonicalOrder.{Place, after_nothing, after_atoms, in_agents, in_asks, InOrder, no_line, atoms_come, constraint_comes, agent_comes, first_ask, ask_comes}

-- the lines of what is declared
abbrev lines_with : AtomList → Formula → List Agent → List Formula → List Line
lines_with atoms c agents asks =
    let names = names_of atoms in
    atoms_line atoms ∷ constraint_line names c ∷ (map (agent_line names) agents ++ map (ask_line names) asks)

abbrev Shape : Place → List Line → Draft → Type 0
Shape after_nothing lines d = (lines ≡ []) × (d ≡ empty_draft)
Shape after_atoms lines d = (lines ≡ atoms_line d.atoms ∷ []) × (d.constraint ≡ None) × (d.agents ≡ []) × (d.asks ≡ [])
Shape in_agents lines d = (c : Formula) × (d.constraint ≡ Some c) × (d.asks ≡ []) × (lines ≡ lines_with d.atoms c d.agents [])
Shape in_asks lines d = (c : Formula) × (d.constraint ≡ Some c) × (lines ≡ lines_with d.atoms c d.agents d.asks)

abbrev Begins : Line → Line → Type 0
Begins line word = starts_with nat_eq line word ≡ true

abbrev Shaped : Place → List Line → Type 0
Shaped place lines = (d : Draft) × Declares lines d × Shape place lines d

moved : (place : Place) (lines : List Line) {d e : Draft} → Declares lines d → Declares lines e → Shape place lines d → Shape place lines e
moved place lines h i s = subst (λ (x : Draft). Shape place lines x) (declares_once h i refl) s

more_asks : (atoms : AtomList) (c : Formula) (agents : List Agent) (asks : List Formula) (f : Formula) →
    lines_with atoms c agents asks ++ ask_line (names_of atoms) f ∷ [] ≡ lines_with atoms c agents (asks ++ f ∷ [])
more_asks atoms c agents asks f =
    ap (λ ls. atoms_line atoms ∷ constraint_line (names_of atoms) c ∷ ls)
    (append_assoc (map (agent_line (names_of atoms)) agents) (map (ask_line (names_of atoms)) asks) (ask_line (names_of atoms) f ∷ [])
    ∙ ap (λ ls. map (agent_line (names_of atoms)) agents ++ ls) (sym (map-append (ask_line (names_of atoms)) asks (f ∷ []))))

more_agents : (atoms : AtomList) (c : Formula) (agents : List Agent) (a : Agent) →
    lines_with atoms c agents [] ++ agent_line (names_of atoms) a ∷ [] ≡ lines_with atoms c (agents ++ a ∷ []) []
more_agents atoms c agents a =
    ap (λ ls. atoms_line atoms ∷ constraint_line (names_of atoms) c ∷ ls)
    (ap (λ ls. ls ++ agent_line (names_of atoms) a ∷ []) (append-nil (map (agent_line (names_of atoms)) agents))
    ∙ sym (map-append (agent_line (names_of atoms)) agents (a ∷ []))
    ∙ sym (append-nil (map (agent_line (names_of atoms)) (agents ++ a ∷ []))))

step_atoms : (lines : List Line) (line : Line) (d : Draft) (said : Said) → Declares lines d → Shape after_nothing lines d → Begins line (codes "atoms") →
    Says d line said → IsWritten d line said → Shaped after_atoms (lines ++ line ∷ [])
step_atoms lines line d Nothing h s b says w = absurd w
step_atoms lines line d (Names atoms) h s b says w = (
  after d (Names atoms),
  one_more line (after d (Names atoms)) h (Names atoms, says, refl),
  (
    ap (λ ls. ls ++ line ∷ []) s.0 ∙ ap (λ l. l ∷ []) (subst (λ (x : Draft). IsWritten x line (Names atoms)) s.1 w),
    ap (λ (x : Draft). x.constraint) s.1,
    ap (λ (x : Draft). x.agents) s.1,
    ap (λ (x : Draft). x.asks) s.1,
  ),
)
step_atoms lines line d (Condition f) h s b says w = let no = sym b ∙ ap (λ l. starts_with nat_eq l (codes "atoms")) w in absurd (cc)
step_atoms lines line d (Belief a) h s b says w = let no = sym b ∙ ap (λ l. starts_with nat_eq l (codes "atoms")) w in absurd (cc)
step_atoms lines line d (Query f) h s b says w = let no = sym b ∙ ap (λ l. starts_with nat_eq l (codes "atoms")) w in absurd (cc)

step_constraint : (lines : List Line) (line : Line) (d : Draft) (said : Said) → Declares lines d → Shape after_atoms lines d → Begins line (codes "constraint") →
    Says d line said → IsWritten d line said → Shaped in_agents (lines ++ line ∷ [])
step_constraint lines line d Nothing h s b says w = absurd w
step_constraint lines line d (Names atoms) h s b says w = let no = sym b ∙ ap (λ l. starts_with nat_eq l (codes "constraint")) w in absurd (cc)
step_constraint lines line d (Condition f) h s b says w = (
  after d (Condition f),
  one_more line (after d (Condition f)) h (Condition f, says, refl),
  (f, refl, s.3, ap (λ ls. ls ++ line ∷ []) s.0 ∙ ap (λ l. atoms_line d.atoms ∷ l ∷ []) w ∙ ap (λ (xs : List Agent). lines_with d.atoms f xs []) (sym s.2)),
)
step_constraint lines line d (Belief a) h s b says w = let no = sym b ∙ ap (λ l. starts_with nat_eq l (codes "constraint")) w in absurd (cc)
step_constraint lines line d (Query f) h s b says w = let no = sym b ∙ ap (λ l. starts_with nat_eq l (codes "constraint")) w in absurd (cc)

step_agent : (lines : List Line) (line : Line) (d : Draft) (said : Said) → Declares lines d → Shape in_agents lines d → Begins line (codes "agent") →
    Says d line said → IsWritten d line said → Shaped in_agents (lines ++ line ∷ [])
step_agent lines line d Nothing h s b says w = absurd w
step_agent lines line d (Names atoms) h s b says w = let no = sym b ∙ ap (λ l. starts_with nat_eq l (codes "agent")) w in absurd (cc)
step_agent lines line d (Condition f) h s b says w = let no = sym b ∙ ap (λ l. starts_with nat_eq l (codes "agent")) w in absurd (cc)
step_agent lines line d (Belief a) h s b says w = (
  after d (Belief a),
  one_more line (after d (Belief a)) h (Belief a, says, refl),
  (s.0, s.1, s.2, ap (λ ls. ls ++ line ∷ []) s.3 ∙ ap (λ l. lines_with d.atoms s.0 d.agents [] ++ l ∷ []) w ∙ more_agents d.atoms s.0 d.agents a),
)
step_agent lines line d (Query f) h s b says w = let no = sym b ∙ ap (λ l. starts_with nat_eq l (codes "agent")) w in absurd (cc)

step_ask : (lines : List Line) (line : Line) (d : Draft) (said : Said) → Declares lines d → Shape in_asks lines d → Begins line (codes "ask") →
    Says d line said → IsWritten d line said → Shaped in_asks (lines ++ line ∷ [])
step_ask lines line d Nothing h s b says w = absurd w
step_ask lines line d (Names atoms) h s b says w = let no = sym b ∙ ap (λ l. starts_with nat_eq l (codes "ask")) w in absurd (cc)
step_ask lines line d (Condition f) h s b says w = let no = sym b ∙ ap (λ l. starts_with nat_eq l (codes "ask")) w in absurd (cc)
step_ask lines line d (Belief a) h s b says w = let no = sym b ∙ ap (λ l. starts_with nat_eq l (codes "ask")) w in absurd (cc)
step_ask lines line d (Query f) h s b says w = (
  after d (Query f),
  one_more line (after d (Query f)) h (Query f, says, refl),
  (s.0, s.1, ap (λ ls. ls ++ line ∷ []) s.2 ∙ ap (λ l. lines_with d.atoms s.0 d.agents d.asks ++ l ∷ []) w ∙ more_asks d.atoms s.0 d.agents d.asks f),
)

begun_asks : (lines : List Line) (d : Draft) → Shape in_agents lines d → Shape in_asks lines d
begun_asks lines d s = (s.0, s.1, s.3 ∙ ap (λ (qs : List Formula). lines_with d.atoms s.0 d.agents qs) (sym s.2))

shaped : (place : Place) (lines : List Line) → InOrder place lines → Shaped place lines
shaped _ _ no_line = (empty_draft, no_lines, (refl, refl))
shaped _ _ (atoms_come {lines = lines} line before h) =
    let s = shaped after_nothing lines before in
    step_atoms lines line h.next.0 h.next.1 h.next.2 (moved after_nothing lines s.1 h.next.2 s.2) h.first h.next.3 h.next.4
shaped _ _ (constraint_comes {lines = lines} line before h) =
    let s = shaped after_atoms lines before in
    step_constraint lines line h.next.0 h.next.1 h.next.2 (moved after_atoms lines s.1 h.next.2 s.2) h.first h.next.3 h.next.4
shaped _ _ (agent_comes {lines = lines} line before h) =
    let s = shaped in_agents lines before in
    step_agent lines line h.next.0 h.next.1 h.next.2 (moved in_agents lines s.1 h.next.2 s.2) h.first h.next.3 h.next.4
shaped _ _ (first_ask {lines = lines} line before h) =
    let s = shaped in_agents lines before in
    step_ask lines line h.next.0 h.next.1 h.next.2 (begun_asks lines h.next.0 (moved in_agents lines s.1 h.next.2 s.2)) h.first h.next.3 h.next.4
shaped _ _ (ask_comes {lines = lines} line before h) =
    let s = shaped in_asks lines before in
    step_ask lines line h.next.0 h.next.1 h.next.2 (moved in_asks lines s.1 h.next.2 s.2) h.first h.next.3 h.next.4

same_lines : (d : Draft) (p : Problem) (c : Formula) → IsProblemOf d p → d.constraint ≡ Some c → lines_with d.atoms c d.agents d.asks ≡ problem_lines p
same_lines d p c h e =
    let constraint : c ≡ p.constraint = sym (h.constraint ∙ ap (λ (x : Option Formula). unwrap_or x formula.Top) e) in
    ap (λ (atoms : AtomList). lines_with atoms c d.agents d.asks) (sym h.atoms)
    ∙ ap (λ (x : Formula). lines_with p.atoms x d.agents d.asks) constraint
    ∙ ap (λ (xs : List Agent). lines_with p.atoms p.constraint xs d.asks) (sym h.agents)
    ∙ ap (λ (qs : List Formula). lines_with p.atoms p.constraint p.agents qs) (sym h.asks)

spelled : (place : Place) (lines : List Line) (p : Problem) (d : Draft) → Shape place lines d → IsProblemOf d p → lines ≡ problem_lines p
spelled after_nothing lines p d s h = absurd (h.some_atom (ap (λ (x : Draft). x.atoms) s.1))
spelled after_atoms lines p d s h = absurd (h.some_agent s.2)
spelled in_agents lines p d s h = let t = begun_asks lines d s in t.2 ∙ same_lines d p t.0 h t.1
spelled in_asks lines p d s h = s.2 ∙ same_lines d p s.0 h s.1

pub in_order : (lines : List Line) (place : Place) (p : Problem) → InOrder place lines → Spell lines p → lines ≡ problem_lines p
in_order lines place p order h =
    let s = shaped place lines order in
    spelled place lines p h.0 (moved place lines s.1 h.1 s.2) h.2
