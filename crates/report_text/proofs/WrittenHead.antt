-- The head and the lines of the problem.
use Rattle.std.proofs.Common.{◌≡◌, ℕ, ◌≤◌, ◌==◌, true, false, not, List, [], ◌∷◌, ◌++◌, length, map, codes, refl, ap, sym, subst, ◌∙◌, arith, inl, inr}
use Rattle.std.specs.Prelude.{nat_eq}
use Rattle.std.specs.List.{AllByRecursion, starts_with}
use Rattle.std.proofs.lemmas.Bool.Decides.{nat_tests}
use Rattle.formulas.specs.declared.formula.Formula.{Formula}
use Rattle.formulas.specs.Names.{is_word_byte}
use Rattle.clause_store.proofs.Each.{each_of_index}
use Rattle.merge_model.specs.declared.agent.Agent.{Agent}
use Rattle.merge_model.specs.declared.problem.Problem.{Problem}
use Rattle.problem_reading.specs.declared.said.Said.{Said}
use Rattle.problem_reading.specs.declared.said.Said.TheVariants.{Nothing, Names, Condition, Belief, Query}
use Rattle.problem_reading.specs.Canonical.{IsWritten}
use Rattle.problem_reading.specs.Drafts.{Draft, empty_draft}
use Rattle.problem_reading.specs.Saying as saying
use Rattle.problem_laws.proofs.CanonicalText.{canonical_written}
use Rattle.problem_laws.proofs.LineBytes.{other, passes, Passes, lines_pass}
use Rattle.problem_laws.proofs.Written.{AddsWritten, DeclaresWritten, none_written, more_written}
use Rattle.profile_text.specs.ProblemText.{agent_line, ask_line, atoms_line, constraint_line, problem_lines}
use Rattle.report_lines.specs.declared.kinds.Due.{Due}
use Rattle.report_lines.specs.declared.kinds.Due.TheVariants as due
use Rattle.report_lines.specs.Items.{Item, ProblemLine, HeadLine, DistanceLine, AggregatorLine, ConflictsLine}
use Rattle.report_lines.specs.Places.{Position, start, DueAt, IsAnswerLine, first_word, conflict_limit}
use Rattle.report_lines.specs.Following.{after, after_said, due_after_said}
use Rattle.report_lines.specs.Judged.{Run}
use Rattle.report_lines.specs.Parts.{Asked, head_items}
use Rattle.report_text.proofs.WrittenPlaces.{begun, draft_of}
use Rattle.report_text.proofs.WrittenText.{HasNoFeed}

pub head_run : (asked : Asked) → 1 ≤ asked.conflicts → asked.conflicts ≤ conflict_limit → Run start (head_items asked) (begun asked empty_draft due.Atoms)
head_run asked some few =
    let p1 : Position = after start HeadLine in
    let p2 : Position = after p1 (DistanceLine asked.distance) in
    let p3 : Position = after p2 (AggregatorLine asked.aggregator) in
    let p4 : Position = after p3 (ConflictsLine asked.conflicts) in
    (p1, refl, (refl, refl), (p2, (asked.distance, refl), (refl, refl), (p3, (asked.aggregator, refl), (refl, refl), (p4, (asked.conflicts, refl, some, few), (refl, refl), refl))))

-- lines that each add to what is declared, from the front

abbrev Chain : Draft → List (List ℕ) → Draft → Type 0
Chain d [] e = d ≡ e
Chain d (line ∷ lines) e = (m : Draft) × AddsWritten d line m × Chain m lines e

chain_push : (d m e : Draft) (lines : List (List ℕ)) (line : List ℕ) → Chain d lines m → AddsWritten m line e → Chain d (lines ++ line ∷ []) e
chain_push d m e [] line c a = (e, subst (λ (x : Draft). AddsWritten x line e) (sym c) a, refl)
chain_push d m e (l ∷ ls) line c a = (c.0, c.1, chain_push c.0 m e ls line c.2 a)

chain_of : {lines : List (List ℕ)} {d : Draft} → DeclaresWritten lines d → Chain empty_draft lines d
chain_of none_written = refl
chain_of (more_written {lines = ls} {d = d} line e h adds) = chain_push empty_draft d e ls line (chain_of h) adds

-- what a line says, by its first word

abbrev Begins : List ℕ → List ℕ → Type 0
Begins line word = starts_with nat_eq line word ≡ true

names_said : (d : Draft) (line : List ℕ) (said : Said) → Begins line (codes "atoms") → IsWritten d line said → due_after_said said ≡ due.Constraint
names_said d line Nothing b w = absurd w
names_said d line (Names atoms) b w = refl
names_said d line (Condition f) b w = let no = sym b ∙ ap (λ l. starts_with nat_eq l (codes "atoms")) w in absurd (cc)
names_said d line (Belief a) b w = let no = sym b ∙ ap (λ l. starts_with nat_eq l (codes "atoms")) w in absurd (cc)
names_said d line (Query f) b w = let no = sym b ∙ ap (λ l. starts_with nat_eq l (codes "atoms")) w in absurd (cc)

condition_said : (d : Draft) (line : List ℕ) (said : Said) → Begins line (codes "constraint") → IsWritten d line said → due_after_said said ≡ due.FirstAgent
condition_said d line Nothing b w = absurd w
condition_said d line (Names atoms) b w = let no = sym b ∙ ap (λ l. starts_with nat_eq l (codes "constraint")) w in absurd (cc)
condition_said d line (Condition f) b w = refl
condition_said d line (Belief a) b w = let no = sym b ∙ ap (λ l. starts_with nat_eq l (codes "constraint")) w in absurd (cc)
condition_said d line (Query f) b w = let no = sym b ∙ ap (λ l. starts_with nat_eq l (codes "constraint")) w in absurd (cc)

belief_said : (d : Draft) (line : List ℕ) (said : Said) → Begins line (codes "agent") → IsWritten d line said → due_after_said said ≡ due.Agents
belief_said d line Nothing b w = absurd w
belief_said d line (Names atoms) b w = let no = sym b ∙ ap (λ l. starts_with nat_eq l (codes "agent")) w in absurd (cc)
belief_said d line (Condition f) b w = let no = sym b ∙ ap (λ l. starts_with nat_eq l (codes "agent")) w in absurd (cc)
belief_said d line (Belief a) b w = refl
belief_said d line (Query f) b w = let no = sym b ∙ ap (λ l. starts_with nat_eq l (codes "agent")) w in absurd (cc)

query_said : (d : Draft) (line : List ℕ) (said : Said) → Begins line (codes "ask") → IsWritten d line said → due_after_said said ≡ due.Asks
query_said d line Nothing b w = absurd w
query_said d line (Names atoms) b w = let no = sym b ∙ ap (λ l. starts_with nat_eq l (codes "ask")) w in absurd (cc)
query_said d line (Condition f) b w = let no = sym b ∙ ap (λ l. starts_with nat_eq l (codes "ask")) w in absurd (cc)
query_said d line (Belief a) b w = let no = sym b ∙ ap (λ l. starts_with nat_eq l (codes "ask")) w in absurd (cc)
query_said d line (Query f) b w = refl

atoms_word : (names : List (List ℕ)) → first_word (atoms_line names) ≡ codes "atoms"
atoms_word [] = refl
atoms_word (name ∷ names) = refl

-- the due line after the lines of a problem with these queries
abbrev pub last_due : List Formula → Due
last_due [] = due.Agents
last_due (ask ∷ asks) = due.Asks

pub answer_due : (asks : List Formula) (p : Position) (x : Item) → IsAnswerLine p x → DueAt (last_due asks) p x
answer_due [] p x h = inr (inr h)
answer_due (ask ∷ asks) p x h = inr h

module _ (asked : Asked) where
  line_next : (d m : Draft) (line : List ℕ) (items : List Item) (q : Position) (now next : Due) (adds : AddsWritten d line m) → due_after_said adds.0 ≡ next → DueAt now (begun asked d now) (ProblemLine line) →
      Run (begun asked m next) items q → Run (begun asked d now) (ProblemLine line ∷ items) q
  line_next d m line items q now next adds then is run =
      let same : begun asked m next ≡ after_said (begun asked d now) adds.0 = ap (λ (x : Draft). begun asked x next) adds.3 ∙ ap (λ (x : Due). begun asked (saying.after d adds.0) x) (sym then) in
      (begun asked m next, is, (adds.0, (adds.1, adds.2), same), run)

  module _ (names : List (List ℕ)) where
    asks_run : (asks : List Formula) (d e : Draft) → Chain d (map (ask_line names) asks) e → Run (begun asked d due.Asks) (map ProblemLine (map (ask_line names) asks)) (begun asked e due.Asks)
    asks_run [] d e c = ap (λ (x : Draft). begun asked x due.Asks) c
    asks_run (ask ∷ asks) d e c =
        line_next d c.0 (ask_line names ask) (map ProblemLine (map (ask_line names) asks)) (begun asked e due.Asks) due.Asks due.Asks c.1 (query_said d (ask_line names ask) c.1.0 refl c.1.2)
        (inl (ask_line names ask, refl, refl)) (asks_run asks c.0 e c.2)

    first_ask : (asks : List Formula) (d e : Draft) → Chain d (map (ask_line names) asks) e → Run (begun asked d due.Agents) (map ProblemLine (map (ask_line names) asks)) (begun asked e (last_due asks))
    first_ask [] d e c = ap (λ (x : Draft). begun asked x due.Agents) c
    first_ask (ask ∷ asks) d e c =
        line_next d c.0 (ask_line names ask) (map ProblemLine (map (ask_line names) asks)) (begun asked e due.Asks) due.Agents due.Asks c.1 (query_said d (ask_line names ask) c.1.0 refl c.1.2)
        (inr (inl (ask_line names ask, refl, refl))) (asks_run asks c.0 e c.2)

    agents_run : (agents : List Agent) (asks : List Formula) (d e : Draft) → Chain d (map (agent_line names) agents ++ map (ask_line names) asks) e →
        Run (begun asked d due.Agents) (map ProblemLine (map (agent_line names) agents ++ map (ask_line names) asks)) (begun asked e (last_due asks))
    agents_run [] asks d e c = first_ask asks d e c
    agents_run (agent ∷ agents) asks d e c =
        line_next d c.0 (agent_line names agent) (map ProblemLine (map (agent_line names) agents ++ map (ask_line names) asks)) (begun asked e (last_due asks)) due.Agents due.Agents c.1
        (belief_said d (agent_line names agent) c.1.0 refl c.1.2)
        (inl (agent_line names agent, refl, refl)) (agents_run agents asks c.0 e c.2)

    first_agent : (agents : List Agent) (asks : List Formula) (d e : Draft) → 1 ≤ length agents → Chain d (map (agent_line names) agents ++ map (ask_line names) asks) e →
        Run (begun asked d due.FirstAgent) (map ProblemLine (map (agent_line names) agents ++ map (ask_line names) asks)) (begun asked e (last_due asks))
    first_agent [] asks d e some c = absurd (omega arith)
    first_agent (agent ∷ agents) asks d e some c =
        line_next d c.0 (agent_line names agent) (map ProblemLine (map (agent_line names) agents ++ map (ask_line names) asks)) (begun asked e (last_due asks)) due.FirstAgent due.Agents c.1
        (belief_said d (agent_line names agent) c.1.0 refl c.1.2)
        (agent_line names agent, refl, refl) (agents_run agents asks c.0 e c.2)

  pub problem_run : (p : Problem) → Run (begun asked empty_draft due.Atoms) (map ProblemLine (problem_lines p)) (begun asked (draft_of p) (last_due p.asks))
  problem_run p =
      let names = p.atoms in
      let rest = map (agent_line names) p.agents ++ map (ask_line names) p.asks in
      let c : Chain empty_draft (atoms_line names ∷ constraint_line names p.constraint ∷ rest) (draft_of p) = chain_of (canonical_written p) in
      let k = c.2 in
      let end : Position = begun asked (draft_of p) (last_due p.asks) in
      line_next empty_draft c.0 (atoms_line names) (ProblemLine (constraint_line names p.constraint) ∷ map ProblemLine rest) end due.Atoms due.Constraint c.1
      (names_said empty_draft (atoms_line names) c.1.0 refl c.1.2) (atoms_line names, refl, atoms_word names)
      (line_next c.0 k.0 (constraint_line names p.constraint) (map ProblemLine rest) end due.Constraint due.FirstAgent k.1
      (condition_said c.0 (constraint_line names p.constraint) k.1.0 refl k.1.2) (constraint_line names p.constraint, refl, refl)
      (first_agent names p.agents p.asks k.0 (draft_of p) p.limits.some_agent k.2))

-- no line feed stands in the lines of a problem

feed_word : (byte : ℕ) → is_word_byte byte ≡ true → other 10 byte ≡ true
feed_word byte h =
    elim (byte == 10) as (λ t. (byte == 10) ≡ t → not t ≡ true) [
      | true ↦ λ e. let same : byte ≡ 10 = grind (arith, nat_tests) in absurd (let no : is_word_byte byte ≡ false = ap is_word_byte same in grind (arith, h, no))
      | false ↦ λ e. refl
    ] refl

feed : Passes (other 10)
feed = record { words = feed_word; top = refl; bottom = refl; bang = refl; opens = refl; closes = refl; both = refl; either = refl; implies = refl; same = refl; blank = refl; atoms = refl; constraint = refl; agent = refl; times = refl; colon = refl; ask = refl }

items_feed : (lines : List (List ℕ)) → AllByRecursion (λ line. passes (other 10) line ≡ true) lines → AllByRecursion HasNoFeed (map ProblemLine lines)
items_feed [] h = tt
items_feed (line ∷ lines) h = (h.0, items_feed lines h.1)

pub problem_feed : (p : Problem) → AllByRecursion HasNoFeed (map ProblemLine (problem_lines p))
problem_feed p = items_feed (problem_lines p) (each_of_index (λ line. passes (other 10) line ≡ true) (problem_lines p) (lines_pass (other 10) feed p))
