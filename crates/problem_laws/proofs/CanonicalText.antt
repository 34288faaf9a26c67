-- The lines of a canonical text, one after another: each is canonical after those before it.
use Rattle.std.proofs.Common.{◌≡◌, ℕ, suc, ◌+◌, ◌<◌, ◌≤◌, Bool, true, false, not, ◌||◌, List, [], ◌∷◌, ◌++◌, length, map, take, get_or, nat_lt, Some, None, refl, sym, ap, ◌∙◌, subst, arith, append_assoc, append-nil}
use Rattle.std.specs.Prelude.{All, sum_by}
use Rattle.std.specs.List.{list_all, list_any}
use Rattle.std.specs.Str.{bytes_eq}
use Rattle.std.proofs.lemmas.Bool.Decides.{nat_tests}
use Rattle.std.proofs.lemmas.List.{length-append, map-append}
use Rattle.std.proofs.lemmas.List.Elements.{All-head, All-tail}
use Rattle.std.proofs.lemmas.List.Sums.{sum_by-append, sum_by-cons}
use Rattle.formulas.specs.Names.{is_name, is_reserved, are_distinct, are_names, names_of}
use Rattle.formulas.specs.Formulas.{nodes_of}
use Rattle.formulas.specs.declared.formula.Formula.{Formula}
use Rattle.formulas.proofs.NameViews.{list_any-map}
use Rattle.formulas.specs.Limits.{agent_limit, ask_limit, atom_limit, node_limit, times_limit}
use Rattle.formula_text.specs.CanonicalText.{formula_text}
use Rattle.line_tokens.specs.Bytes.{is_bad}
use Rattle.line_tokens.specs.Lexemes.{Lexeme, lexemes_of}
use Rattle.line_tokens.proofs.Words.{word_not_bad}
use Rattle.formula_grammar.specs.Readings.{IsRead}
use Rattle.formula_grammar.proofs.Measures.{nodes_spelled}
use Rattle.formula_grammar.proofs.Names.{nodes_of_symbols}
use Rattle.formula_grammar.proofs.ReadBack.{read_back}
use Rattle.merge_model.specs.declared.agent.Agent.{Agent}
use Rattle.merge_model.specs.declared.problem.Problem.{Problem}
use Rattle.merge_model.specs.Limits.{IsWithin}
use Rattle.problem_lines.specs.Lines.{content_of}
use Rattle.problem_lines.specs.Forms.{Form, declaration, condition, belief, query, form_of}
use Rattle.problem_reading.specs.declared.said.Said.{Said}
use Rattle.problem_reading.specs.declared.said.Said.TheVariants.{Names, Condition, Belief, Query}
use Rattle.problem_reading.specs.Drafts.{Draft, empty_draft, other_size, total_times, size_of, is_long}
use Rattle.problem_reading.specs.Saying.{IsSaid, Says}
use Rattle.problem_reading.specs.Spelling.{Declares, Spelled}
use Rattle.profile_text.specs.ProblemText.{agent_line, ask_line, atoms_line, constraint_line, problem_lines, problem_text}
use Rattle.profile_text.proofs.NameLists.{name_of_item}
use Rattle.problem_laws.proofs.LineBytes.{Passes, lines_pass, no_comments, text_lines}
use Rattle.problem_laws.proofs.Written.{AddsWritten, DeclaresWritten, none_written, more_written, written_declares}
use Rattle.problem_laws.proofs.LineForms.{agent_form_of, ask_form_of, atoms_form_of, constraint_form_of}

-- a byte that is not bad
abbrev good : ℕ → Bool
good byte = not (is_bad byte)

good_ones : Passes good
good_ones = record { words = λ b h. ap not (word_not_bad b h); top = refl; bottom = refl; bang = refl; opens = refl; closes = refl; both = refl; either = refl; implies = refl; same = refl; blank = refl; atoms = refl; constraint = refl; agent = refl; times = refl; colon = refl; ask = refl }

none_of : (test : ℕ → Bool) (bytes : List ℕ) → list_all (λ b. not (test b)) bytes ≡ true → list_any test bytes ≡ false
none_of test [] h = refl
none_of test (b ∷ bytes) h = let rest : list_any test bytes ≡ false = none_of test bytes (grind (arith, h)) in grind (arith, h, rest)

-- a line says what its form says
says : (d : Draft) (line : List ℕ) (form : Form) (what : Said) → content_of line ≡ line → list_all good line ≡ true → form_of (lexemes_of line) ≡ form → IsSaid d form what → Says d line what
says d line form what content fine form_is said = record {
  good = ap (list_any is_bad) content ∙ none_of is_bad line fine;
  said = (let P : Form → Type 0 = λ f. IsSaid d f what in subst P (sym (ap (λ l. form_of (lexemes_of l)) content ∙ form_is)) said);
}

-- what is so of each is so of the one in the middle
in_middle : {X : Type 0} (P : X → Type 0) (front : List X) (x : X) (rest : List X) → All P (front ++ x ∷ rest) → P x
in_middle P [] x rest h = All-head P x rest h
in_middle P (y ∷ front) x rest h = in_middle P front x rest (All-tail P y (front ++ x ∷ rest) h)

middle_at : {X : Type 0} (front : List X) (x : X) (rest : List X) → (length front < length (front ++ x ∷ rest)) × (x ≡ get_or (front ++ x ∷ rest) (length front) x) × (take (length front) (front ++ x ∷ rest) ≡ front)
middle_at [] x rest = (omega arith, refl, refl)
middle_at (y ∷ front) x rest =
    let more = middle_at front x rest in
    (omega (arith, more.0), more.1, ap (λ l. y ∷ l) more.2)

short_name : (name : List ℕ) → is_name name ≡ true → is_long name ≡ false
short_name name h = grind (arith, nat_tests, h)

short_names : (names : List (List ℕ)) → list_all is_name names ≡ true → list_any is_long names ≡ false
short_names [] h = refl
short_names (name ∷ names) h =
    let rest : list_any is_long names ≡ false = short_names names (grind (arith, h)) in
    let here : is_long name ≡ false = short_name name (grind (arith, h)) in
    grind (arith, rest, here)

free_names : (names : List (List ℕ)) → list_all is_name names ≡ true → list_any is_reserved names ≡ false
free_names [] h = refl
free_names (name ∷ names) h =
    let rest : list_any is_reserved names ≡ false = free_names names (grind (arith, h)) in
    let here : is_reserved name ≡ false = grind (arith, h) in
    grind (arith, rest, here)

none_there : (names : List (List ℕ)) → list_any (λ name. list_any (bytes_eq name) []) names ≡ false
none_there [] = refl
none_there (name ∷ names) = none_there names

module _ (p : Problem) where
  abbrev names : List (List ℕ)
  names = names_of p.atoms

  known : are_names names ≡ true
  known = p.limits.atom_names

  legal : list_all is_name names ≡ true
  legal = let h = known in grind (arith, h)

  abbrev text : Formula → List Lexeme
  text f = lexemes_of (formula_text names f)

  read : (f : Formula) → IsWithin (length names) f → IsRead names (text f) f
  read f within = (read_back names known f within.width within.depth).read

  size_is : (f : Formula) → IsWithin (length names) f → size_of (text f) ≡ nodes_of f
  size_is f within = sym (nodes_of_symbols names (text f)) ∙ sym (nodes_spelled (read f within).spelled)

  -- each line stands in the text as it is
  abbrev Stands : List ℕ → Type 0
  Stands line = (content_of line ≡ line) × (list_all good line ≡ true)

  stand : All Stands (problem_lines p)
  stand = λ k d l. (no_comments p k d l, lines_pass good good_ones p k d l)

  atoms_stands : Stands (atoms_line names)
  atoms_stands = in_middle Stands [] (atoms_line names) (constraint_line names p.constraint ∷ (map (agent_line names) p.agents ++ map (ask_line names) p.asks)) stand

  constraint_stands : Stands (constraint_line names p.constraint)
  constraint_stands = in_middle Stands (atoms_line names ∷ []) (constraint_line names p.constraint) (map (agent_line names) p.agents ++ map (ask_line names) p.asks) stand

  abbrev of_agents : List Agent → Draft
  of_agents agents = record { atoms = names; constraint = Some p.constraint; agents = agents; asks = [] }

  abbrev of_asks : List Formula → Draft
  of_asks asks = record { atoms = names; constraint = Some p.constraint; agents = p.agents; asks = asks }

  atoms_said : IsSaid empty_draft (declaration names) (Names names)
  atoms_said =
      let h = known in
      let distinct : are_distinct names ≡ true = grind (arith, h) in
      let elsewhere : list_any (λ name. list_any (bytes_eq name) []) names ≡ false = none_there names in
      let short : list_any is_long names ≡ false = short_names names legal in
      let few : nat_lt atom_limit (0 + length names) ≡ false = grind (arith, nat_tests, p.limits.few_atoms) in
      (free_names names legal, ap (λ t. not t || list_any (λ name. list_any (bytes_eq name) []) names) distinct ∙ elsewhere, grind (arith, few, short), refl)

  constraint_said : IsSaid (record { atoms = names; constraint = None; agents = []; asks = [] }) (condition (text p.constraint)) (Condition p.constraint)
  constraint_said =
      let size : size_of (text p.constraint) ≡ nodes_of p.constraint = size_is p.constraint p.limits.constraint_within in
      let few : nat_lt node_limit (0 + 0 + size_of (text p.constraint)) ≡ false = grind (arith, nat_tests, size, p.limits.few_nodes) in
      (read p.constraint p.limits.constraint_within, refl, few)

  abbrev first_lines : List (List ℕ)
  first_lines = atoms_line names ∷ constraint_line names p.constraint ∷ []

  begun : DeclaresWritten first_lines (of_agents [])
  begun =
      more_written (constraint_line names p.constraint) (of_agents [])
      (more_written (atoms_line names) (record { atoms = names; constraint = None; agents = []; asks = [] }) none_written
      (Names names, says empty_draft (atoms_line names) (declaration names) (Names names) atoms_stands.0 atoms_stands.1 (atoms_form_of names known p.limits.some_atom) atoms_said, refl, refl)) (
        Condition p.constraint,
        says (record { atoms = names; constraint = None; agents = []; asks = [] }) (constraint_line names p.constraint) (condition (text p.constraint)) (Condition p.constraint)
            constraint_stands.0 constraint_stands.1 (constraint_form_of (formula_text names p.constraint)) constraint_said,
        refl,
        refl,
      )

  -- an agent after those before it
  module _ (done : List Agent) (agent : Agent) (rest : List Agent) (are : p.agents ≡ done ++ agent ∷ rest) where
    within : IsWithin (length names) agent.base
    within = in_middle (λ a. IsWithin (length names) a.base) done agent rest (subst (All (λ a. IsWithin (length names) a.base)) are p.limits.bases_within)

    counts : 1 ≤ agent.times
    counts = in_middle (λ a. 1 ≤ a.times) done agent rest (subst (All (λ a. 1 ≤ a.times)) are p.limits.each_counts)

    times_are : sum_by (λ a. a.times) p.agents ≡ sum_by (λ a. a.times) done + (agent.times + sum_by (λ a. a.times) rest)
    times_are = ap (sum_by (λ a. a.times)) are ∙ sum_by-append (λ a. a.times) done (agent ∷ rest) ∙ ap (λ n. sum_by (λ a. a.times) done + n) (sum_by-cons (λ a. a.times) agent rest)

    nodes_are : sum_by (λ a. nodes_of a.base) p.agents ≡ sum_by (λ a. nodes_of a.base) done + (nodes_of agent.base + sum_by (λ a. nodes_of a.base) rest)
    nodes_are = ap (sum_by (λ a. nodes_of a.base)) are ∙ sum_by-append (λ a. nodes_of a.base) done (agent ∷ rest) ∙ ap (λ n. sum_by (λ a. nodes_of a.base) done + n) (sum_by-cons (λ a. nodes_of a.base) agent rest)

    named : (is_name agent.name ≡ true) × (list_any (bytes_eq agent.name) (map (λ a. a.name) done) ≡ false)
    named =
        let at = middle_at done agent rest in
        let all : are_names (map (λ a. a.name) (done ++ agent ∷ rest)) ≡ true = sym (ap (λ xs. are_names (map (λ a. a.name) xs)) are) ∙ p.limits.agent_names in
        let found = name_of_item (λ a. a.name) (done ++ agent ∷ rest) (length done) agent all at.0 at.1 in
        (found.0, ap (λ xs. list_any (bytes_eq agent.name) (map (λ a. a.name) xs)) (sym at.2) ∙ found.1)

    agent_stands : Stands (agent_line names agent)
    agent_stands =
        let lines : problem_lines p ≡ (first_lines ++ map (agent_line names) done) ++ agent_line names agent ∷ (map (agent_line names) rest ++ map (ask_line names) p.asks) =
        ap (λ xs. first_lines ++ (map (agent_line names) xs ++ map (ask_line names) p.asks)) are
        ∙ ap (λ ls. first_lines ++ (ls ++ map (ask_line names) p.asks)) (map-append (agent_line names) done (agent ∷ rest))
        ∙ ap (λ ls. first_lines ++ ls) (append_assoc (map (agent_line names) done) (agent_line names agent ∷ map (agent_line names) rest) (map (ask_line names) p.asks))
        ∙ sym (append_assoc first_lines (map (agent_line names) done) (agent_line names agent ∷ (map (agent_line names) rest ++ map (ask_line names) p.asks))) in
        in_middle Stands (first_lines ++ map (agent_line names) done) (agent_line names agent) (map (agent_line names) rest ++ map (ask_line names) p.asks) (subst (All Stands) lines stand)

    agent_said : IsSaid (of_agents done) (belief agent.name agent.times (text agent.base)) (Belief agent)
    agent_said =
        let size : size_of (text agent.base) ≡ nodes_of agent.base = size_is agent.base within in
        let count : length p.agents ≡ length done + suc (length rest) = ap length are ∙ length-append done (agent ∷ rest) in
        let free : is_reserved agent.name ≡ false = let h = named.0 in grind (arith, h) in
        let fresh : list_any (λ a. bytes_eq agent.name a.name) done ≡ false = sym (list_any-map (bytes_eq agent.name) (λ a. a.name) done) ∙ named.1 in
        let few : nat_lt agent_limit (length done + 1) ≡ false = grind (arith, nat_tests, count, p.limits.few_agents) in
        let short : is_long agent.name ≡ false = short_name agent.name named.0 in
        let seldom : nat_lt times_limit (total_times done + agent.times) ≡ false = grind (arith, nat_tests, times_are, p.limits.few_times) in
        let small : nat_lt node_limit (nodes_of p.constraint + other_size done [] + size_of (text agent.base)) ≡ false = grind (arith, nat_tests, size, nodes_are, p.limits.few_nodes) in
        (read agent.base within, free, fresh, grind (arith, few, short, seldom, small), refl, refl)

    agent_added : AddsWritten (of_agents done) (agent_line names agent) (of_agents (done ++ agent ∷ []))
    agent_added =
        let once : agent.times ≤ times_limit = omega (arith, times_are, p.limits.few_times) in (
          Belief agent,
          says (of_agents done) (agent_line names agent) (belief agent.name agent.times (text agent.base)) (Belief agent) agent_stands.0 agent_stands.1
              (agent_form_of names agent named.0 counts once) agent_said,
          refl,
          refl,
        )

  agents_declared : (done rest : List Agent) → p.agents ≡ done ++ rest → DeclaresWritten (first_lines ++ map (agent_line names) done) (of_agents done) →
      DeclaresWritten (first_lines ++ map (agent_line names) p.agents) (of_agents p.agents)
  agents_declared done [] are h =
      let P : List Agent → Type 0 = λ xs. DeclaresWritten (first_lines ++ map (agent_line names) xs) (of_agents xs) in
      subst P (sym (are ∙ append-nil done)) h
  agents_declared done (agent ∷ rest) are h =
      let lines : (first_lines ++ map (agent_line names) done) ++ agent_line names agent ∷ [] ≡ first_lines ++ map (agent_line names) (done ++ agent ∷ []) =
      append_assoc first_lines (map (agent_line names) done) (agent_line names agent ∷ []) ∙ ap (λ ls. first_lines ++ ls) (sym (map-append (agent_line names) done (agent ∷ []))) in
      let P : List (List ℕ) → Type 0 = λ ls. DeclaresWritten ls (of_agents (done ++ agent ∷ [])) in
      agents_declared (done ++ agent ∷ []) rest (are ∙ sym (append_assoc done (agent ∷ []) rest))
      (subst P lines (more_written (agent_line names agent) (of_agents (done ++ agent ∷ [])) h (agent_added done agent rest are)))

  abbrev body : List (List ℕ)
  body = first_lines ++ map (agent_line names) p.agents

  -- a query after those before it
  module _ (done : List Formula) (ask : Formula) (rest : List Formula) (are : p.asks ≡ done ++ ask ∷ rest) where
    ask_within : IsWithin (length names) ask
    ask_within = in_middle (IsWithin (length names)) done ask rest (subst (All (IsWithin (length names))) are p.limits.asks_within)

    asked_nodes : sum_by nodes_of p.asks ≡ sum_by nodes_of done + (nodes_of ask + sum_by nodes_of rest)
    asked_nodes = ap (sum_by nodes_of) are ∙ sum_by-append nodes_of done (ask ∷ rest) ∙ ap (λ n. sum_by nodes_of done + n) (sum_by-cons nodes_of ask rest)

    ask_stands : Stands (ask_line names ask)
    ask_stands =
        let lines : problem_lines p ≡ (body ++ map (ask_line names) done) ++ ask_line names ask ∷ map (ask_line names) rest =
        sym (append_assoc first_lines (map (agent_line names) p.agents) (map (ask_line names) p.asks))
        ∙ ap (λ xs. body ++ map (ask_line names) xs) are
        ∙ ap (λ ls. body ++ ls) (map-append (ask_line names) done (ask ∷ rest))
        ∙ sym (append_assoc body (map (ask_line names) done) (ask_line names ask ∷ map (ask_line names) rest)) in
        in_middle Stands (body ++ map (ask_line names) done) (ask_line names ask) (map (ask_line names) rest) (subst (All Stands) lines stand)

    ask_said : IsSaid (of_asks done) (query (text ask)) (Query ask)
    ask_said =
        let size : size_of (text ask) ≡ nodes_of ask = size_is ask ask_within in
        let count : length p.asks ≡ length done + suc (length rest) = ap length are ∙ length-append done (ask ∷ rest) in
        let few : nat_lt ask_limit (length done + 1) ≡ false = grind (arith, nat_tests, count, p.limits.few_asks) in
        let small : nat_lt node_limit (nodes_of p.constraint + other_size p.agents done + size_of (text ask)) ≡ false = grind (arith, nat_tests, size, asked_nodes, p.limits.few_nodes) in
        (read ask ask_within, grind (arith, few, small))

    ask_added : AddsWritten (of_asks done) (ask_line names ask) (of_asks (done ++ ask ∷ []))
    ask_added = (
      Query ask,
      says (of_asks done) (ask_line names ask) (query (text ask)) (Query ask) ask_stands.0 ask_stands.1 (ask_form_of (formula_text names ask)) ask_said,
      refl,
      refl,
    )

  asks_declared : (done rest : List Formula) → p.asks ≡ done ++ rest → DeclaresWritten (body ++ map (ask_line names) done) (of_asks done) →
      DeclaresWritten (body ++ map (ask_line names) p.asks) (of_asks p.asks)
  asks_declared done [] are h =
      let P : List Formula → Type 0 = λ xs. DeclaresWritten (body ++ map (ask_line names) xs) (of_asks xs) in
      subst P (sym (are ∙ append-nil done)) h
  asks_declared done (ask ∷ rest) are h =
      let lines : (body ++ map (ask_line names) done) ++ ask_line names ask ∷ [] ≡ body ++ map (ask_line names) (done ++ ask ∷ []) =
      append_assoc body (map (ask_line names) done) (ask_line names ask ∷ []) ∙ ap (λ ls. body ++ ls) (sym (map-append (ask_line names) done (ask ∷ []))) in
      let P : List (List ℕ) → Type 0 = λ ls. DeclaresWritten ls (of_asks (done ++ ask ∷ [])) in
      asks_declared (done ++ ask ∷ []) rest (are ∙ sym (append_assoc done (ask ∷ []) rest))
      (subst P lines (more_written (ask_line names ask) (of_asks (done ++ ask ∷ [])) h (ask_added done ask rest are)))

  pub canonical_written : DeclaresWritten (problem_lines p) (of_asks p.asks)
  canonical_written =
      let agents : DeclaresWritten body (of_agents p.agents) = agents_declared [] p.agents refl begun in
      let P : List (List ℕ) → Type 0 = λ ls. DeclaresWritten ls (of_asks []) in
      let whole = asks_declared [] p.asks refl (subst P (sym (append-nil body)) agents) in
      let Q : List (List ℕ) → Type 0 = λ ls. DeclaresWritten ls (of_asks p.asks) in
      subst Q (append_assoc first_lines (map (agent_line names) p.agents) (map (ask_line names) p.asks)) whole

  pub canonical_spelled : Spelled (problem_text p) p
  canonical_spelled = (
    of_asks p.asks,
    subst (λ (ls : List (List ℕ)). Declares ls (of_asks p.asks)) (sym (text_lines p)) (written_declares canonical_written),
    record {
      some_atom = λ e. let none : length p.atoms ≡ 0 = ap length e in let some = p.limits.some_atom in omega (arith, none, some);
      some_agent = λ e. let none : length p.agents ≡ 0 = ap length e in let some = p.limits.some_agent in omega (arith, none, some);
      atoms = refl;
      constraint = refl;
      agents = refl;
      asks = refl;
    },
  )
