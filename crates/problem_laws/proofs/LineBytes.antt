-- The bytes of canonical lines.
use Rattle.std.proofs.Common.{◌≡◌, ℕ, zero, suc, ◌+◌, ◌≤◌, ◌==◌, Bool, true, false, not, List, [], ◌∷◌, ◌++◌, map, take, cond, get_or, if◌then◌else◌, refl, ap, ◌∙◌, arith, append_assoc}
use Rattle.std.specs.Prelude.{All, codes, decimal}
use Rattle.std.specs.List.{list_all, prefix_len}
use Rattle.std.proofs.lemmas.List.Folds.{list_all-append}
use Rattle.std.proofs.lemmas.List.Elements.{All-cons, All-append, All-head, All-map, All-tail}
use Rattle.std.proofs.lemmas.List.Sums.{get_or-le-sum_by}
use Rattle.std.proofs.lemmas.Bool.Decides.{nat_tests}
use Rattle.formulas.specs.Names.{is_name, is_plain_name, is_word_byte}
use Rattle.formulas.specs.declared.formula.Formula.{Formula}
use Rattle.formulas.proofs.Equations.{fold_top, fold_bottom, fold_atom, fold_not, fold_and, fold_or, fold_implies, fold_iff, formula_induction}
use Rattle.formulas.specs.Limits.{times_limit}
use Rattle.formula_text.specs.CanonicalText.{formula_text, joined_text, name_of, text_step}
use Rattle.merge_model.specs.declared.agent.Agent.{Agent}
use Rattle.merge_model.specs.declared.problem.Problem.{Problem}
use Rattle.problem_lines.specs.Lines.{content_of, lines_of, with_byte}
use Rattle.profile_text.specs.ProblemText.{agent_line, ask_line, atoms_line, constraint_line, lines_text, problem_lines, problem_text, spaced_names, times_text}
use Rattle.profile_text.proofs.NameLists.{name_of_item, same_default}
use Rattle.problem_laws.proofs.LineForms.{plain, reads_well, all_times, well_at}

-- a byte is not the mark
abbrev pub other : ℕ → ℕ → Bool
other mark byte = not (byte == mark)

-- each byte passes a test
abbrev pub passes : (ℕ → Bool) → List ℕ → Bool
passes test bytes = list_all test bytes

joined : (test : ℕ → Bool) (a b : List ℕ) → passes test a ≡ true → passes test b ≡ true → passes test (a ++ b) ≡ true
joined test a b h i = grind (arith, list_all-append test a b)

-- what stands in canonical texts passes the test
pub record Passes (test : ℕ → Bool) : Type 0 where
  pub words : (byte : ℕ) → is_word_byte byte ≡ true → test byte ≡ true
  pub top : passes test (codes "true") ≡ true
  pub bottom : passes test (codes "false") ≡ true
  pub bang : passes test (codes "!") ≡ true
  pub opens : passes test (codes "(") ≡ true
  pub closes : passes test (codes ")") ≡ true
  pub both : passes test (codes " & ") ≡ true
  pub either : passes test (codes " | ") ≡ true
  pub implies : passes test (codes " -> ") ≡ true
  pub same : passes test (codes " <-> ") ≡ true
  pub blank : passes test (codes " ") ≡ true
  pub atoms : passes test (codes "atoms") ≡ true
  pub constraint : passes test (codes "constraint ") ≡ true
  pub agent : passes test (codes "agent ") ≡ true
  pub times : passes test (codes " times ") ≡ true
  pub colon : passes test (codes " : ") ≡ true
  pub ask : passes test (codes "ask ") ≡ true

module _ (test : ℕ → Bool) (fine : Passes test) where
  word_pass : (bytes : List ℕ) → list_all is_word_byte bytes ≡ true → passes test bytes ≡ true
  word_pass [] h = refl
  word_pass (b ∷ bytes) h =
      let first : test b ≡ true = fine.words b (grind arith) in
      let rest : passes test bytes ≡ true = word_pass bytes (grind arith) in
      grind (arith, first, rest)

  plain_pass : (name : List ℕ) → is_plain_name name ≡ true → passes test name ≡ true
  plain_pass [] h = refl
  plain_pass (b ∷ name) h = word_pass (b ∷ name) (grind arith)

  name_pass : (name : List ℕ) → is_name name ≡ true → passes test name ≡ true
  name_pass name h = plain_pass name (plain name h)

  atom_pass : (names : List (List ℕ)) (k : ℕ) → list_all is_name names ≡ true → passes test (name_of names k) ≡ true
  atom_pass [] k h = refl
  atom_pass (name ∷ names) zero h = name_pass name (grind arith)
  atom_pass (name ∷ names) (suc k) h = atom_pass names k (grind arith)

  joined_pass : (s m t : List ℕ) → passes test m ≡ true → passes test s ≡ true → passes test t ≡ true → passes test (joined_text s m t) ≡ true
  joined_pass s m t h i j =
      joined test (codes "(" ++ s ++ m ++ t) (codes ")")
      (joined test (codes "(" ++ s ++ m) t (joined test (codes "(" ++ s) m (joined test (codes "(") s fine.opens i) h) j)
      fine.closes

  module _ (names : List (List ℕ)) (legal : list_all is_name names ≡ true) where
    abbrev Fine : Formula → Type 0
    Fine f = passes test (formula_text names f) ≡ true

    pub formula_pass : (f : Formula) → Fine f
    formula_pass = formula_induction Fine
        (ap (passes test) (fold_top (text_step names)) ∙ fine.top)
        (ap (passes test) (fold_bottom (text_step names)) ∙ fine.bottom)
        (λ k. ap (passes test) (fold_atom (text_step names) k) ∙ atom_pass names k legal)
        (λ f h. ap (passes test) (fold_not (text_step names) f) ∙ joined test (codes "!") (formula_text names f) fine.bang h)
        (λ f g h i. ap (passes test) (fold_and (text_step names) f g) ∙ joined_pass (formula_text names f) (codes " & ") (formula_text names g) fine.both h i)
        (λ f g h i. ap (passes test) (fold_or (text_step names) f g) ∙ joined_pass (formula_text names f) (codes " | ") (formula_text names g) fine.either h i)
        (λ f g h i. ap (passes test) (fold_implies (text_step names) f g) ∙ joined_pass (formula_text names f) (codes " -> ") (formula_text names g) fine.implies h i)
        (λ f g h i. ap (passes test) (fold_iff (text_step names) f g) ∙ joined_pass (formula_text names f) (codes " <-> ") (formula_text names g) fine.same h i)

  spaced_pass : (names : List (List ℕ)) → list_all is_name names ≡ true → passes test (spaced_names names) ≡ true
  spaced_pass [] h = refl
  spaced_pass (name ∷ names) h =
      joined test (codes " " ++ name) (spaced_names names) (joined test (codes " ") name fine.blank (name_pass name (grind arith))) (spaced_pass names (grind arith))

  times_pass : (times : ℕ) (t : Bool) → 1 ≤ times → times ≤ times_limit → passes test (if t then [] else codes " times " ++ decimal times) ≡ true
  times_pass times true some few = refl
  times_pass times false some few =
      let well : reads_well times ≡ true = well_at times_limit times all_times some few in
      joined test (codes " times ") (decimal times) fine.times (word_pass (decimal times) (grind (arith, well)))

  agent_pass : (names : List (List ℕ)) (agent : Agent) → list_all is_name names ≡ true → is_name agent.name ≡ true → 1 ≤ agent.times → agent.times ≤ times_limit → passes test (agent_line names agent) ≡ true
  agent_pass names agent legal named some few =
      joined test (codes "agent " ++ agent.name ++ times_text agent.times ++ codes " : ") (formula_text names agent.base)
      (joined test (codes "agent " ++ agent.name ++ times_text agent.times) (codes " : ")
      (joined test (codes "agent " ++ agent.name) (times_text agent.times) (joined test (codes "agent ") agent.name fine.agent (name_pass agent.name named)) (times_pass agent.times (agent.times == 1) some few))
      fine.colon)
      (formula_pass names legal agent.base)

  abbrev Fits : List ℕ → Type 0
  Fits line = passes test line ≡ true

  -- each line of a problem passes
  pub lines_pass : (p : Problem) → All Fits (problem_lines p)
  lines_pass p =
      let known = p.limits.atom_names in
      let legal : list_all is_name p.atoms ≡ true = grind (arith, known) in
      let agents : All Fits (map (agent_line p.atoms) p.agents) = All-map Fits (agent_line p.atoms) p.agents
      (λ k d l. agent_pass p.atoms (get_or p.agents k d) legal
      (name_of_item (λ a. a.name) p.agents k (get_or p.agents k d) p.limits.agent_names l (same_default p.agents k d (get_or p.agents k d) l)).0
      (p.limits.each_counts k d l) (omega (arith, get_or-le-sum_by (λ a. a.times) p.agents k d l, p.limits.few_times))) in
      let asks : All Fits (map (ask_line p.atoms) p.asks) = All-map Fits (ask_line p.atoms) p.asks
      (λ k d l. joined test (codes "ask ") (formula_text p.atoms (get_or p.asks k d)) fine.ask (formula_pass p.atoms legal (get_or p.asks k d))) in
      All-cons Fits (atoms_line p.atoms) (constraint_line p.atoms p.constraint ∷ (map (agent_line p.atoms) p.agents ++ map (ask_line p.atoms) p.asks))
      (joined test (codes "atoms") (spaced_names p.atoms) fine.atoms (spaced_pass p.atoms legal))
      (All-cons Fits (constraint_line p.atoms p.constraint) (map (agent_line p.atoms) p.agents ++ map (ask_line p.atoms) p.asks)
      (joined test (codes "constraint ") (formula_text p.atoms p.constraint) fine.constraint (formula_pass p.atoms legal p.constraint))
      (All-append Fits (map (agent_line p.atoms) p.agents) (map (ask_line p.atoms) p.asks) agents asks))

-- a byte that is in no word
other_word : (mark : ℕ) → is_word_byte mark ≡ false → (byte : ℕ) → is_word_byte byte ≡ true → other mark byte ≡ true
other_word mark outside byte h =
    elim (byte == mark) as (λ t. (byte == mark) ≡ t → not t ≡ true) [
      | true ↦ λ e. let same : byte ≡ mark = grind (arith, nat_tests) in absurd (let no : is_word_byte byte ≡ false = ap is_word_byte same ∙ outside in grind (arith, h, no))
      | false ↦ λ e. refl
    ] refl

feed : Passes (other 10)
feed = record { words = other_word 10 refl; top = refl; bottom = refl; bang = refl; opens = refl; closes = refl; both = refl; either = refl; implies = refl; same = refl; blank = refl; atoms = refl; constraint = refl; agent = refl; times = refl; colon = refl; ask = refl }

hash : Passes (other 35)
hash = record { words = other_word 35 refl; top = refl; bottom = refl; bang = refl; opens = refl; closes = refl; both = refl; either = refl; implies = refl; same = refl; blank = refl; atoms = refl; constraint = refl; agent = refl; times = refl; colon = refl; ask = refl }

-- one line, and the lines after its line feed
first_line : (line rest : List ℕ) → passes (other 10) line ≡ true → lines_of (line ++ 10 ∷ rest) ≡ line ∷ lines_of rest
first_line [] rest h = refl
first_line (b ∷ line) rest h =
    let here : (b == 10) ≡ false = grind (arith, h) in
    let more : lines_of (line ++ 10 ∷ rest) ≡ line ∷ lines_of rest = first_line line rest (grind (arith, h)) in
    ap (λ t. if t then [] ∷ lines_of (line ++ 10 ∷ rest) else with_byte b (lines_of (line ++ 10 ∷ rest))) here ∙ ap (with_byte b) more

lines_again : (lines : List (List ℕ)) → All (λ line. passes (other 10) line ≡ true) lines → lines_of (lines_text lines) ≡ lines
lines_again [] h = refl
lines_again (line ∷ lines) h =
    ap lines_of (append_assoc line (codes "\n") (lines_text lines))
    ∙ first_line line (lines_text lines) (All-head (λ l. passes (other 10) l ≡ true) line lines h)
    ∙ ap (λ ls. line ∷ ls) (lines_again lines (All-tail (λ l. passes (other 10) l ≡ true) line lines h))

whole_content : (line : List ℕ) → passes (other 35) line ≡ true → content_of line ≡ line
whole_content [] h = refl
whole_content (b ∷ line) h =
    let here : not (b == 35) ≡ true = grind (arith, h) in
    let rest : content_of line ≡ line = whole_content line (grind (arith, h)) in
    let n : ℕ = prefix_len (λ x. not (x == 35)) line in
    ap (λ t. take (cond t (1 + n) 0) (b ∷ line)) here ∙ ap (λ m. take m (b ∷ line)) (let next : 1 + n ≡ suc n = omega arith in next) ∙ ap (λ l. b ∷ l) rest

-- the lines of the canonical text
pub text_lines : (p : Problem) → lines_of (problem_text p) ≡ problem_lines p
text_lines p = lines_again (problem_lines p) (lines_pass (other 10) feed p)

-- no canonical line has a comment
pub no_comments : (p : Problem) → All (λ line. content_of line ≡ line) (problem_lines p)
no_comments p = λ k d l. whole_content (get_or (problem_lines p) k d) (lines_pass (other 35) hash p k d l)
