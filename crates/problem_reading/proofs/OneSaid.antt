-- What a line without a fault says is one thing.
use Rattle.std.proofs.Common.{◌≡◌, ℕ, List, ◌++◌, refl, ap, sym, ◌∙◌}
use Rattle.formulas.specs.declared.formula.Formula.{Formula}
use Rattle.formula_grammar.specs.Readings.{IsSpelled}
use Rattle.formula_grammar.proofs.Complete.{one_formula}
use Rattle.merge_model.specs.declared.agent.Agent.{Agent}
use Rattle.problem_lines.specs.Forms.{Form, blank, declaration, condition, belief, query, unknown}
use Rattle.problem_reading.specs.declared.said.Said.{Said}
use Rattle.problem_reading.specs.declared.said.Said.TheVariants.{Nothing, Names, Condition, Belief, Query}
use Rattle.problem_reading.specs.Drafts.{Draft}
use Rattle.problem_reading.specs.Faults.{line_form}
use Rattle.problem_reading.specs.Saying.{IsSaid, Says}

-- the one thing that a line of a form may say
abbrev IsOne : Draft → Form → Said → Type 0
IsOne d blank said = said ≡ Nothing
IsOne d (declaration names) said = said ≡ Names (d.atoms ++ names)
IsOne d (condition ts) said = (f : Formula) × IsSpelled d.atoms ts f × (said ≡ Condition f)
IsOne d (belief name times ts) said =
    (f : Formula) × IsSpelled d.atoms ts f × (said ≡ Belief (record { name = name; times = times; base = f }))
IsOne d (query ts) said = (f : Formula) × IsSpelled d.atoms ts f × (said ≡ Query f)
IsOne d unknown said = ⊥

agent_is : (agent : Agent) (name : List ℕ) (times : ℕ) → agent.name ≡ name → agent.times ≡ times →
    agent ≡ record { name = name; times = times; base = agent.base }
agent_is agent name times e h =
    let Named : List ℕ → Agent = λ n. record { name = n; times = agent.times; base = agent.base } in
    let Timed : ℕ → Agent = λ n. record { name = name; times = n; base = agent.base } in
    ap Named e ∙ ap Timed h

is_one : (d : Draft) (form : Form) (said : Said) → IsSaid d form said → IsOne d form said
is_one d blank Nothing h = refl
is_one d (declaration names) (Names atoms) h = ap Names h.3
is_one d (condition ts) (Condition f) h = (f, h.0.spelled, refl)
is_one d (belief name times ts) (Belief agent) h = (agent.base, h.0.spelled, ap Belief (agent_is agent name times h.4 h.5))
is_one d (query ts) (Query f) h = (f, h.0.spelled, refl)
is_one d form said h = absurd h

one_of_form : (d : Draft) (form : Form) (a b : Said) → IsOne d form a → IsOne d form b → a ≡ b
one_of_form d blank a b h i = h ∙ sym i
one_of_form d (declaration names) a b h i = h ∙ sym i
one_of_form d (condition ts) a b h i = h.2 ∙ ap Condition (one_formula h.1 i.1) ∙ sym i.2
one_of_form d (belief name times ts) a b h i =
    let Believed : Formula → Said = λ f. Belief (record { name = name; times = times; base = f }) in
    h.2 ∙ ap Believed (one_formula h.1 i.1) ∙ sym i.2
one_of_form d (query ts) a b h i = h.2 ∙ ap Query (one_formula h.1 i.1) ∙ sym i.2
one_of_form d unknown a b h i = absurd h

pub one_said : (d : Draft) (line : List ℕ) (a b : Said) → Says d line a → Says d line b → a ≡ b
one_said d line a b h i = one_of_form d (line_form line) a b (is_one d (line_form line) a h.said) (is_one d (line_form line) b i.said)
