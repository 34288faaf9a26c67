-- Lines without a fault spell exactly one problem or end with exactly one fault, and never both.
use Rattle.std.proofs.Common.{◌≡◌, ◌≢◌, ◌≤◌, List, [], ◌∷◌, length, unwrap_or, refl, ap, sym, subst, ◌∙◌, inl, inr, arith}
use Rattle.formulas.specs.Names.{AtomList}
use Rattle.formulas.specs.declared.formula.Formula as formula
use Rattle.merge_model.specs.declared.agent.Agent.{Agent}
use Rattle.merge_model.specs.declared.problem.Problem.{Problem}
use Rattle.problem_reading.specs.declared.stop.TextFault.{TextFault}
use Rattle.problem_reading.specs.declared.stop.TextKind.TheVariants.{NoAtoms, NoAgent}
use Rattle.problem_reading.specs.Drafts.{Draft}
use Rattle.problem_reading.specs.Lines.{AreFaultless, Spell}
use Rattle.problem_reading.specs.Spelling.{Declares, IsProblemOf, IsEndFault}
use Rattle.problem_reading.proofs.OneDraft.{Line, declares_once}
use Rattle.problem_laws.specs.HasEnding.{HasEnding, EndsWith}
use Rattle.problem_laws.specs.Sameness.{SameFault, SameProblem}
use Rattle.problem_laws.proofs.Kept.{keeps_so_far, keeps_limits}

at_agents : (lines : List Line) (d : Draft) → Declares lines d → d.atoms ≢ [] → 1 ≤ length d.atoms → (agents : List Agent) → d.agents ≡ agents → HasEnding lines
at_agents lines d declares some atom [] e = inr (record { line = 0; kind = NoAgent }, (d, declares, (refl, inr (refl, some, e))))
at_agents lines d declares some atom (agent ∷ agents) e =
    let limits = keeps_limits d (keeps_so_far declares) atom (omega (arith, ap length e)) in
    inl (
      record { atoms = d.atoms; constraint = unwrap_or d.constraint formula.Top; agents = d.agents; asks = d.asks; limits = limits },
      (d, declares, record { some_atom = some; some_agent = λ none. let both : agent ∷ agents ≡ [] = sym e ∙ none in absurd (cc); atoms = refl; constraint = refl; agents = refl; asks = refl }),
    )

at_atoms : (lines : List Line) (d : Draft) → Declares lines d → (atoms : AtomList) → d.atoms ≡ atoms → HasEnding lines
at_atoms lines d declares [] e = inr (record { line = 0; kind = NoAtoms }, (d, declares, (refl, inl (refl, e))))
at_atoms lines d declares (atom ∷ atoms) e =
    at_agents lines d declares (λ none. let both : atom ∷ atoms ≡ [] = sym e ∙ none in absurd (cc)) (omega (arith, ap length e)) d.agents refl

pub has_ending : (lines : List Line) → AreFaultless lines → HasEnding lines
has_ending lines all = at_atoms lines all.0 all.1 all.0.atoms refl

problem_once : (d : Draft) (p q : Problem) → IsProblemOf d p → IsProblemOf d q → SameProblem p q
problem_once d p q h i = record {
  atoms = h.atoms ∙ sym i.atoms;
  constraint = h.constraint ∙ sym i.constraint;
  agents = h.agents ∙ sym i.agents;
  asks = h.asks ∙ sym i.asks;
}

pub same_problem : (lines : List Line) (p q : Problem) → Spell lines p → Spell lines q → SameProblem p q
same_problem lines p q h i = problem_once i.0 p q (subst (λ (d : Draft). IsProblemOf d p) (declares_once h.1 i.1 refl) h.2) i.2

fault_once : (d : Draft) (f g : TextFault) → IsEndFault d f → IsEndFault d g → SameFault f g
fault_once d f g (at, inl h) (there, inl i) = (at ∙ sym there, h.0 ∙ sym i.0)
fault_once d f g (at, inl h) (there, inr i) = absurd (i.1 h.1)
fault_once d f g (at, inr h) (there, inl i) = absurd (h.1 i.1)
fault_once d f g (at, inr h) (there, inr i) = (at ∙ sym there, h.0 ∙ sym i.0)

pub same_end : (lines : List Line) (f g : TextFault) → EndsWith lines f → EndsWith lines g → SameFault f g
same_end lines f g h i = fault_once i.0 f g (subst (λ (d : Draft). IsEndFault d f) (declares_once h.1 i.1 refl) h.2) i.2

not_at_end : (d : Draft) (p : Problem) (f : TextFault) → IsProblemOf d p → IsEndFault d f → ⊥
not_at_end d p f is (at, inl h) = is.some_atom h.1
not_at_end d p f is (at, inr h) = is.some_agent h.2

pub spelled_or_ended : (lines : List Line) (p : Problem) (f : TextFault) → Spell lines p → EndsWith lines f → ⊥
spelled_or_ended lines p f h i = not_at_end i.0 p f (subst (λ (d : Draft). IsProblemOf d p) (declares_once h.1 i.1 refl) h.2) i.2
