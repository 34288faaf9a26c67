-- Problems of the same parts are equal: their limits add nothing.
use Rattle.std.proofs.Common.{◌≡◌, ℕ, List, subst, sym, ap, ◌∙◌}
use Rattle.std.proofs.Props.{props}
use Rattle.formulas.specs.declared.formula.Formula.{Formula}
use Rattle.merge_model.specs.declared.agent.Agent.{Agent}
use Rattle.merge_model.specs.declared.problem.Problem.{Problem}
use Rattle.merge_model.specs.Limits.{KeepsLimits}
use Rattle.problem_reading.specs.declared.stop.TextFault.{TextFault}
use Rattle.problem_reading.specs.declared.stop.TextKind.{TextKind}
use Rattle.problem_reading.specs.Spelling.{Spelled, FirstFault}
use Rattle.bench_problem.specs.Bench.{IsBench}
use Rattle.problem_laws.proofs.TextLaws.{one_problem, one_first_fault}
use Rattle.merge_cli.specs.Refusals.{refusal_of, refusal_text}

made : (atoms : List (List ℕ)) (constraint : Formula) (agents : List Agent) (asks : List Formula) → KeepsLimits atoms constraint agents asks → Problem
made atoms constraint agents asks limits = record { atoms = atoms; constraint = constraint; agents = agents; asks = asks; limits = limits }

limits_once : (atoms : List (List ℕ)) (constraint : Formula) (agents : List Agent) (asks : List Formula) → IsProp (KeepsLimits atoms constraint agents asks)
limits_once atoms constraint agents asks = hlevel props

module _ (a : List (List ℕ)) (c : Formula) (g : List Agent) (s : List Formula) (l : KeepsLimits a c g s) where
  same_limits : (k : KeepsLimits a c g s) → made a c g s l ≡ made a c g s k
  same_limits k = ap (λ (m : KeepsLimits a c g s). made a c g s m) (limits_once a c g s l k)

  same_asks : (t : List Formula) → s ≡ t → (k : KeepsLimits a c g t) → made a c g s l ≡ made a c g t k
  same_asks t e = subst (λ (t : List Formula). (k : KeepsLimits a c g t) → made a c g s l ≡ made a c g t k) e same_limits

  same_agents : (h : List Agent) → g ≡ h → (t : List Formula) → s ≡ t → (k : KeepsLimits a c h t) → made a c g s l ≡ made a c h t k
  same_agents h e t f = subst (λ (h : List Agent). (k : KeepsLimits a c h t) → made a c g s l ≡ made a c h t k) e (same_asks t f)

  same_constraint : (d : Formula) → c ≡ d → (h : List Agent) → g ≡ h → (t : List Formula) → s ≡ t → (k : KeepsLimits a d h t) → made a c g s l ≡ made a d h t k
  same_constraint d e h f t i = subst (λ (d : Formula). (k : KeepsLimits a d h t) → made a c g s l ≡ made a d h t k) e (same_agents h f t i)

  same_parts : (b : List (List ℕ)) → a ≡ b → (d : Formula) → c ≡ d → (h : List Agent) → g ≡ h → (t : List Formula) → s ≡ t
      → (k : KeepsLimits b d h t) → made a c g s l ≡ made b d h t k
  same_parts b e d f h i t j = subst (λ (b : List (List ℕ)). (k : KeepsLimits b d h t) → made a c g s l ≡ made b d h t k) e (same_constraint d f h i t j)

-- a text spells one problem at most
pub equal_problems : (bytes : List ℕ) (p q : Problem) → Spelled bytes p → Spelled bytes q → p ≡ q
unfolding made
equal_problems bytes p q first second =
    let same = one_problem bytes p q first second in
    same_parts p.atoms p.constraint p.agents p.asks p.limits
    q.atoms same.atoms q.constraint same.constraint q.agents same.agents q.asks same.asks q.limits

-- there is one bench problem with each number
pub equal_benches : (number : ℕ) (p q : Problem) → IsBench number p → IsBench number q → p ≡ q
unfolding made
equal_benches number p q first second =
    same_parts p.atoms p.constraint p.agents p.asks p.limits
    q.atoms (first.atoms ∙ sym second.atoms) q.constraint (first.constraint ∙ sym second.constraint)
    q.agents (first.agents ∙ sym second.agents) q.asks (first.asks ∙ sym second.asks) q.limits

-- a text has one first fault at most, so one refusal, so one refusal
pub equal_refusals : (bytes : List ℕ) (fault other : TextFault) → FirstFault bytes fault → FirstFault bytes other → refusal_text fault ≡ refusal_text other
equal_refusals bytes fault other first second =
    let same = one_first_fault bytes fault other first second in
    ap (λ (line : ℕ). refusal_of line fault.kind) same.0 ∙ ap (λ (kind : TextKind). refusal_of other.line kind) same.1
