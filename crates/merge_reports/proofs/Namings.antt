-- Formulas with their models, or with the proofs that they have none.
use Rattle.std.proofs.Common.{◌≡◌, ℕ, suc, ◌+◌, ◌<◌, ◌⊎◌, inl, inr, ◌↔◌, IsTrue, Bool, true, false, List, [], ◌∷◌, length, map, refl, sym, subst, arith, All, None, Some}
use Rattle.std.specs.Prelude.{slice_get, slice_index_or, Contains}
use Rattle.std.specs.List.{AllZip}
use Rattle.std.proofs.lemmas.List.Elements.{All-nil, All-cons}
use Rattle.formulas.specs.declared.formula.Formula.{Formula}
use Rattle.formulas.specs.declared.formula.Formula as formula
use Rattle.derivation_log.specs.Logs.{Log}
use Rattle.merge_model.specs.declared.answer.Answer.{Answer}
use Rattle.merge_model.specs.Answers.{IsNamedEntry}
use Rattle.merge_encoding.specs.Claims.{Assertion, NoModelOfBase, NoModelOfConstraint}
use Rattle.distance_search.specs.declared.answer.Consistency.{Consistency}
use Rattle.distance_search.specs.declared.answer.Named.{Named}
use Rattle.distance_search.specs.declared.answer.Named.TheVariants.{Model, Empty}
use Rattle.distance_search.specs.Setting.{Setting}
use Rattle.distance_search.specs.Results.{IsNamedBy, IsModelNamed, AllNamed, IsConsistency}
use Rattle.report_lines.specs.declared.kinds.Subject.TheVariants.{TheConstraint, BaseOf}
use Rattle.report_lines.specs.declared.report.Proof.{Proof}
use Rattle.report_lines.specs.ClaimsDue.{unless_some, base_claims}
use Rattle.merge_reports.specs.Proofs.{entry_of, entry_proofs, agent_proofs, naming_answer, naming_proofs}
use Rattle.merge_reports.specs.Found.{IsShownBy, AreShownBy, IsFound}
use Rattle.merge_reports.proofs.Shown.{zip_join}

module _ (s : Setting) (log : Log) where
  entry_named : (f : Formula) (claim : Assertion) (named : Named) → IsNamedBy s log f claim named → IsNamedEntry s.profile.atoms f (entry_of named)
  entry_named f claim (Model v) h = h
  entry_named f claim (Empty n) h = h.0

  constraint_shown : (f : Formula) (named : Named) → IsNamedBy s log f NoModelOfConstraint named → AreShownBy s log (unless_some TheConstraint (entry_of named)) (entry_proofs TheConstraint named)
  constraint_shown f (Model v) h = tt
  constraint_shown f (Empty n) h = ((refl, h.1), tt)

  base_shown : (i : ℕ) (f : Formula) (named : Named) → IsNamedBy s log f (NoModelOfBase i) named → AreShownBy s log (unless_some (BaseOf i) (entry_of named)) (entry_proofs (BaseOf i) named)
  base_shown i f (Model v) h = tt
  base_shown i f (Empty n) h = ((refl, h.1), tt)

  -- the agents from i on are named
  abbrev AreNamedFrom : ℕ → List Formula → List Named → Type 0
  AreNamedFrom i bases agents = (j : ℕ) (named : Named) → slice_get agents j ≡ Some named → IsNamedBy s log (slice_index_or bases j formula.Top) (NoModelOfBase (i + j)) named

  first_named : (i : ℕ) (f : Formula) (bases : List Formula) (named : Named) (agents : List Named) → AreNamedFrom i (f ∷ bases) (named ∷ agents) → IsNamedBy s log f (NoModelOfBase i) named
  first_named i f bases named agents each =
      let e : i + 0 ≡ i = omega arith in
      subst (λ (k : ℕ). IsNamedBy s log f (NoModelOfBase k) named) e (each 0 named refl)

  rest_named : (i : ℕ) (f : Formula) (bases : List Formula) (named : Named) (agents : List Named) → AreNamedFrom i (f ∷ bases) (named ∷ agents) → AreNamedFrom (i + 1) bases agents
  rest_named i f bases named agents each = λ j other at.
      let e : i + suc j ≡ i + 1 + j = omega arith in
      subst (λ (k : ℕ). IsNamedBy s log (slice_index_or bases j formula.Top) (NoModelOfBase k) other) e (each (suc j) other at)

  bases_named : (i : ℕ) (bases : List Formula) (agents : List Named) → length agents ≡ length bases → AreNamedFrom i bases agents → AllZip (IsNamedEntry s.profile.atoms) bases (map entry_of agents)
  bases_named i [] [] n each = tt
  bases_named i [] (x ∷ agents) n each = absurd (omega arith)
  bases_named i (f ∷ bases) [] n each = absurd (omega arith)
  bases_named i (f ∷ bases) (x ∷ agents) n each = (entry_named f (NoModelOfBase i) x (first_named i f bases x agents each), bases_named (i + 1) bases agents (omega arith) (rest_named i f bases x agents each))

  bases_shown : (i : ℕ) (bases : List Formula) (agents : List Named) → length agents ≡ length bases → AreNamedFrom i bases agents → AreShownBy s log (base_claims i (map entry_of agents)) (agent_proofs i agents)
  bases_shown i [] [] n each = tt
  bases_shown i [] (x ∷ agents) n each = absurd (omega arith)
  bases_shown i (f ∷ bases) [] n each = absurd (omega arith)
  bases_shown i (f ∷ bases) (x ∷ agents) n each =
      zip_join (IsShownBy s log) (unless_some (BaseOf i) (entry_of x)) (base_claims (i + 1) (map entry_of agents)) (entry_proofs (BaseOf i) x) (agent_proofs (i + 1) agents)
      (base_shown i f x (first_named i f bases x agents each)) (bases_shown (i + 1) bases agents (omega arith) (rest_named i f bases x agents each))

-- each is named by a model, or some entry is none
all_or_none : (agents : List Named) → All IsModelNamed agents ⊎ Contains (map entry_of agents) None
all_or_none [] = inl (All-nil IsModelNamed)
all_or_none (Empty n ∷ agents) = inr (0, omega arith, refl)
all_or_none (Model v ∷ agents) =
    elim (all_or_none agents) [
      | inl h ↦ inl (All-cons IsModelNamed (Model v) agents tt h)
      | inr m ↦ inr (suc m.0, (let less : m.0 < length (map entry_of agents) = m.1 in omega arith), m.2)
    ]

some_none : (constraint : Named) (agents : List Named) → (IsModelNamed constraint → All IsModelNamed agents → ⊥) → (entry_of constraint ≡ None) ⊎ Contains (map entry_of agents) None
some_none (Empty n) agents lacking = inl refl
some_none (Model v) agents lacking = elim (all_or_none agents) [ inl all ↦ absurd (lacking tt all) | inr m ↦ inr m ]

-- where not all are named by a model, the answer says so, with its proofs
pub named_found : (s : Setting) (log : Log) (found : Consistency) → IsConsistency s log found → (AllNamed found → ⊥) → IsFound s log (naming_answer found) (naming_proofs found)
named_found s log found h lacking =
    let agents = h.agents in
    let from : AreNamedFrom s log 0 s.profile.bases found.agents = λ j named at.
    (let e : j ≡ 0 + j = omega arith in subst (λ (k : ℕ). IsNamedBy s log (slice_index_or s.profile.bases j formula.Top) (NoModelOfBase k) named) e (agents.each j named at)) in
    record {
      right = record {
        constraint_named = entry_named s log s.profile.constraint NoModelOfConstraint found.constraint h.constraint;
        bases_named = bases_named s log 0 s.profile.bases found.agents agents.count from;
        some_none = some_none found.constraint found.agents (λ c a. lacking (record { constraint = c; agents = a }));
      };
      shown = zip_join (IsShownBy s log) (unless_some TheConstraint (entry_of found.constraint)) (base_claims 0 (map entry_of found.agents)) (entry_proofs TheConstraint found.constraint) (agent_proofs 0 found.agents)
          (constraint_shown s log s.profile.constraint found.constraint h.constraint) (bases_shown s log 0 s.profile.bases found.agents agents.count from);
    }

-- so by a test of whether all are named by a model
pub named_where : (s : Setting) (log : Log) (found : Consistency) (all : Bool) (answer : Answer) (proofs : List Proof) → IsConsistency s log found → IsTrue all ↔ AllNamed found → all ≡ false → answer ≡ naming_answer found → proofs ≡ naming_proofs found → IsFound s log answer proofs
named_where s log found all answer proofs h tells lacks ea ep =
    let lacking : AllNamed found → ⊥ = λ named. let has : all ≡ true = tells.1 named in cc in
    subst (λ a. IsFound s log a proofs) (sym ea) (subst (λ ps. IsFound s log (naming_answer found) ps) (sym ep) (named_found s log found h lacking))
