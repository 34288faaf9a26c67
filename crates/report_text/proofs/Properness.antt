-- Claims that were taken are proper for the main clauses.
use Rattle.std.proofs.Common.{◌≡◌, ℕ, zero, suc, ◌<◌, ◌≤◌, List, [], ◌∷◌, length, sym, subst, ◌∙◌, arith, All}
use Rattle.std.specs.Prelude.{slice_index}
use Rattle.std.proofs.lemmas.List.{length-map}
use Rattle.merge_model.specs.declared.agent.Agent.{Agent}
use Rattle.merge_model.specs.Answers.{dist_named}
use Rattle.aggregators.specs.Levels.{FitLevels}
use Rattle.merge_encoding.specs.Assumptions.{IsProper}
use Rattle.merge_encoding.specs.Claims.{Assertion, NoModelOfConstraint, NoModelOfBase, NoNearer, NoBetter, NoBreaker, NoModelWith}
use Rattle.merge_encoding.specs.MainDues.{MainDue, IsMain}
use Rattle.merge_encoding.specs.Named.{values_named}
use Rattle.merge_encoding.proofs.Same.{IsProperOf, proper_in}
use Rattle.merge_encoding.proofs.Signs.{fit_length}
use Rattle.report_lines.specs.ClaimsDue.{DueClaim}
use Rattle.report_lines.specs.Places.{Position, profile_at, top_at, values_at, atoms_at}
use Rattle.report_lines.proofs.Truths.{shared_size}
use Rattle.report_lines.proofs.Witnesses.{away_size}
use Rattle.report_text.specs.Answering.{IsProperAt, AreProperAt, IsVectorAt}

below : (xs : List ℕ) (j : ℕ) → 1 ≤ slice_index xs j → j < length xs
below [] j h = absurd (omega arith)
below (x ∷ xs) zero h = omega arith
below (x ∷ xs) (suc j) h = let rest : j < length xs = below xs j h in omega arith

module _ (p : Position) (main : MainDue) (m : IsMain (dist_named p.distance p.draft.atoms) (top_at p) (values_named p.aggregator) (profile_at p) p.draft.asks main) where
  bases : length main.copies ≡ length p.draft.agents
  bases = m.size ∙ length-map p.draft.agents (λ (agent : Agent). agent.base)

  fit : (values : List ℕ) → IsVectorAt p p.best → values ≡ values_at p → FitLevels values main.levels
  fit values vector is = subst (λ ks. FitLevels ks main.levels) (sym is) (m.levels_fit p.best (vector.0 ∙ sym (length-map p.draft.agents (λ (agent : Agent). agent.base))) vector.1)

  proper_of : (x : Assertion) → IsProperAt p x → IsProperOf main (atoms_at p) x
  proper_of NoModelOfConstraint h = tt
  proper_of (NoModelOfBase i) h = omega (arith, bases, h)
  proper_of (NoNearer i v k) h =
      let within : i < length main.copies = omega (arith, bases, h.0) in
      (within, h.1, h.2, omega (arith, away_size (top_at p) main.copies i m.counters_sized within, h.3))
  proper_of (NoBetter j values) h =
      let fits = fit values h.0 h.1 in
      (omega (arith, below values j h.2, fit_length values main.levels fits), fits, h.2)
  proper_of (NoBreaker q values) h = (omega (arith, m.asks_size, h.2), fit values h.0 h.1)
  proper_of (NoModelWith values prefix) h = absurd h

  pub proper : (x : Assertion) → IsProperAt p x → IsProper main x
  proper x h = proper_in main (atoms_at p) x (shared_size m) (proper_of x h)

  pub all_proper : AreProperAt p → All (λ (c : DueClaim). IsProper main c.says) p.claims
  all_proper h = λ k d lt. proper _ (h k d lt)
