use Rattle.std.proofs.lemmas.List.Elements.{All-nil}
use Rattle.merge_encoding.specs.Named.{values_named}
use Rattle.report_lines.specs.ClaimsDue.{far_claims}
use Rattle.report_text.specs.declared.answering.claims.Claimed.{Claimed}
use Rattle.std.proofs.Common.{rules, ◌≡◌, ℕ, List, ap, ◌∙◌, sym, subst, All, map}
use Rattle.report_lines.specs.Places.{Position, rank_at, full_at, top_at}
use Rattle.report_text.specs.Answering.{position_of, due_claim, IsVectorAt}
use Rattle.report_text.proofs.Claiming.{IsProperDue, added_proper, far_proper}
use Rattle.report_text.proofs.answering.Answering.take_first.Goals as goal

pub returns-clause-fit : goal.returns-clause-fit
returns-clause-fit c =
    let old = position_of c.args.self.now in
    let vector = c.args.vector.items in
    let first = c.in_ok-first.first in
    let p : Position = record old { best = first.vector.items } in
    let same : first.vector.items ≡ vector = c.in_ok-first.ensures.vector ∙ c.deref.ensures.value in
    let measure : first.measure.items ≡ rank_at old vector = c.in_ok-first.ensures.measure ∙ ap (rank_at old) c.deref.ensures.value in
    let values : first.values.items ≡ values_named c.args.self.now.aggregator (full_at old vector) (top_at old) = c.in_ok-first.ensures.values ∙ ap (λ (ds : List ℕ). values_named c.args.self.now.aggregator (full_at old ds) (top_at old)) c.deref.ensures.value in
    let far : map due_claim c.in_ok-far.far.items ≡ far_claims c.args.self.now.verdicts c.args.self.now.model vector = search rules in
    record {
      place = (
        (
          subst (IsVectorAt old) (sym same) c.requires.vector,
          measure ∙ ap (rank_at old) (sym same),
          values ∙ ap (λ (ds : List ℕ). values_named c.args.self.now.aggregator (full_at old ds) (top_at old)) (sym same),
        ),
        c.requires.model,
        c.requires.vector.0,
      );
      claims = added_proper p c.args.self.now.claims.items c.in_ok-far.far.items c.add_claims.new.claims.items c.in_ok-add_claims.ensures.added
          (subst (λ (cs : List Claimed). All (IsProperDue p) (map due_claim cs)) (sym c.requires.first.1) (All-nil (IsProperDue p)))
          (subst (All (IsProperDue p)) (sym far) (far_proper p c.args.self.now.verdicts c.args.self.now.model vector c.requires.model c.requires.vector));
    }
