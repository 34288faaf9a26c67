use Rattle.report_lines.specs.ClaimsDue.{far_claims}
use Rattle.std.proofs.Common.{rules, ◌≡◌, sym, subst, All, map}
use Rattle.report_text.specs.Answering.{position_of, due_claim}
use Rattle.report_text.proofs.Claiming.{IsProperDue, added_proper, far_proper}
use Rattle.report_text.proofs.answering.Answering.take_next.Goals as goal

pub returns-clause-fit : goal.returns-clause-fit
returns-clause-fit c =
    let p = position_of c.args.self.now in
    let vector = c.args.vector.items in
    let far : map due_claim c.in_ok-far.far.items ≡ far_claims c.args.self.now.verdicts c.args.self.now.model vector = search rules in
    record {
      place = (c.requires.after.0, c.requires.model, c.requires.vector.0);
      claims = added_proper p c.args.self.now.claims.items c.in_ok-far.far.items c.add_claims.new.claims.items c.in_ok-add_claims.ensures.added c.requires.claims
          (subst (All (IsProperDue p)) (sym far) (far_proper p c.args.self.now.verdicts c.args.self.now.model vector c.requires.model c.requires.vector));
    }
