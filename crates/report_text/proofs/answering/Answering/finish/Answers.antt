use Rattle.std.proofs.Common.{refl, sym, subst}
use Rattle.report_lines.specs.Places.{Position, main_at}
use Rattle.report_text.specs.declared.answering.Logged.{Logged}
use Rattle.report_text.specs.Answering.{position_of, IsLoggedAt}
use Rattle.report_text.proofs.Properness.{all_proper}
use Rattle.report_text.proofs.answering.Answering.finish.Goals as goal

pub returns : goal.returns
returns c =
    let place = position_of c.args.self in
    let main = c.in_ok-clauses.field-0 in
    let logged : Logged = record { clauses = main.clauses; frame = main.frame; claims = c.args.self.claims; kind = c.args.self.kind; conflicts = c.args.self.conflicts } in
    let here : IsLoggedAt place logged = record {
      due = c.requires.done;
      conflicts = refl;
      kind = refl;
      claims = refl;
      steps = refl;
      list = c.in_ok-clauses.ensures.list;
      vars = c.in_ok-clauses.ensures.vars;
      frame = c.in_ok-clauses.ensures.frame;
      over = c.in_ok-clauses.ensures.over;
      proper = all_proper place (main_at place) c.encoded.ensures.means c.requires.fit.claims;
    } in
    λ p e. subst (λ (q : Position). IsLoggedAt q logged) (sym e) here
