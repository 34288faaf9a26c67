use Rattle.std.proofs.Common.{rules, refl, sym, ◌∙◌, true, false}
use Rattle.report_lines.specs.Items.{ShownLine}
use Rattle.report_lines.specs.Following.{after}
use Rattle.report_lines.specs.Judged.{faulty}
use Rattle.report_text.specs.Answering.{due_claim}
use Rattle.report_text.proofs.LoggingFacts.{shown_holds, due_shown, after_shown, next_claim}
use Rattle.report_text.proofs.logging.Logging.on_shown.Goals as goal

pub returns-then-not-branch : goal.returns-then-not-branch
returns-then-not-branch c = λ p h.
    let s = c.args.self.now in
    let claim = c.index-claim.result.now in
    let cut = next_claim s.claims.items s.next claim (search rules) (search rules) in
    let some = c.in-Some.ensures.some in
    faulty (ShownLine (due_claim claim) c.in-Some.number) (due_shown s p h claim _ c.in-Some.number cut some.1) some.0
    (shown_holds s p h claim c.in-Some.number false (sym c.if-not-branch.true ∙ c.in_ok-shows.ensures)) refl

pub returns : goal.returns
returns c = λ p h.
    let s = c.args.self.now in
    let claim = c.index-claim.result.now in
    let cut = next_claim s.claims.items s.next claim (search rules) (search rules) in
    let some = c.in-Some.ensures.some in (
      after p (ShownLine (due_claim claim) c.in-Some.number),
      record {
        item = ShownLine (due_claim claim) c.in-Some.number;
        of = due_shown s p h claim _ c.in-Some.number cut some.1;
        words = some.0;
        leads = (shown_holds s p h claim c.in-Some.number true (sym c.if-not-branch.false ∙ c.in_ok-shows.ensures), refl);
      },
      after_shown s p h claim c.in-Some.number cut,
    )
