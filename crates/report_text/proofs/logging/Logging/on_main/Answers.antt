use Rattle.std.proofs.Common.{refl, sym, ◌∙◌, true, false}
use Rattle.report_lines.specs.Items.{MainLine}
use Rattle.report_lines.specs.Following.{after}
use Rattle.report_lines.specs.Judged.{faulty}
use Rattle.report_text.proofs.LoggingFacts.{main_holds, after_main}
use Rattle.report_text.proofs.logging.Logging.on_main.Goals as goal

pub returns-then-not-is_main : goal.returns-then-not-is_main
returns-then-not-is_main c = λ p h.
    let some = c.in-Some.ensures.some in
    faulty (MainLine c.in-Some.vars c.in-Some.clauses) (c.in-Some.vars, c.in-Some.clauses, refl, some.1, some.2) some.0
    (main_holds c.args.self.now p h c.in-Some.vars c.in-Some.clauses false (sym c.if-not-is_main.true ∙ c.is_main.ensures)) refl

pub returns : goal.returns
returns c = λ p h.
    let some = c.in-Some.ensures.some in (
      after p (MainLine c.in-Some.vars c.in-Some.clauses),
      record {
        item = MainLine c.in-Some.vars c.in-Some.clauses;
        of = (c.in-Some.vars, c.in-Some.clauses, refl, some.1, some.2);
        words = some.0;
        leads = (main_holds c.args.self.now p h c.in-Some.vars c.in-Some.clauses true (sym c.if-not-is_main.false ∙ c.is_main.ensures), refl);
      },
      after_main c.args.self.now p h c.in-Some.vars c.in-Some.clauses,
    )
