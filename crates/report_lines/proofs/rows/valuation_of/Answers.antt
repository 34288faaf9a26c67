use Rattle.report_lines.proofs.Elements.{valuation_if, no_valuation_if}
use Rattle.report_lines.proofs.rows.valuation_of.Goals as goal

pub returns-clause-found : goal.returns-clause-found
returns-clause-found c = valuation_if c.args.atoms c.args.word.now c.spelled.result c.spelled.ensures

pub returns-clause-none : goal.returns-clause-none
returns-clause-none c = no_valuation_if c.args.atoms c.args.word.now c.spelled.result c.spelled.ensures
