use Rattle.report_words.proofs.Numerals.{literal_if, no_literal_if}
use Rattle.report_words.proofs.numbers.literal_of.Goals as goal

pub returns-clause-found : goal.returns-clause-found
returns-clause-found c = literal_if c.args.word.now c.spelled.result c.spelled.ensures

pub returns-clause-none : goal.returns-clause-none
returns-clause-none c = no_literal_if c.args.word.now c.spelled.result c.spelled.ensures
