use Rattle.report_words.proofs.Numerals.{found_if, none_if}
use Rattle.report_words.proofs.numbers.number_of.Goals as goal

pub returns-clause-found : goal.returns-clause-found
returns-clause-found c = found_if c.args.word.now c.numeral.result c.numeral.ensures

pub returns-clause-none : goal.returns-clause-none
returns-clause-none c = none_if c.args.word.now c.numeral.result c.numeral.ensures
