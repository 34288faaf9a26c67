use Rattle.merge_model.specs.OperatorWords.{aggregator_word}
use Rattle.report_lines.proofs.lines.aggregator_line.Goals as goal

pub returns-in_err-second_word-clause-none : goal.returns-in_err-second_word-clause-none
returns-in_err-second_word-clause-none c = rw c.from_residual.ensures (λ a e. c.in_err-second_word.ensures.none (aggregator_word a) e)
