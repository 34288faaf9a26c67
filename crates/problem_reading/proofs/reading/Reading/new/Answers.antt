use Rattle.problem_reading.specs.Views.{draft_of}
use Rattle.problem_reading.proofs.ReadingSteps.{read_none}
use Rattle.problem_reading.proofs.reading.Reading.new.Goals as goal

pub invariant_of-result : goal.invariant_of-result
invariant_of-result c = read_none c.new-2.result.lines (draft_of c.new.result) c.new-2.ensures c.new.ensures
