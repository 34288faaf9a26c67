use Rattle.report_lines.specs.declared.kinds.Due.TheVariants as due
use Rattle.report_text.specs.Answering.{position_of}
use Rattle.report_text.proofs.Unions.{at_first, at_place}
use Rattle.report_text.proofs.answering.Answering.line.Goals as goal

pub returns-in-Agents-clause-judged : goal.returns-in-Agents-clause-judged
returns-in-Agents-clause-judged c = at_first (position_of c.args.self.now) c.args.line.now _ c.on_answer.result c.in-Agents.is c.on_answer.ensures.judged

pub returns-in-Model-clause-judged : goal.returns-in-Model-clause-judged
returns-in-Model-clause-judged c = at_place (position_of c.args.self.now) due.Model c.args.line.now _ c.on_model.result c.in-Model.is c.on_model.ensures.judged

pub returns-in-Vector-clause-judged : goal.returns-in-Vector-clause-judged
returns-in-Vector-clause-judged c = at_place (position_of c.args.self.now) due.Vector c.args.line.now _ c.on_vector.result c.in-Vector.is c.on_vector.ensures.judged

pub returns-in-Nearest-clause-judged : goal.returns-in-Nearest-clause-judged
returns-in-Nearest-clause-judged c = at_place (position_of c.args.self.now) due.Nearest c.args.line.now _ c.on_nearest.result c.in-Nearest.is c.on_nearest.ensures.judged

pub returns-in-Measure-clause-judged : goal.returns-in-Measure-clause-judged
returns-in-Measure-clause-judged c = at_place (position_of c.args.self.now) due.Measure c.args.line.now _ c.on_measure.result c.in-Measure.is c.on_measure.ensures.judged

pub returns-in-Named-clause-judged : goal.returns-in-Named-clause-judged
returns-in-Named-clause-judged c = at_place (position_of c.args.self.now) due.Named c.args.line.now _ c.on_named.result c.in-Named.is c.on_named.ensures.judged
