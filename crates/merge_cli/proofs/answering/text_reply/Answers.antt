use Rattle.merge_cli.specs.Answers.{ProblemAnswers}
use Rattle.merge_cli.proofs.Problems.{problem_answered, stop_answered}
use Rattle.merge_cli.proofs.answering.text_reply.Goals as goal

pub returns-in-Ok : goal.returns-in-Ok
returns-in-Ok c =
    problem_answered (ProblemAnswers c.args.command) c.args.bytes.now c.in-Ok.problem c.problem_reply.result c.in-Ok.ensures.problem c.problem_reply.ensures

pub returns-in-Err : goal.returns-in-Err
returns-in-Err c =
    stop_answered (ProblemAnswers c.args.command) c.args.bytes.now c.in-Err.stop c.stop_reply.result c.in-Err.ensures.stop c.stop_reply.ensures
