use Rattle.std.proofs.Common.{take}
use Rattle.std.specs.List.{AllZip}
use Rattle.merge_model.specs.Answers.{profile_of, IsVerdict}
use Rattle.merge_model.proofs.plain.judged.verdicts.Given as goal

abbrev pub invariant-loop-ask : goal.invariant-loop-ask
invariant-loop-ask g l =
    AllZip (IsVerdict (g.D.Distance.dist l.distance) (g.A.Aggregator.rank l.aggregator) (profile_of l.problem)) (take l.ask-index l.problem.asks) l.verdicts.items
