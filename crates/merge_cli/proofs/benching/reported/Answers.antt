use Rattle.std.proofs.Common.{◌≡◌, refl, rules}
use Rattle.merge_model.specs.declared.operator.AggregatorName.TheVariants.{Leximax}
use Rattle.merge_model.specs.declared.operator.DistanceName.TheVariants.{Hamming}
use Rattle.merge_cli.specs.Commands.{usual_conflicts}
use Rattle.merge_cli.proofs.Benched.{names_none, bench_answered, bench_spent}
use Rattle.merge_cli.proofs.Problems.{merge_answered}
use Rattle.merge_cli.proofs.benching.reported.Goals as goal

pub returns-in_ok-text-in-Merged : goal.returns-in_ok-text-in-Merged
returns-in_ok-text-in-Merged c =
    let numbers : c.as_slice.result.now ≡ c.in-Merged.measure = search rules in
    let judged : c.as_slice-in-Merged.result.now ≡ c.in-Merged.verdicts = search rules in
    bench_answered c.args.number c.args.report.now c.in-Merged.best _ _ _ _ _ c.requires.problem c.requires.distance c.requires.aggregator c.requires.truth
    c.in-Merged.is numbers judged c.in_ok-text-in-Merged.ensures

pub unreachable-requires : goal.unreachable-requires
unreachable-requires c = names_none c.args.number c.args.report.now _ _ c.requires.problem c.requires.truth c.in-Inconsistent.is

pub returns-in-GaveUp : goal.returns-in-GaveUp
returns-in-GaveUp c =
    let r = c.requires in
    bench_spent c.args.number c.args.report.now.problem c.report_reply.result r.problem
    (merge_answered Hamming Leximax usual_conflicts c.args.report.now.problem c.args.report.now c.report_reply.result r.distance r.aggregator r.conflicts refl
    r.form r.answer r.truth r.trimmed c.report_reply.ensures.status c.report_reply.ensures.text)
    (rw c.in-GaveUp.is at c.report_reply.ensures.status)
