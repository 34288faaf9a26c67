use Rattle.std.proofs.Common.{◌<◌, ◌≤◌, List, length, map, sym, subst}
use Rattle.std.specs.List.{AllByRecursion}
use Rattle.derivation_log.specs.Logs.{known_of}
use Rattle.report_lines.specs.declared.report.Proof.{Proof}
use Rattle.report_lines.specs.Reports.{step_of}
use Rattle.merge_reports.specs.Trimmed.{IsTrimmedTo}
use Rattle.merge_reports.proofs.Leaving.{answer_trimmed}
use Rattle.merge_reports.proofs.trimming.trimmed_outcome.Goals as goal

pub trimmed_to-requires-clause-proofs : goal.trimmed_to-requires-clause-proofs
trimmed_to-requires-clause-proofs c =
    let log = c.args.outcome.derivations in
    subst (λ (ps : List Proof). AllByRecursion (λ n. (length log.main ≤ n) × (n < length (known_of log))) (map step_of ps)) (sym c.deref.ensures.value) c.requires.proofs

pub returns-clause-log : goal.returns-clause-log
returns-clause-log c =
    let old = c.args.outcome in
    let log = c.in_ok-derivations.derivations in
    let proofs = c.in_ok-derivations.proofs.items in
    answer_trimmed old.found.answer old.derivations log old.found.proofs.items proofs c.requires.answered
    (subst (λ (ps : List Proof). IsTrimmedTo old.derivations ps log proofs) c.deref.ensures.value c.in_ok-derivations.ensures)
