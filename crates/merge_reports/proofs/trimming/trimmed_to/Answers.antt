use Rattle.std.proofs.Common.{◌≡◌, ◌∙◌, ℕ, ◌<◌, ◌≤◌, List, length, map, ap, sym, subst}
use Rattle.std.specs.List.{AllByRecursion}
use Rattle.std.proofs.lemmas.List.{length-map}
use Rattle.std.proofs.lemmas.Slice.Zip.{AllZip-long}
use Rattle.derivation_log.specs.Logs.{known_of}
use Rattle.derivation_log.specs.Trimming.{IsTrimmed}
use Rattle.report_lines.specs.Reports.{step_of}
use Rattle.merge_reports.specs.Trimmed.{proofs_with}
use Rattle.merge_reports.proofs.trimming.trimmed_to.Goals as goal

pub trim-requires-clause-steps : goal.trim-requires-clause-steps
trim-requires-clause-steps c =
    let log = c.args.derivations in
    let named : c.deref.result.now ≡ map step_of c.args.proofs.now = c.deref.ensures.value ∙ c.in_ok-needed.ensures in
    subst (λ ns. AllByRecursion (λ n. (length log.main ≤ n) × (n < length (known_of log))) ns) (sym named) c.requires.proofs

pub with_steps-requires : goal.with_steps-requires
with_steps-requires c =
    let named : c.deref.result.now ≡ map step_of c.args.proofs.now = c.deref.ensures.value ∙ c.in_ok-needed.ensures in
    let count = AllZip-long _ c.deref.result.now c.in_ok-log.log.numbers.items c.in_ok-log.ensures.named in
    ap (λ (ns : List ℕ). length ns) c.deref-2.ensures.value ∙ count ∙ ap (λ (ns : List ℕ). length ns) named ∙ length-map c.args.proofs.now step_of

pub returns : goal.returns
returns c =
    let named : c.deref.result.now ≡ map step_of c.args.proofs.now = c.deref.ensures.value ∙ c.in_ok-needed.ensures in
    record {
      numbers = c.in_ok-log.log.numbers.items;
      log = subst (λ ns. IsTrimmed c.args.derivations ns c.in_ok-log.log.derivations c.in_ok-log.log.numbers.items) named c.in_ok-log.ensures.trimmed;
      proofs_placed = c.in_ok-placed.ensures ∙ ap (λ (ns : List ℕ). proofs_with c.args.proofs.now ns) c.deref-2.ensures.value;
    }
