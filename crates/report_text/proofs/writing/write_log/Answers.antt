use Rattle.std.proofs.Common.{◌≡◌, List, ℕ, [], ◌∷◌, ◌++◌, length, sym, subst, rules}
use Rattle.std.specs.List.{flat_map}
use Rattle.report_words.specs.Writing.{GrowsWithin, Writes}
use Rattle.report_words.proofs.Growth.{part_of_first, part_of_rest, rest_written, same_text}
use Rattle.report_lines.specs.declared.report.Proof.{Proof}
use Rattle.report_lines.specs.Items.{MainLine, EndLine}
use Rattle.report_lines.specs.Parts.{items_text, kind_of_answer}
use Rattle.report_lines.specs.Places.{end_number}
use Rattle.report_text.specs.WritingItems.{proof_text}
use Rattle.report_text.proofs.WritingTexts.{stopped_as}
use Rattle.report_text.proofs.WritingProofs.{log_pieces}
use Rattle.report_text.proofs.writing.write_log.Goals as goal

pub returns-in_err-write_main : goal.returns-in_err-write_main
returns-in_err-write_main c =
    let r = c.args.report.now in
    stopped_as _ _ _ _ _ c.from_residual.ensures.0 (log_pieces r c.requires.whole)
    (part_of_first _ _ (items_text (MainLine r.derivations.vars (length r.derivations.main) ∷ [])) _ c.in_err-write_main.ensures)

pub returns-in_err-write_steps : goal.returns-in_err-write_steps
returns-in_err-write_steps c =
    let r = c.args.report.now in
    stopped_as _ _ _ _ _ c.from_residual-in_err-write_steps.ensures.0 (log_pieces r c.requires.whole)
    (part_of_rest _ _ _ (items_text (MainLine r.derivations.vars (length r.derivations.main) ∷ [])) _ c.in_ok-write_main.ensures
    (part_of_first _ _ _ _ c.in_err-write_steps.ensures))

pub returns-in_err-write_proofs : goal.returns-in_err-write_proofs
returns-in_err-write_proofs c =
    let r = c.args.report.now in
    let proofs : c.as_slice.result.now ≡ r.proofs = search rules in
    let P : List Proof → Type 0 = λ ps. GrowsWithin c.write_steps.new.into.items c.write_proofs.new.into.items (flat_map proof_text ps) in
    stopped_as _ _ _ _ _ c.from_residual-in_err-write_proofs.ensures.0 (log_pieces r c.requires.whole)
    (part_of_rest _ _ _ (items_text (MainLine r.derivations.vars (length r.derivations.main) ∷ [])) _ c.in_ok-write_main.ensures
    (part_of_rest _ _ _ _ _ c.in_ok-write_steps.ensures
    (part_of_first _ _ _ _ (subst P proofs c.in_err-write_proofs.ensures))))

pub returns : goal.returns
returns c =
    let r = c.args.report.now in
    let proofs : c.write_proofs.new.into.items ≡ c.write_steps.new.into.items ++ flat_map proof_text r.proofs = search rules in
    let last : c.end_number.result ≡ end_number (kind_of_answer r.answer) = search rules in
    let P : ℕ → Type 0 = λ n. Writes c.write_end.result c.write_proofs.new.into.items c.write_end.new.into.items (items_text (EndLine n ∷ [])) in
    same_text _ _ _ _ _ (sym (log_pieces r c.requires.whole))
    (rest_written _ _ _ _ (items_text (MainLine r.derivations.vars (length r.derivations.main) ∷ [])) _ c.in_ok-write_main.ensures
    (rest_written _ _ _ _ _ _ c.in_ok-write_steps.ensures
    (rest_written _ _ _ _ (flat_map proof_text r.proofs) _ proofs
    (subst P last c.write_end.ensures))))
