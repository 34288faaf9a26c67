use Rattle.std.proofs.Common.{rules, ◌≡◌, ℕ, List, ◌∷◌, ◌++◌, [], map, decimal, subst, sym}
use Rattle.std.specs.Prelude.{codes, Bool, Option}
use Rattle.merge_model.specs.declared.answer.Verdict.{Verdict}
use Rattle.report_words.specs.Writing.{GrowsWithin, Writes}
use Rattle.report_words.proofs.Growth.{part_of_first, part_of_rest, rest_written, same_text}
use Rattle.report_lines.specs.declared.kinds.Subject.TheVariants.{TheConstraint}
use Rattle.report_lines.specs.Parts.{items_text, verdict_items, base_items, named_item}
use Rattle.report_text.proofs.WritingTexts.{line_text, merged_text, inconsistent_text, stopped_as}
use Rattle.report_text.proofs.writing.answer.write_answer_lines.Goals as goal

pub returns-in_err-write_shown-in-Merged : goal.returns-in_err-write_shown-in-Merged
returns-in_err-write_shown-in-Merged c =
    stopped_as _ _ _ _ _ c.from_residual.ensures.0 (merged_text _ _ _ _ c.in-Merged.is) (part_of_first _ _ _ _ c.in_err-write_shown-in-Merged.ensures)

pub returns-in_err-write_numbers_line-in-Merged : goal.returns-in_err-write_numbers_line-in-Merged
returns-in_err-write_numbers_line-in-Merged c =
    let measure : c.as_slice.result.now ≡ c.in-Merged.measure = search rules in
    let P : List ℕ → Type 0 = λ ns. GrowsWithin c.write_shown.new.into.items c.write_numbers_line.new.into.items (line_text (codes "measure" ∷ map decimal ns)) in
    stopped_as _ _ _ _ _ c.from_residual-in_err-write_numbers_line-in-Merged.ensures.0 (merged_text _ _ _ _ c.in-Merged.is)
    (part_of_rest _ _ _ _ _ c.in_ok-write_shown-in-Merged.ensures
    (part_of_first _ _ (line_text (codes "measure" ∷ map decimal c.in-Merged.measure)) _ (subst P measure c.in_err-write_numbers_line-in-Merged.ensures)))

pub returns-in_ok-write_numbers_line-in-Merged : goal.returns-in_ok-write_numbers_line-in-Merged
returns-in_ok-write_numbers_line-in-Merged c =
    let measure : c.write_numbers_line.new.into.items ≡ c.write_shown.new.into.items ++ line_text (codes "measure" ∷ map decimal c.in-Merged.measure) = search rules in
    let verdicts : c.as_slice-in-Merged.result.now ≡ c.in-Merged.verdicts = search rules in
    let P : List Verdict → Type 0 = λ vs. Writes c.write_verdicts.result c.write_numbers_line.new.into.items c.write_verdicts.new.into.items (items_text (verdict_items 0 vs)) in
    same_text _ _ _ _ _ (sym (merged_text _ _ _ _ c.in-Merged.is))
    (rest_written _ _ _ _ _ _ c.in_ok-write_shown-in-Merged.ensures
    (rest_written _ _ _ _ (line_text (codes "measure" ∷ map decimal c.in-Merged.measure)) _ measure (subst P verdicts c.write_verdicts.ensures)))

pub returns-in_err-write_named-in-Inconsistent : goal.returns-in_err-write_named-in-Inconsistent
returns-in_err-write_named-in-Inconsistent c =
    stopped_as _ _ _ _ _ c.from_residual-in_err-write_named-in-Inconsistent.ensures.0 (inconsistent_text _ _ _ c.in-Inconsistent.is)
    (part_of_first _ _ (items_text (named_item TheConstraint c.in-Inconsistent.constraint ∷ [])) _ c.in_err-write_named-in-Inconsistent.ensures)

pub returns-in_ok-write_named-in-Inconsistent : goal.returns-in_ok-write_named-in-Inconsistent
returns-in_ok-write_named-in-Inconsistent c =
    let agents : c.as_slice-in-Inconsistent.result.now ≡ c.in-Inconsistent.agents = search rules in
    let P : List (Option (List Bool)) → Type 0 = λ es. Writes c.write_bases.result c.write_named.new.into.items c.write_bases.new.into.items (items_text (base_items 0 es)) in
    same_text _ _ _ _ _ (sym (inconsistent_text _ _ _ c.in-Inconsistent.is))
    (rest_written _ _ _ _ (items_text (named_item TheConstraint c.in-Inconsistent.constraint ∷ [])) _ c.in_ok-write_named-in-Inconsistent.ensures (subst P agents c.write_bases.ensures))
