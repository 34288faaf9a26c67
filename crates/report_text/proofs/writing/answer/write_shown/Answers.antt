use Rattle.std.proofs.Common.{rules, ◌≡◌, ℕ, List, [], ◌∷◌, ◌++◌, map, decimal, subst, sym, append-nil}
use Rattle.std.specs.Prelude.{codes, Bool}
use Rattle.formula_text.specs.ValuationWords.{valuation_word}
use Rattle.report_words.specs.Writing.{GrowsWithin, Writes}
use Rattle.report_words.proofs.Growth.{part_of_first, part_of_rest, rest_written, same_text, stopped}
use Rattle.report_text.proofs.WritingTexts.{line_text}
use Rattle.report_text.proofs.writing.answer.write_shown.Goals as goal

pub returns-in_err-write_valuations_line : goal.returns-in_err-write_valuations_line
returns-in_err-write_valuations_line c =
    stopped _ _ _ _ c.from_residual.ensures.0 (part_of_first _ _ (line_text (codes "model" ∷ valuation_word c.args.shown.now.model ∷ [])) _ c.in_err-write_valuations_line.ensures)

pub returns-in_err-write_numbers_line : goal.returns-in_err-write_numbers_line
returns-in_err-write_numbers_line c =
    let vector : c.as_slice.result.now ≡ c.args.shown.now.vector = search rules in
    let P : List ℕ → Type 0 = λ ns. GrowsWithin c.write_valuations_line.new.into.items c.write_numbers_line.new.into.items (line_text (codes "vector" ∷ map decimal ns)) in
    stopped _ _ _ _ c.from_residual-in_err-write_numbers_line.ensures.0
    (part_of_rest _ _ _ (line_text (codes "model" ∷ valuation_word c.args.shown.now.model ∷ [])) _ c.in_ok-write_valuations_line.ensures
    (part_of_first _ _ (line_text (codes "vector" ∷ map decimal c.args.shown.now.vector)) _ (subst P vector c.in_err-write_numbers_line.ensures)))

pub returns : goal.returns
returns c =
    let vector : c.write_numbers_line.new.into.items ≡ c.write_valuations_line.new.into.items ++ line_text (codes "vector" ∷ map decimal c.args.shown.now.vector) = search rules in
    let nearest : c.as_slice-2.result.now ≡ c.args.shown.now.nearest = search rules in
    let P : List (List Bool) → Type 0 = λ vs. Writes c.write_valuations_line-2.result c.write_numbers_line.new.into.items c.write_valuations_line-2.new.into.items (line_text (codes "nearest" ∷ map valuation_word vs)) in
    rest_written _ _ _ _ (line_text (codes "model" ∷ valuation_word c.args.shown.now.model ∷ [])) _ c.in_ok-write_valuations_line.ensures
    (rest_written _ _ _ _ (line_text (codes "vector" ∷ map decimal c.args.shown.now.vector)) _ vector
    (same_text _ _ _ _ _ (sym (append-nil (line_text (codes "nearest" ∷ map valuation_word c.args.shown.now.nearest)))) (subst P nearest c.write_valuations_line-2.ensures)))
