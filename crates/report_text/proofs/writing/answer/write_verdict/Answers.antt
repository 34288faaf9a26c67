use Rattle.std.proofs.Common.{rules, ◌≡◌, ℕ, ◌+◌, List, ◌∷◌, ◌++◌, [], decimal, subst, sym}
use Rattle.std.specs.Prelude.{codes}
use Rattle.report_words.specs.Writing.{GrowsWithin}
use Rattle.report_words.proofs.Growth.{part_of_first, rest_written, same_text}
use Rattle.report_text.proofs.WritingTexts.{line_text, verdict_text, stopped_as}
use Rattle.report_text.proofs.writing.answer.write_verdict.Goals as goal

pub returns-in_err-write_line-in-No : goal.returns-in_err-write_line-in-No
returns-in_err-write_line-in-No c =
    let number : c.as_bytes-number.result.now ≡ decimal (c.args.query + 1) = search rules in
    let P : List ℕ → Type 0 = λ w. GrowsWithin c.args.into.now.items c.write_line-in-No.new.into.items (line_text (codes "verdict" ∷ w ∷ codes "no" ∷ [])) in
    stopped_as _ _ _ _ _ c.from_residual.ensures.0 (verdict_text _ _ _ c.in-No.is)
    (part_of_first _ _ (line_text (codes "verdict" ∷ decimal (c.args.query + 1) ∷ codes "no" ∷ [])) _ (subst P number c.in_err-write_line-in-No.ensures))

pub returns-in_ok-write_line-in-No : goal.returns-in_ok-write_line-in-No
returns-in_ok-write_line-in-No c =
    let line : c.write_line-in-No.new.into.items ≡ c.args.into.now.items ++ line_text (codes "verdict" ∷ decimal (c.args.query + 1) ∷ codes "no" ∷ []) = search rules in
    same_text _ _ _ _ _ (sym (verdict_text _ _ _ c.in-No.is))
    (rest_written _ _ _ _ (line_text (codes "verdict" ∷ decimal (c.args.query + 1) ∷ codes "no" ∷ [])) _ line c.write_shown.ensures)
