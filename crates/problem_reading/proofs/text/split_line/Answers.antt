use Rattle.std.proofs.Common.{◌≤◌, ◌==◌, ◌∷◌, ℕ, not, length, take, drop, suc, sym, ap, subst, ◌∙◌}
use Rattle.std.proofs.lemmas.List.Sums.{prefix_len-le-length}
use Rattle.problem_lines.specs.Lines.{lines_of}
use Rattle.problem_reading.proofs.Progress.{line_size, first_line, drop_suc, empty_of}
use Rattle.problem_reading.proofs.text.split_line.Goals as goal

pub split_at-requires : goal.split_at-requires
split_at-requires c =
    let P : ℕ → Type 0 = λ n. n ≤ length c.args.text.now in
    subst P (sym c.line_size.ensures) (prefix_len-le-length (λ byte. not (byte == 10)) c.args.text.now)

pub returns-then-is_empty-clause-lines : goal.returns-then-is_empty-clause-lines
returns-then-is_empty-clause-lines c =
    let text = c.args.text.now in
    let n = line_size text in
    let size = c.line_size.ensures in
    let rest = c.split_at.result.1.now in
    let none = empty_of rest c.if-is_empty.ensures in
    first_line text c.requires
    ∙ ap (λ w. w ∷ lines_of (drop (suc n) text)) (ap (λ k. take k text) (sym size) ∙ sym c.split_at.ensures.front)
    ∙ ap (λ r. c.split_at.result.0.now ∷ lines_of r)
    (drop_suc n text ∙ ap (λ k. drop 1 (drop k text)) (sym size) ∙ ap (drop 1) (sym c.split_at.ensures.back) ∙ ap (drop 1) none ∙ sym none)

pub returns-else-is_empty-clause-lines : goal.returns-else-is_empty-clause-lines
returns-else-is_empty-clause-lines c =
    let text = c.args.text.now in
    let n = line_size text in
    let size = c.line_size.ensures in
    first_line text c.requires
    ∙ ap (λ w. w ∷ lines_of (drop (suc n) text)) (ap (λ k. take k text) (sym size) ∙ sym c.split_at.ensures.front)
    ∙ ap (λ r. c.split_at.result.0.now ∷ lines_of r)
    (drop_suc n text ∙ ap (λ k. drop 1 (drop k text)) (sym size) ∙ ap (drop 1) (sym c.split_at.ensures.back) ∙ sym c.after_first.ensures)
