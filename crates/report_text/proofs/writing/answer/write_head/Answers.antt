use Rattle.std.proofs.Common.{rules, ◌≡◌, ℕ, List, [], ◌∷◌, ◌++◌, decimal, subst, sym, append-nil}
use Rattle.std.specs.Prelude.{codes}
use Rattle.merge_model.specs.OperatorWords.{distance_word, aggregator_word}
use Rattle.report_words.specs.Writing.{GrowsWithin, Writes}
use Rattle.report_words.proofs.Growth.{part_of_first, part_of_rest, rest_written, same_text, stopped}
use Rattle.report_text.proofs.WritingTexts.{line_text}
use Rattle.report_text.proofs.writing.answer.write_head.Goals as goal

pub returns-in_err-write_line : goal.returns-in_err-write_line
returns-in_err-write_line c = stopped _ _ _ _ c.from_residual.ensures.0 (part_of_first _ _ (line_text (codes "merge-report" ∷ codes "1" ∷ [])) _ c.in_err-write_line.ensures)

pub returns-in_err-write_line-2 : goal.returns-in_err-write_line-2
returns-in_err-write_line-2 c =
    let word : c.as_bytes.result.now ≡ distance_word c.args.distance = search rules in
    let P : List ℕ → Type 0 = λ w. GrowsWithin c.write_line.new.into.items c.write_line-2.new.into.items (line_text (codes "distance" ∷ w ∷ [])) in
    stopped _ _ _ _ c.from_residual-in_err-write_line-2.ensures.0
    (part_of_rest _ _ _ (line_text (codes "merge-report" ∷ codes "1" ∷ [])) _ c.in_ok-write_line.ensures
    (part_of_first _ _ (line_text (codes "distance" ∷ distance_word c.args.distance ∷ [])) _ (subst P word c.in_err-write_line-2.ensures)))

pub returns-in_err-write_line-3 : goal.returns-in_err-write_line-3
returns-in_err-write_line-3 c =
    let distance : c.write_line-2.new.into.items ≡ c.write_line.new.into.items ++ line_text (codes "distance" ∷ distance_word c.args.distance ∷ []) = search rules in
    let word : c.as_bytes-2.result.now ≡ aggregator_word c.args.aggregator = search rules in
    let P : List ℕ → Type 0 = λ w. GrowsWithin c.write_line-2.new.into.items c.write_line-3.new.into.items (line_text (codes "aggregator" ∷ w ∷ [])) in
    stopped _ _ _ _ c.from_residual-in_err-write_line-3.ensures.0
    (part_of_rest _ _ _ (line_text (codes "merge-report" ∷ codes "1" ∷ [])) _ c.in_ok-write_line.ensures
    (part_of_rest _ _ _ (line_text (codes "distance" ∷ distance_word c.args.distance ∷ [])) _ distance
    (part_of_first _ _ (line_text (codes "aggregator" ∷ aggregator_word c.args.aggregator ∷ [])) _ (subst P word c.in_err-write_line-3.ensures))))

pub returns : goal.returns
returns c =
    let distance : c.write_line-2.new.into.items ≡ c.write_line.new.into.items ++ line_text (codes "distance" ∷ distance_word c.args.distance ∷ []) = search rules in
    let aggregator : c.write_line-3.new.into.items ≡ c.write_line-2.new.into.items ++ line_text (codes "aggregator" ∷ aggregator_word c.args.aggregator ∷ []) = search rules in
    let word : c.as_bytes-3.result.now ≡ decimal c.args.conflicts = search rules in
    let P : List ℕ → Type 0 = λ w. Writes c.write_line-4.result c.write_line-3.new.into.items c.write_line-4.new.into.items (line_text (codes "conflicts" ∷ w ∷ [])) in
    rest_written _ _ _ _ (line_text (codes "merge-report" ∷ codes "1" ∷ [])) _ c.in_ok-write_line.ensures
    (rest_written _ _ _ _ (line_text (codes "distance" ∷ distance_word c.args.distance ∷ [])) _ distance
    (rest_written _ _ _ _ (line_text (codes "aggregator" ∷ aggregator_word c.args.aggregator ∷ [])) _ aggregator
    (same_text _ _ _ _ _ (sym (append-nil (line_text (codes "conflicts" ∷ decimal c.args.conflicts ∷ [])))) (subst P word c.write_line-4.ensures))))
