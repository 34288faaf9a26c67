use Rattle.std.proofs.Common.{◌∷◌, [], map, sym}
use Rattle.std.specs.Prelude.{codes}
use Rattle.formula_text.specs.ValuationWords.{valuation_word}
use Rattle.report_words.specs.Words.{later_text}
use Rattle.report_words.proofs.Growth.{part_of_first, part_of_rest, rest_written, same_text}
use Rattle.report_text.proofs.WritingTexts.{lacking_text, having_text, stopped_as}
use Rattle.report_text.proofs.writing.answer.write_named.Goals as goal

pub returns-in_err-write_bytes-in-None : goal.returns-in_err-write_bytes-in-None
returns-in_err-write_bytes-in-None c =
    stopped_as _ _ _ _ _ c.from_residual.ensures.0 (lacking_text _ _ c.in-None.is)
    (part_of_first _ _ (codes "no-model") _ c.in_err-write_bytes-in-None.ensures.written)

pub returns-in_err-write_subject-in-None : goal.returns-in_err-write_subject-in-None
returns-in_err-write_subject-in-None c =
    stopped_as _ _ _ _ _ c.from_residual-in_err-write_subject-in-None.ensures.0 (lacking_text _ _ c.in-None.is)
    (part_of_rest _ _ _ (codes "no-model") _ c.in_ok-write_bytes-in-None.ensures.written
    (part_of_first _ _ _ _ c.in_err-write_subject-in-None.ensures))

pub returns-in_ok-write_subject-in-None : goal.returns-in_ok-write_subject-in-None
returns-in_ok-write_subject-in-None c =
    same_text _ _ _ _ _ (sym (lacking_text _ _ c.in-None.is))
    (rest_written _ _ _ _ (codes "no-model") _ c.in_ok-write_bytes-in-None.ensures.written
    (rest_written _ _ _ _ _ _ c.in_ok-write_subject-in-None.ensures c.write_bytes-in-None.ensures.written))

pub returns-in_err-write_bytes-in-Some : goal.returns-in_err-write_bytes-in-Some
returns-in_err-write_bytes-in-Some c =
    stopped_as _ _ _ _ _ c.from_residual-in_err-write_bytes-in-Some.ensures.0 (having_text _ _ _ c.in-Some.is)
    (part_of_first _ _ (codes "has-model") _ c.in_err-write_bytes-in-Some.ensures.written)

pub returns-in_err-write_subject-in-Some : goal.returns-in_err-write_subject-in-Some
returns-in_err-write_subject-in-Some c =
    stopped_as _ _ _ _ _ c.from_residual-in_err-write_subject-in-Some.ensures.0 (having_text _ _ _ c.in-Some.is)
    (part_of_rest _ _ _ (codes "has-model") _ c.in_ok-write_bytes-in-Some.ensures.written
    (part_of_first _ _ _ _ c.in_err-write_subject-in-Some.ensures))

pub returns-in_err-write_valuations-in-Some : goal.returns-in_err-write_valuations-in-Some
returns-in_err-write_valuations-in-Some c =
    stopped_as _ _ _ _ _ c.from_residual-in_err-write_valuations-in-Some.ensures.0 (having_text _ _ _ c.in-Some.is)
    (part_of_rest _ _ _ (codes "has-model") _ c.in_ok-write_bytes-in-Some.ensures.written
    (part_of_rest _ _ _ _ _ c.in_ok-write_subject-in-Some.ensures
    (part_of_first _ _ (later_text (map valuation_word (c.in-Some.valuation ∷ []))) _ c.in_err-write_valuations-in-Some.ensures)))

pub returns-in_ok-write_valuations-in-Some : goal.returns-in_ok-write_valuations-in-Some
returns-in_ok-write_valuations-in-Some c =
    same_text _ _ _ _ _ (sym (having_text _ _ _ c.in-Some.is))
    (rest_written _ _ _ _ (codes "has-model") _ c.in_ok-write_bytes-in-Some.ensures.written
    (rest_written _ _ _ _ _ _ c.in_ok-write_subject-in-Some.ensures
    (rest_written _ _ _ _ (later_text (map valuation_word (c.in-Some.valuation ∷ []))) _ c.in_ok-write_valuations-in-Some.ensures c.write_bytes-in-Some-2.ensures.written)))
