use Rattle.std.proofs.Common.{◌≡◌, ◌<◌, ◌≤◌, List, [], ◌∷◌, ◌++◌, length, get_or, arith, ap, sym, subst, ◌∙◌}
use Rattle.std.specs.Prelude.{Bool, false}
use Rattle.std.proofs.lemmas.Option.{unwrap_or-slice_get}
use Rattle.std.proofs.lemmas.List.Concat.{flat_map_single}
use Rattle.formulas.specs.WordLaws.{word_size}
use Rattle.formula_text.specs.ValuationWords.{truth_digit}
use Rattle.report_words.specs.Writing.{GrowsWithin}
use Rattle.report_words.proofs.Growth.{part_of_next, next_written, all_written, stopped}
use Rattle.formula_text.proofs.valuations.write_valuation.Goals as goal

pub returns-in_err-write_truth : goal.returns-in_err-write_truth
returns-in_err-write_truth c =
    let v = c.args.valuation in
    let size : length v ≡ c.valuation.inside.atoms = sym (ap (λ (w : List Bool). length w) c.valuation.view_is) ∙ word_size _ _ in
    let within : c.loop-atom.atom < length v = omega (arith, size, c.loop-atom-test.true) in
    let is : c.get.result ≡ get_or v c.loop-atom.atom false = c.get.ensures ∙ unwrap_or-slice_get v c.loop-atom.atom false in
    let part = part_of_next (λ value. truth_digit value ∷ []) v c.loop-atom.atom _ false _ _ _ within is c.loop-atom.invariant c.in_err-write_truth.ensures in
    stopped _ _ _ _ c.from_residual.ensures.0 (subst (λ text. GrowsWithin c.args.into.now.items c.write_truth.new.into.items text) (flat_map_single truth_digit v) part)

pub loop-atom-preserved : goal.loop-atom-preserved
loop-atom-preserved c =
    let v = c.args.valuation in
    let size : length v ≡ c.valuation.inside.atoms = sym (ap (λ (w : List Bool). length w) c.valuation.view_is) ∙ word_size _ _ in
    let within : c.loop-atom.atom < length v = omega (arith, size, c.loop-atom-test.true) in
    let is : c.get.result ≡ get_or v c.loop-atom.atom false = c.get.ensures ∙ unwrap_or-slice_get v c.loop-atom.atom false in
    next_written (λ value. truth_digit value ∷ []) v c.loop-atom.atom _ false _ _ _ within is c.loop-atom.invariant c.in_ok-write_truth.ensures

pub returns : goal.returns
returns c =
    let v = c.args.valuation in
    let size : length v ≡ c.valuation.inside.atoms = sym (ap (λ (w : List Bool). length w) c.valuation.view_is) ∙ word_size _ _ in
    let over : length v ≤ c.loop-atom.atom = omega (arith, size, c.loop-atom-test.false) in
    all_written (λ value. truth_digit value ∷ []) v c.loop-atom.atom _ _ over c.loop-atom.invariant ∙ ap (λ text. c.args.into.now.items ++ text) (flat_map_single truth_digit v)
