use Rattle.std.proofs.Common.{◌≡◌, ◌==◌, ◌<◌, length, arith, ap, sym, ◌∙◌, subst, rules}
use Rattle.std.specs.Prelude.{IfOk}
use Rattle.formulas.specs.Words.{truth_at}
use Rattle.formulas.specs.declared.formula.Formula.{Formula}
use Rattle.formulas.specs.declared.formula.Formula.TheVariants.{Or}
use Rattle.bench_problem.specs.Draws.{state_after, number_below, drawn, drawn_bit}
use Rattle.bench_problem.specs.Planted.{disjunction_of, literal_of, atom_count}
use Rattle.bench_problem.proofs.DrawLaws.{draw_more, state_after_one}
use Rattle.bench_problem.proofs.PlantedLaws.{truth_get}
use Rattle.bench_problem.proofs.planted.disjunction.Goals as goal

pub returns-clause-formula : goal.returns-clause-formula
returns-clause-formula c =
    let s = c.args.draws.now in
    let values = c.args.values.now in
    let one : c.draw-first.new.self ≡ state_after s 1 = c.draw-first.ensures.state ∙ sym (state_after_one s) in
    let two : c.draw-second.new.self ≡ state_after s 2 = draw_more s 1 _ _ one c.draw-second.ensures.state in
    let three : c.draw_bit-second_sign.new.self ≡ state_after s 3 = draw_more s 2 _ _ two c.draw_bit-second_sign.ensures.state in
    let four : c.draw-third.new.self ≡ state_after s 4 = draw_more s 3 _ _ three c.draw-third.ensures.state in
    let five : c.draw_bit-third_sign.new.self ≡ state_after s 5 = draw_more s 4 _ _ four c.draw_bit-third_sign.ensures.state in
    let first : c.draw-first.result ≡ drawn s 0 atom_count = c.draw-first.ensures.number ∙ ap (λ t. number_below t atom_count) one in
    let second : c.draw-second.result ≡ drawn s 1 atom_count = c.draw-second.ensures.number ∙ ap (λ t. number_below t atom_count) two in
    let second_sign : c.draw_bit-second_sign.result ≡ drawn_bit s 2 = c.draw_bit-second_sign.ensures.value ∙ ap (λ t. number_below t 2 == 1) three in
    let third : c.draw-third.result ≡ drawn s 3 atom_count = c.draw-third.ensures.number ∙ ap (λ t. number_below t atom_count) four in
    let third_sign : c.draw_bit-third_sign.result ≡ drawn_bit s 4 = c.draw_bit-third_sign.ensures.value ∙ ap (λ t. number_below t 2 == 1) five in
    let within : c.draw-first.result < length values = omega (arith, c.draw-first.ensures.below, c.requires) in
    let left : c.in_ok-left.left ≡ literal_of (drawn s 0 atom_count) (truth_at values (drawn s 0 atom_count)) =
    c.in_ok-left.ensures ∙ ap (literal_of c.draw-first.result) (sym (truth_get values c.draw-first.result _ within)) ∙ ap (λ a. literal_of a (truth_at values a)) first in
    let same : Or c.in_ok-two.two c.in_ok-right.right ≡ disjunction_of values s =
    cc (c.in_ok-two.ensures, left, c.in_ok-middle.ensures, c.in_ok-right.ensures, second, second_sign, third, third_sign) in
    subst (λ (f : Formula). IfOk c.disjunction-2.result (λ built. built ≡ f)) same c.disjunction-2.ensures

pub returns-clause-state : goal.returns-clause-state
returns-clause-state c =
    let s = c.args.draws.now in
    let one : c.draw-first.new.self ≡ state_after s 1 = c.draw-first.ensures.state ∙ sym (state_after_one s) in
    let two : c.draw-second.new.self ≡ state_after s 2 = draw_more s 1 _ _ one c.draw-second.ensures.state in
    let three : c.draw_bit-second_sign.new.self ≡ state_after s 3 = draw_more s 2 _ _ two c.draw_bit-second_sign.ensures.state in
    let four : c.draw-third.new.self ≡ state_after s 4 = draw_more s 3 _ _ three c.draw-third.ensures.state in
    let five : c.draw_bit-third_sign.new.self ≡ state_after s 5 = draw_more s 4 _ _ four c.draw_bit-third_sign.ensures.state in
    search (rules, five)
