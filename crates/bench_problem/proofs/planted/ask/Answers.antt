use Rattle.std.proofs.Common.{◌≡◌, ◌==◌, ap, sym, ◌∙◌, subst, rules}
use Rattle.std.specs.Prelude.{IfOk}
use Rattle.formulas.specs.declared.formula.Formula.{Formula}
use Rattle.formulas.specs.declared.formula.Formula.TheVariants.{Or}
use Rattle.bench_problem.specs.Draws.{state_after, number_below, drawn, drawn_bit}
use Rattle.bench_problem.specs.Planted.{ask_of, atom_count}
use Rattle.bench_problem.proofs.DrawLaws.{draw_more, state_after_one}
use Rattle.bench_problem.proofs.planted.ask.Goals as goal

pub returns-clause-formula : goal.returns-clause-formula
returns-clause-formula c =
    let s = c.args.draws.now in
    let one : c.draw-first.new.self ≡ state_after s 1 = c.draw-first.ensures.state ∙ sym (state_after_one s) in
    let two : c.draw_bit-first_sign.new.self ≡ state_after s 2 = draw_more s 1 _ _ one c.draw_bit-first_sign.ensures.state in
    let three : c.draw-second.new.self ≡ state_after s 3 = draw_more s 2 _ _ two c.draw-second.ensures.state in
    let four : c.draw_bit-second_sign.new.self ≡ state_after s 4 = draw_more s 3 _ _ three c.draw_bit-second_sign.ensures.state in
    let first : c.draw-first.result ≡ drawn s 0 atom_count = c.draw-first.ensures.number ∙ ap (λ t. number_below t atom_count) one in
    let first_sign : c.draw_bit-first_sign.result ≡ drawn_bit s 1 = c.draw_bit-first_sign.ensures.value ∙ ap (λ t. number_below t 2 == 1) two in
    let second : c.draw-second.result ≡ drawn s 2 atom_count = c.draw-second.ensures.number ∙ ap (λ t. number_below t atom_count) three in
    let second_sign : c.draw_bit-second_sign.result ≡ drawn_bit s 3 = c.draw_bit-second_sign.ensures.value ∙ ap (λ t. number_below t 2 == 1) four in
    let same : Or c.in_ok-left.left c.in_ok-right.right ≡ ask_of s = cc (c.in_ok-left.ensures, c.in_ok-right.ensures, first, first_sign, second, second_sign) in
    subst (λ (f : Formula). IfOk c.disjunction.result (λ built. built ≡ f)) same c.disjunction.ensures

pub returns-clause-state : goal.returns-clause-state
returns-clause-state c =
    let s = c.args.draws.now in
    let one : c.draw-first.new.self ≡ state_after s 1 = c.draw-first.ensures.state ∙ sym (state_after_one s) in
    let two : c.draw_bit-first_sign.new.self ≡ state_after s 2 = draw_more s 1 _ _ one c.draw_bit-first_sign.ensures.state in
    let three : c.draw-second.new.self ≡ state_after s 3 = draw_more s 2 _ _ two c.draw-second.ensures.state in
    let four : c.draw_bit-second_sign.new.self ≡ state_after s 4 = draw_more s 3 _ _ three c.draw_bit-second_sign.ensures.state in
    search (rules, four)
