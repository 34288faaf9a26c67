use Rattle.std.proofs.Common.{◌≡◌, take, subst, arith}
use Rattle.std.proofs.lemmas.List.{take_rest}
use Rattle.std.proofs.lemmas.Grind.{common_steps}
use Rattle.std.proofs.lemmas.List.Splits.{slice_split_none}
use Rattle.std.specs.Prelude.{eqb}
use Rattle.report_words.proofs.FirstWords.{first_word, one_more, HasNoBlank}
use Rattle.report_words.proofs.words.first_of.Goals as goal

pub returns-then-b-eq32 : goal.returns-then-b-eq32
returns-then-b-eq32 c = rw take_rest (first_word c.args.line.now c.loop-at.at _ c.loop-at-test.true c.loop-at.invariant c.if-b-eq32.true)

pub loop-at-preserved : goal.loop-at-preserved
loop-at-preserved c = one_more c.args.line.now c.loop-at.at _ c.loop-at-test.true c.loop-at.invariant (λ e. c.if-b-eq32.false e)

pub returns : goal.returns
returns c =
    let e : take c.loop-at.at c.args.line.now ≡ c.args.line.now = grind (arith, common_steps) in
    slice_split_none (λ b. eqb b 32) c.args.line.now (subst HasNoBlank e c.loop-at.invariant)
