use Rattle.std.proofs.Common.{◌++◌, ◌∷◌, [], length, filter, ap, sym, ◌∙◌, arith, append-nil}
use Rattle.std.proofs.lemmas.Nat.{one_shl}
use Rattle.formulas.specs.Formulas.{holds}
use Rattle.formulas.specs.WordLaws.{word_size}
use Rattle.merge_model.specs.Merging.{models_of}
use Rattle.merge_model.proofs.Words.{walk_more, walk_done}
use Rattle.merge_model.proofs.plain.tables.models.Goals as goal

pub push_model-requires : goal.push_model-requires
push_model-requires c = omega (arith, ap length c.new.ensures, word_size c.args.atoms c.loop-bits.bits, c.requires.within)

pub loop-bits-preserved : goal.loop-bits-preserved
loop-bits-preserved c =
    walk_more (holds c.args.formula.now) c.args.atoms c.loop-bits.bits c.loop-bits.models.items c.push_model.new.models.items (models_of c.args.atoms c.args.formula.now)
    (omega (arith, one_shl c.args.atoms 64 (omega arith)))
    (c.in_ok-push_model.ensures ∙ ap (λ w. c.loop-bits.models.items ++ filter (holds c.args.formula.now) (w ∷ [])) c.new.ensures)
    c.loop-bits.invariant

pub returns : goal.returns
returns c =
    sym (append-nil c.loop-bits.models.items)
    ∙ walk_done (holds c.args.formula.now) c.args.atoms c.loop-bits.bits c.loop-bits.models.items (models_of c.args.atoms c.args.formula.now)
    (omega (arith, one_shl c.args.atoms 64 (omega arith)))
    c.loop-bits.invariant
