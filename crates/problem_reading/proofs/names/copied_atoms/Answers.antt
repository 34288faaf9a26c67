use Rattle.std.proofs.Common.{◌∷◌, [], ◌++◌, drop, add-one, suc, append_assoc, sym, ap, ◌∙◌, arith}
use Rattle.problem_reading.proofs.NameLists.{may_follow}
use Rattle.problem_reading.proofs.names.copied_atoms.Goals as goal
use Rattle.profile_text.proofs.Pieces.{drop_at}

pub add-requires-clause-name : goal.add-requires-clause-name
add-requires-clause-name c =
    let atoms = c.args.atoms.now in
    let next = drop_at atoms c.loop-number.number c.name.result.now c.name.ensures in
    (may_follow c.loop-number.copied (drop (suc c.loop-number.number) atoms) atoms c.name.result.now
    (ap (λ ws. c.loop-number.copied ++ ws) (sym next) ∙ c.loop-number.invariant) c.len-count.ensures.names (omega (arith, c.len-count.ensures.number, c.len-count.ensures.few))).legal

pub add-requires-clause-absent : goal.add-requires-clause-absent
add-requires-clause-absent c =
    let atoms = c.args.atoms.now in
    let next = drop_at atoms c.loop-number.number c.name.result.now c.name.ensures in
    (may_follow c.loop-number.copied (drop (suc c.loop-number.number) atoms) atoms c.name.result.now
    (ap (λ ws. c.loop-number.copied ++ ws) (sym next) ∙ c.loop-number.invariant) c.len-count.ensures.names (omega (arith, c.len-count.ensures.number, c.len-count.ensures.few))).absent

pub loop-number-preserved : goal.loop-number-preserved
loop-number-preserved c =
    let atoms = c.args.atoms.now in
    let number = c.loop-number.number in
    let copied = c.loop-number.copied in
    let name = c.name.result.now in
    ap (λ n. c.add.new.self ++ drop n atoms) (add-one number) ∙ ap (λ s. s ++ drop (suc number) atoms) c.in_ok-add.ensures.added
    ∙ append_assoc copied (name ∷ []) (drop (suc number) atoms) ∙ ap (λ ws. copied ++ ws) (sym (drop_at atoms number name c.name.ensures)) ∙ c.loop-number.invariant
