use Rattle.std.proofs.Common.{◌≡◌, ◌+◌, true, ◌∷◌, [], ◌++◌, map, length, sym, ap, ◌∙◌, string_bytes, arith}
use Rattle.std.proofs.lemmas.List.{length-map, length-append}
use Rattle.formulas.specs.Names.{are_names}
use Rattle.formulas.proofs.NameViews.{keys_added, names_added}
use Rattle.formulas.proofs.names.Atoms.add.Goals as goal

pub returns-clause-added : goal.returns-clause-added
returns-clause-added c =
    keys_added c.self.inside.names.keys _ c.args.self.now c.in_ok-name.name c.args.name.now c.self.view_is c.in_ok-name.ensures.ok c.requires.absent c.in_ok-insert.ensures.keys

pub invariant_of-self-2 : goal.invariant_of-self-2
invariant_of-self-2 c =
    let added : map string_bytes c.insert.new.self.keys ≡ c.args.self.now ++ c.args.name.now ∷ [] =
    keys_added c.self.inside.names.keys c.insert.new.self.keys c.args.self.now c.in_ok-name.name c.args.name.now c.self.view_is c.in_ok-name.ensures.ok c.requires.absent c.in_ok-insert.ensures.keys in
    let known : are_names c.args.self.now ≡ true = sym (ap are_names c.self.view_is) ∙ c.self.invariant.1 in
    let size : length c.insert.new.self.keys ≡ length c.args.self.now + 1 =
    sym (length-map c.insert.new.self.keys string_bytes) ∙ ap length added ∙ length-append c.args.self.now (c.args.name.now ∷ []) in (
      omega (arith, c.requires.few),
      ap are_names added ∙ names_added c.args.self.now c.args.name.now known c.requires.name c.requires.absent,
    )
