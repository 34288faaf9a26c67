use Rattle.std.proofs.Common.{ap, ◌∙◌, position, unwrap_or}
use Rattle.std.specs.Str.{bytes_eq}
use Rattle.formula_grammar.proofs.Names.{position_or_length}
use Rattle.formula_grammar.proofs.symbols.number_in.Goals as goal

pub returns : goal.returns
returns c =
    let atoms = c.args.atoms.now in
    c.unwrap_or.ensures ∙ ap (λ o. unwrap_or o c.len.result) c.number_of.ensures.number
    ∙ ap (unwrap_or (position (bytes_eq c.args.name.now) atoms)) c.len.ensures.number ∙ position_or_length (bytes_eq c.args.name.now) atoms
