use Rattle.formula_grammar.proofs.ReadBack.{read_back}
use Rattle.formula_grammar.proofs.laws.canonical_text_is_read_back.Goals as goal

pub returns : goal.returns
returns c = read_back c.args.atoms.now c.len-count.ensures.names c.args.formula.now c.requires.width c.requires.depth
