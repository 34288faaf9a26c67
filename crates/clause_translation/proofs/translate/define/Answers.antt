use Rattle.clause_translation.proofs.Parts.{root_is}
use Rattle.clause_translation.proofs.Defines.{defines}
use Rattle.clause_translation.proofs.translate.define.Goals as goal

pub returns-clause-fresh : goal.returns-clause-fresh
returns-clause-fresh c = root_is c.args.formula.now c.args.atoms.now c.args.clauses.now.vars

pub returns-clause-defines : goal.returns-clause-defines
returns-clause-defines c = defines c.args.formula.now c.args.clauses.now.vars c.args.atoms.now c.requires.in_range c.requires.known
