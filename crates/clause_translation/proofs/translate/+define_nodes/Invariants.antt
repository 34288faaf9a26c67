use Rattle.formulas.specs.Formulas.{nodes_of}
use Rattle.clause_translation.proofs.translate.+define_nodes.Given as goal

-- the parts have fewer nodes
abbrev pub decreases-define_nodes : goal.decreases-define_nodes
decreases-define_nodes l = nodes_of l.formula.now
