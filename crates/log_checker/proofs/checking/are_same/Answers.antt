use Rattle.std.proofs.Common.{rules}
use Rattle.std.proofs.lemmas.Slice.Eq.{slice_eq-Decides}
use Rattle.clause_store.specs.declared.lit.Lit.{Lit}
use Rattle.log_checker.proofs.checking.are_same.Goals as goal

pub returns : goal.returns
returns c = slice_eq-Decides (λ (a b : Lit). search rules) c.args.left.now c.args.right.now c.eq.result c.eq.ensures
