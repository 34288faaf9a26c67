use Rattle.std.proofs.Common.{sym}
use Rattle.std.specs.Str.{bytes_eq}
use Rattle.problem_reading.proofs.NameLists.{found}
use Rattle.problem_reading.proofs.names.is_declared.Goals as goal

pub returns-in-Some : goal.returns-in-Some
returns-in-Some c = sym (found (bytes_eq c.args.name.now) c.args.atoms.now _ (sym c.in-Some.ensures.number))
