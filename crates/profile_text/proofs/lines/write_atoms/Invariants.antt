use Rattle.std.proofs.Common.{◌≡◌, ◌++◌, drop}
use Rattle.std.specs.Prelude.{codes}
use Rattle.profile_text.specs.ProblemText.{spaced_names}
use Rattle.profile_text.proofs.lines.write_atoms.Given as goal

-- what is written, with the names that are left, ends in the line
abbrev pub invariant-loop-number : goal.invariant-loop-number
invariant-loop-number l = l.into.items ++ spaced_names (drop l.number l.atoms) ≡ l.fn.into.items ++ (codes "atoms" ++ spaced_names (drop l.from l.atoms))
