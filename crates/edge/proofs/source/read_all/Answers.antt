use Rattle.std.proofs.Common.{arith, length-take}
use Rattle.edge.proofs.Given.{Gave-more}
use Rattle.edge.proofs.source.read_all.Goals as goal

pub returns-then-is_some_and-clause-err : goal.returns-then-is_some_and-clause-err
returns-then-is_some_and-clause-err g c =
    (_, Gave-more _ _ _ _ _ _ _ _ c.loop-count.invariant.0 c.in-Ok.ensures.bytes.0 (simp length-take (omega (arith, c.in-Ok.ensures.bound, c.in-Ok.ensures.room))))

pub returns-then-is_err-clause-err : goal.returns-then-is_err-clause-err
returns-then-is_err-clause-err g c =
    (_, Gave-more _ _ _ _ _ _ _ _ c.loop-count.invariant.0 c.in-Ok.ensures.bytes.0 (simp length-take (omega (arith, c.in-Ok.ensures.bound, c.in-Ok.ensures.room))))
