use Rattle.std.proofs.Common.{length, ap, arith}
use Rattle.merge_encoding.proofs.Signs.{fits_at, better_done}
use Rattle.merge_encoding.proofs.assuming.push_better.Goals as goal

pub at_least-requires-clause-high : goal.at_least-requires-clause-high
at_least-requires-clause-high c = omega (arith, fits_at c.args.values.now c.args.levels.now c.args.level 0 c.index-levels-level.result c.requires.fit c.requires.level, ap length c.index-levels-level.is)

pub returns : goal.returns
returns c =
    better_done c.args.lits.now.items c.push_limits.new.lits.items c.push.new.self.items c.args.levels.now c.args.values.now c.args.level c.index-levels-level.result c.at_least.result c.negated.result c.requires.fit c.requires.level
    c.index-levels-level.is c.at_least.ensures c.negated.ensures c.in_ok-push_limits.ensures c.in_ok-push.ensures.items
