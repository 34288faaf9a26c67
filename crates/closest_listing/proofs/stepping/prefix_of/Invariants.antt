use Rattle.std.proofs.Common.{◌≡◌, take}
use Rattle.closest_listing.proofs.stepping.prefix_of.Given as goal

abbrev pub invariant-loop-k : goal.invariant-loop-k
invariant-loop-k l = l.prefix.items ≡ take l.k l.from
