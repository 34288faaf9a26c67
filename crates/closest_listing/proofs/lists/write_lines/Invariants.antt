use Rattle.std.proofs.Common.{◌≡◌, ◌++◌, take}
use Rattle.std.specs.List.{flat_map}
use Rattle.closest_listing.specs.Lists.{valuation_line}
use Rattle.closest_listing.proofs.lists.write_lines.Given as goal

abbrev pub invariant-loop-valuation : goal.invariant-loop-valuation
invariant-loop-valuation l = l.into.items ≡ l.fn.into.items ++ flat_map valuation_line (take l.valuation-index l.valuations)
