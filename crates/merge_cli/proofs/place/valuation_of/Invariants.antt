use Rattle.std.proofs.Common.{◌≡◌, length, map, take}
use Rattle.merge_cli.specs.Places.{is_one}
use Rattle.merge_cli.proofs.place.valuation_of.Given as goal

abbrev pub invariant-loop-atom : goal.invariant-loop-atom
invariant-loop-atom l = (length l.valuation ≡ length l.digits) × (take l.atom l.valuation ≡ map is_one (take l.atom l.digits))
