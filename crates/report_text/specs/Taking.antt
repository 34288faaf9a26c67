-- What a state does with an item that a line has.
use Rattle.std.specs.Prelude.{◌≡◌, true, false, Result, Ok, Err}
use Rattle.report_lines.specs.Following.{after}
use Rattle.report_lines.specs.Holding.{holds, kind_of}
use Rattle.report_lines.specs.Items.{Item}
use Rattle.report_lines.specs.Places.{Position}
use Rattle.report_text.specs.declared.stop.LineStop.{LineStop}
use Rattle.report_text.specs.declared.stop.LineStop.TheVariants as stops

-- what must hold of the item holds, and the new state stands after it; or it does not hold; or there was no memory
abbrev pub Takes : {X : Type 0} → Position → Item → (Position → Type 0) → Result X LineStop → Type 0
Takes p x stands (Ok _) = (holds p x ≡ true) × stands (after p x)
Takes p x stands (Err (stops.Wrong k)) = (holds p x ≡ false) × (k ≡ kind_of x)
Takes p x stands (Err stops.NoMemory) = Unit {0}
