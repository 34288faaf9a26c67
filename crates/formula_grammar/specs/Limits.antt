-- How many brackets a formula that is read may have open.
use Rattle.std.specs.Prelude.{ℕ}

-- the most brackets that are open at one place
abbrev pub open_limit : ℕ
open_limit = 128
