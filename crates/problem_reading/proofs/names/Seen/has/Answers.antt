use Rattle.std.proofs.Common.{string_bytes}
use Rattle.std.specs.Str.{bytes_eq}
use Rattle.formulas.proofs.NameViews.{list_any-map}
use Rattle.problem_reading.proofs.names.Seen.has.Goals as goal

pub returns-in-None : goal.returns-in-None
returns-in-None c = rw (← c.self.view_is, list_any-map (bytes_eq c.args.word.now) string_bytes c.self.inside.words.keys) c.in-None.ensures.found

pub returns-in-Some : goal.returns-in-Some
returns-in-Some c = rw (← c.self.view_is, list_any-map (bytes_eq c.args.word.now) string_bytes c.self.inside.words.keys) c.in-Some.ensures.found
