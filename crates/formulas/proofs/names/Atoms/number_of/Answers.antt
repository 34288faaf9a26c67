use Rattle.std.proofs.Common.{string_bytes, sym}
use Rattle.std.specs.Str.{bytes_eq}
use Rattle.formulas.proofs.NameViews.{position-map, list_any-map}
use Rattle.formulas.proofs.names.Atoms.number_of.Goals as goal

pub returns-in-None-clause-number : goal.returns-in-None-clause-number
returns-in-None-clause-number c =
    rw (← c.self.view_is, position-map (bytes_eq c.args.name.now) string_bytes c.self.inside.names.keys) c.in-None.ensures.index

pub returns-in-None-clause-absent : goal.returns-in-None-clause-absent
returns-in-None-clause-absent c =
    rw (← c.self.view_is, list_any-map (bytes_eq c.args.name.now) string_bytes c.self.inside.names.keys) (sym c.in-None.ensures.found)

pub returns-in-Some-clause-number : goal.returns-in-Some-clause-number
returns-in-Some-clause-number c =
    rw (← c.self.view_is, position-map (bytes_eq c.args.name.now) string_bytes c.self.inside.names.keys) c.in-Some.ensures.index
