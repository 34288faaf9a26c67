use Rattle.std.proofs.Common.{arith}
use Rattle.derivation_log.proofs.Steps.{stands, kind_of_number}
use Rattle.derivation_log.proofs.derivations.Derivations.kind.Goals as goal

pub index-requires : goal.index-requires
index-requires c =
    let s = stands c.args.self.now c.self.inside.known.list c.self.inside.main c.self.inside.known.vars c.self.inside.rows.items c.self.invariant c.self.view_is in
    omega (arith, s.known, s.main, c.requires.known, c.requires.main, c.self.invariant, c.self.inside.rows.ok.0)

pub returns : goal.returns
returns c =
    let s = stands c.args.self.now c.self.inside.known.list c.self.inside.main c.self.inside.known.vars c.self.inside.rows.items c.self.invariant c.self.view_is in
    kind_of_number c.args.self.now c.self.inside.known.list c.self.inside.main c.self.inside.rows.items c.args.number c.index.result.now s c.self.invariant c.requires.main c.requires.known c.index.ensures
