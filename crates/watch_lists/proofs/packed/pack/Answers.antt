use Rattle.std.proofs.Common.{◌≡◌, ℕ, ◌+◌, ◌-◌, ◌*◌, ◌/◌, ◌%◌, arith, ap, sym, ◌∙◌}
use Rattle.std.specs.Prelude.{nat_eq}
use Rattle.clause_store.proofs.Lits.{lit_ext}
use Rattle.watch_lists.specs.Watches.{lit_of}
use Rattle.watch_lists.proofs.packed.pack.Goals as goal

pub returns-then-lit : goal.returns-then-lit
returns-then-lit c =
    let v : 2 * (c.args.lit.var - 1) / 2 + 1 ≡ c.args.lit.var = omega (arith, c.requires.named) in
    let m : 2 * (c.args.lit.var - 1) % 2 ≡ 0 = omega arith in
    lit_ext (lit_of (2 * (c.args.lit.var - 1))) c.args.lit v
    (ap (λ (k : ℕ). nat_eq k 0) m ∙ sym c.if-lit.true)

pub returns-else-lit : goal.returns-else-lit
returns-else-lit c =
    let v : (2 * (c.args.lit.var - 1) + 1) / 2 + 1 ≡ c.args.lit.var =
    omega (arith, c.requires.named) in
    let m : (2 * (c.args.lit.var - 1) + 1) % 2 ≡ 1 = omega arith in
    lit_ext (lit_of (2 * (c.args.lit.var - 1) + 1)) c.args.lit v
    (ap (λ (k : ℕ). nat_eq k 0) m ∙ sym c.if-lit.false)
