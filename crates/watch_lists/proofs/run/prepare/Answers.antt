use Rattle.std.proofs.Common.{ℕ, sym, subst, arith}
use Rattle.watch_lists.specs.Watches.{IsWatching}
use Rattle.watch_lists.proofs.Rests.{watching_none}
use Rattle.watch_lists.proofs.run.prepare.Goals as goal

pub returns-then-looked-eq0-clause-watching : goal.returns-then-looked-eq0-clause-watching
returns-then-looked-eq0-clause-watching c = λ seen es w.
    let l = c.arrange.new.self in
    subst (λ (k : ℕ). IsWatching l.heads l.next l.watched c.args.known.now.list c.args.numbers.now
    k seen es) (sym c.if-looked-eq0.true)
    (watching_none l.heads l.next l.watched c.args.known.now.list c.args.numbers.now seen es
    (omega (arith, c.arrange.ensures.sized.next, c.requires.few)) c.arrange.ensures.none)
