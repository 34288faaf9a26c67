use Rattle.std.proofs.Common.{arith}
use Rattle.merge_cli.proofs.Places.{last_word}
use Rattle.merge_cli.proofs.place.place_in.Goals as goal

pub returns-in-5-clause-some : goal.returns-in-5-clause-some
returns-in-5-clause-some c =
    rw (last_word c.args.words.now c.get.result.now (omega (arith, c.len.ensures, c.in-5.is)) c.get.ensures) c.place_of.ensures.some

pub returns-in-5-clause-none : goal.returns-in-5-clause-none
returns-in-5-clause-none c =
    rw (last_word c.args.words.now c.get.result.now (omega (arith, c.len.ensures, c.in-5.is)) c.get.ensures) c.place_of.ensures.none
