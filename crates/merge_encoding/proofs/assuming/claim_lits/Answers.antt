use Rattle.std.proofs.Common.{ap}
use Rattle.merge_encoding.specs.Claims.{said}
use Rattle.merge_encoding.proofs.Signs.{breaker_done, with_done}
use Rattle.merge_encoding.proofs.assuming.claim_lits.Goals as goal

pub returns-in_ok-push-in-NoBreaker : goal.returns-in_ok-push-in-NoBreaker
returns-in_ok-push-in-NoBreaker c =
    breaker_done c.args.frame.now (said c.args.claim.now) c.in-NoBreaker.ask c.in-NoBreaker.values c.as_slice-in-NoBreaker.result.now c.as_slice-in-NoBreaker-2.result.now c.in_ok-lits-in-NoBreaker.lits.items c.push.new.self.items c.negated.result _
    (ap said c.in-NoBreaker.is) c.requires c.as_slice-in-NoBreaker.ensures c.as_slice-in-NoBreaker-2.ensures c.in_ok-lits-in-NoBreaker.ensures c.negated.ensures c.in_ok-push-in-NoBreaker.ensures.items

pub returns-in_ok-push_signed-in-NoModelWith : goal.returns-in_ok-push_signed-in-NoModelWith
returns-in_ok-push_signed-in-NoModelWith c =
    with_done c.args.frame.now (said c.args.claim.now) c.in-NoModelWith.values c.as_slice-in-NoModelWith.result.now c.in-NoModelWith.prefix c.as_slice-in-NoModelWith-3.result.now c.as_slice-in-NoModelWith-2.result.now c.in_ok-lits-in-NoModelWith.lits.items c.push_signed.new.lits.items
    (ap said c.in-NoModelWith.is) c.as_slice-in-NoModelWith.ensures c.as_slice-in-NoModelWith-2.ensures c.as_slice-in-NoModelWith-3.ensures c.in_ok-lits-in-NoModelWith.ensures c.in_ok-push_signed-in-NoModelWith.ensures
