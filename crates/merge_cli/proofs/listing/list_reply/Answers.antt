use Rattle.std.proofs.Common.{◌≡◌, true, false}
use Rattle.merge_cli.proofs.Listed.{bad_after_answers}
use Rattle.merge_cli.proofs.listing.list_reply.Goals as goal

pub returns-else-is_of : goal.returns-else-is_of
returns-else-is_of c =
    bad_after_answers (record { distance = c.args.distance; aggregator = c.args.aggregator; count = c.args.count; place = c.args.place }) c.args.problem c.says.result
    (λ fits. let is : c.is_of.result ≡ true = c.is_of.ensures.1 fits in let other : c.is_of.result ≡ false = c.if-is_of.false in cc) c.says.ensures
