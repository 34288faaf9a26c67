use Rattle.merge_cli.proofs.Listed.{lacking_outcome, names_not_merged}
use Rattle.merge_cli.proofs.listing.lacking_reply.Goals as goal

pub search_reply-requires : goal.search_reply-requires
search_reply-requires c =
    let named = c.in_ok-found.ensures in
    lacking_outcome c.args.distance c.args.aggregator c.args.problem c.args.derivations c.requires.laws c.requires.over c.requires.follows c.is_small.ensures
    c.args.consistency.now c.in_ok-found.found.answer c.in_ok-found.found.proofs.items c.requires.named c.requires.lacks named.answer named.proofs

pub returns-clause-status : goal.returns-clause-status
returns-clause-status c = names_not_merged c.search_reply.result c.args.consistency.now c.in_ok-found.found.answer c.in_ok-found.ensures.answer c.search_reply.ensures.status
