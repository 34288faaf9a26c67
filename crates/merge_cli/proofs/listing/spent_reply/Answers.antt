use Rattle.std.proofs.Common.{refl}
use Rattle.merge_model.specs.declared.answer.Answer.TheVariants.{GaveUp}
use Rattle.merge_cli.proofs.Listed.{spent_outcome, spent_not_merged}
use Rattle.merge_cli.proofs.listing.spent_reply.Goals as goal

pub search_reply-requires : goal.search_reply-requires
search_reply-requires c =
    spent_outcome c.args.distance c.args.aggregator c.args.problem c.args.derivations c.requires.laws c.requires.over c.requires.follows c.is_small.ensures
    GaveUp c.new.result.items refl c.new.ensures.items c.requires.spent

pub returns-clause-status : goal.returns-clause-status
returns-clause-status c = spent_not_merged c.search_reply.result GaveUp refl c.search_reply.ensures.status
