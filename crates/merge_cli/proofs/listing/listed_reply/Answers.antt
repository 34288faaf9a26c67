use Rattle.merge_cli.proofs.Listed.{place_sized, list_answers, report_answers, lacking_of, spent_of}
use Rattle.merge_cli.proofs.listing.listed_reply.Goals as goal

pub list_closest-requires-clause-after : goal.list_closest-requires-clause-after
list_closest-requires-clause-after c = rw c.above.ensures (place_sized c.args.problem c.args.place c.requires)

pub returns-in-Listed : goal.returns-in-Listed
returns-in-Listed c =
    let is = c.in_ok-outcome.ensures in
    let found = rw c.above.ensures at is.outcome in
    list_answers (record { distance = c.args.distance; aggregator = c.args.aggregator; count = c.args.count; place = c.args.place }) c.args.problem
    c.in_ok-outcome.outcome.derivations c.in_ok-outcome.outcome.end c.in-Listed.list c.list_text_reply.result c.requires found.end c.in-Listed.is c.list_text_reply.ensures.status c.list_text_reply.ensures.text

pub lacking_reply-requires-clause-laws : goal.lacking_reply-requires-clause-laws
lacking_reply-requires-clause-laws c = let is = c.in_ok-outcome.ensures in rw is.problem is.laws

pub lacking_reply-requires-clause-over : goal.lacking_reply-requires-clause-over
lacking_reply-requires-clause-over c = let is = c.in_ok-outcome.ensures in let found = is.outcome in rw is.problem found.over

pub lacking_reply-requires-clause-follows : goal.lacking_reply-requires-clause-follows
lacking_reply-requires-clause-follows c = let is = c.in_ok-outcome.ensures in let found = is.outcome in found.follows

pub lacking_reply-requires-clause-named : goal.lacking_reply-requires-clause-named
lacking_reply-requires-clause-named c =
    let is = c.in_ok-outcome.ensures in
    let found = is.outcome in
    rw is.problem (lacking_of c.args.distance c.args.aggregator c.args.problem c.in_ok-outcome.outcome.derivations _ c.args.count c.in_ok-outcome.outcome.end found.end c.in-Lacking.consistency c.in-Lacking.is).0

pub lacking_reply-requires-clause-lacks : goal.lacking_reply-requires-clause-lacks
lacking_reply-requires-clause-lacks c =
    let is = c.in_ok-outcome.ensures in
    let found = is.outcome in
    (lacking_of c.args.distance c.args.aggregator c.args.problem c.in_ok-outcome.outcome.derivations _ c.args.count c.in_ok-outcome.outcome.end found.end c.in-Lacking.consistency c.in-Lacking.is).1

pub returns-in-Lacking : goal.returns-in-Lacking
returns-in-Lacking c =
    let is = c.in_ok-outcome.ensures in
    report_answers (record { distance = c.args.distance; aggregator = c.args.aggregator; count = c.args.count; place = c.args.place }) c.args.problem
    c.in_ok-outcome.outcome.problem c.lacking_reply.result is.problem c.requires c.lacking_reply.ensures.status c.lacking_reply.ensures.answers

pub spent_reply-requires-clause-laws : goal.spent_reply-requires-clause-laws
spent_reply-requires-clause-laws c = let is = c.in_ok-outcome.ensures in rw is.problem is.laws

pub spent_reply-requires-clause-over : goal.spent_reply-requires-clause-over
spent_reply-requires-clause-over c = let is = c.in_ok-outcome.ensures in let found = is.outcome in rw is.problem found.over

pub spent_reply-requires-clause-follows : goal.spent_reply-requires-clause-follows
spent_reply-requires-clause-follows c = let is = c.in_ok-outcome.ensures in let found = is.outcome in found.follows

pub spent_reply-requires-clause-spent : goal.spent_reply-requires-clause-spent
spent_reply-requires-clause-spent c =
    let is = c.in_ok-outcome.ensures in
    let found = is.outcome in
    spent_of c.args.distance c.args.aggregator c.args.problem c.in_ok-outcome.outcome.derivations _ c.args.count c.in_ok-outcome.outcome.end found.end c.in-Spent.is

pub returns-in-Spent : goal.returns-in-Spent
returns-in-Spent c =
    let is = c.in_ok-outcome.ensures in
    report_answers (record { distance = c.args.distance; aggregator = c.args.aggregator; count = c.args.count; place = c.args.place }) c.args.problem
    c.in_ok-outcome.outcome.problem c.spent_reply.result is.problem c.requires c.spent_reply.ensures.status c.spent_reply.ensures.answers
