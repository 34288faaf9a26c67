use Rattle.merge_cli.specs.Commands.{IsNoCommand}
use Rattle.merge_cli.proofs.ListWords.{if_none, no_list, list_place}
use Rattle.merge_cli.proofs.commands.list_of.Goals as goal

pub returns-in_err-place-clause-none : goal.returns-in_err-place-clause-none
returns-in_err-place-clause-none c =
    if_none c.from_residual-in_err-place.result (IsNoCommand c.args.words.now)
    (no_list c.args.words.now c.requires (λ distance aggregator count place l. c.in_err-place.ensures.none place (list_place c.args.words.now distance aggregator count place l)))
