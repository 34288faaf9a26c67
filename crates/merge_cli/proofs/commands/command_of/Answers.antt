use Rattle.std.proofs.Common.{rules, arith, ◌≡◌, refl, ap, ◌∙◌}
use Rattle.std.specs.Prelude.{codes, Some}
use Rattle.merge_cli.specs.Commands.{unstated, stated}
use Rattle.merge_cli.proofs.WordLists.{one_word, two_words, three_words, four_words}
use Rattle.merge_cli.proofs.commands.command_of.Goals as goal

pub returns-in_ok-of_word-in-merge-2-clause-some : goal.returns-in_ok-of_word-in-merge-2-clause-some
returns-in_ok-of_word-in-merge-2-clause-some c =
    let first : c.get.result.now ≡ codes "merge" = search rules in
    unstated (three_words c.args.words.now _ _ _ (omega arith)
    (c.get.ensures ∙ ap Some first)
    (c.get-in-merge.ensures ∙ ap Some c.in_ok-of_word-in-merge.ensures.some)
    (c.get-in-merge-2.ensures ∙ ap Some c.in_ok-of_word-in-merge-2.ensures.some)) refl

pub returns-in_ok-conflicts_of-in-merge-2-clause-some : goal.returns-in_ok-conflicts_of-in-merge-2-clause-some
returns-in_ok-conflicts_of-in-merge-2-clause-some c =
    let first : c.get.result.now ≡ codes "merge" = search rules in
    stated (four_words c.args.words.now _ _ _ _ (omega arith)
    (c.get.ensures ∙ ap Some first)
    (c.get-in-merge-2-2.ensures ∙ ap Some c.in_ok-of_word-in-merge-2-2.ensures.some)
    (c.get-in-merge-2-3.ensures ∙ ap Some c.in_ok-of_word-in-merge-2-3.ensures.some)
    (c.get-in-merge-2-4.ensures ∙ ap Some c.in_ok-conflicts_of-in-merge-2.ensures.some.0)) c.in_ok-conflicts_of-in-merge-2.ensures.some.1

pub returns-in-check-clause-some : goal.returns-in-check-clause-some
returns-in-check-clause-some c =
    let first : c.get.result.now ≡ codes "check" = search rules in
    one_word c.args.words.now _ (omega arith) (c.get.ensures ∙ ap Some first)

pub returns-in_ok-bench_of-in-bench-clause-some : goal.returns-in_ok-bench_of-in-bench-clause-some
returns-in_ok-bench_of-in-bench-clause-some c =
    let first : c.get.result.now ≡ codes "bench" = search rules in
    let found = c.in_ok-bench_of-in-bench.ensures.some in
    (two_words c.args.words.now _ _ (omega arith) (c.get.ensures ∙ ap Some first) (c.get-in-bench.ensures ∙ ap Some found.0), found.1)
