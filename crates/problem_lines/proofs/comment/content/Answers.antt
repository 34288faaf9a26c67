use Rattle.std.proofs.Common.{◌≤◌, ℕ, ◌==◌, not, length, sym, subst}
use Rattle.std.proofs.lemmas.List.Sums.{prefix_len-le-length}
use Rattle.problem_lines.proofs.comment.content.Goals as goal

pub split_at-requires : goal.split_at-requires
split_at-requires c =
    let P : ℕ → Type 0 = λ n. n ≤ length c.args.line.now in
    subst P (sym c.content_size.ensures) (prefix_len-le-length (λ byte. not (byte == 35)) c.args.line.now)
