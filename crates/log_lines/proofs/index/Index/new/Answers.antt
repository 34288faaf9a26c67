use Rattle.std.proofs.Common.{◌≡◌, ◌+◌, ◌*◌, ℕ, List, length, ap, ◌∙◌, arith, replicate}
use Rattle.std.proofs.lemmas.List.{length-replicate}
use Rattle.log_lines.proofs.Indexed.{index_none}
use Rattle.log_lines.proofs.index.Index.new.Goals as goal

pub returns : goal.returns
returns c =
    let known = c.args.known.now in
    let count = c.len-count.result in
    let heads = c.in_ok-heads.ensures.items_if_clones_equal (λ y h. h) in
    let next = c.in_ok-next.ensures.items_if_clones_equal (λ y h. h) in
    let size : length c.in_ok-next.next.items ≡ length known.list = ap (λ (xs : List ℕ). length xs) next ∙ length-replicate count 4294967295 ∙ c.len-count.ensures.len in
    (_, index_none c.in_ok-heads.heads.items c.in_ok-next.next.items known (heads ∙ ap (λ (v : ℕ). replicate (2 * v + 2) 4294967295) c.vars.ensures.vars) size (omega (arith, size)))
