use Rattle.std.proofs.Common.{◌++◌, List, ℕ, ◌∙◌, ap}
use Rattle.merge_encoding.specs.Assumptions.{better_lits}
use Rattle.merge_encoding.proofs.Signs.{roots_then}
use Rattle.merge_encoding.proofs.assuming.better_lits.Goals as goal

pub returns : goal.returns
returns c =
    roots_then c.args.frame.now c.in_ok-lits.lits.items c.push_better.new.lits.items (better_lits c.args.level c.args.frame.now.levels c.args.values.now) c.as_slice.result.now c.as_slice.ensures c.in_ok-lits.ensures
    (c.in_ok-push_better.ensures ∙ ap (λ (ls : List (List ℕ)). c.in_ok-lits.lits.items ++ better_lits c.args.level ls c.args.values.now) c.as_slice-2.ensures)
