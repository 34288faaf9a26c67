use Rattle.std.proofs.Common.{◌++◌, List, ℕ, sym, ◌∙◌, ap, subst}
use Rattle.aggregators.specs.Levels.{FitLevels}
use Rattle.merge_encoding.specs.Assumptions.{each_at_most}
use Rattle.merge_encoding.proofs.Signs.{fit_length, roots_then}
use Rattle.merge_encoding.proofs.assuming.limited_lits.Goals as goal

pub push_limits-requires : goal.push_limits-requires
push_limits-requires c = fit_length c.args.values.now c.as_slice-2.result.now (subst (λ (ls : List (List ℕ)). FitLevels c.args.values.now ls) (sym c.as_slice-2.ensures) c.requires)

pub returns : goal.returns
returns c =
    roots_then c.args.frame.now c.in_ok-lits.lits.items c.push_limits.new.lits.items (each_at_most c.args.frame.now.levels c.args.values.now) c.as_slice.result.now c.as_slice.ensures c.in_ok-lits.ensures
    (c.in_ok-push_limits.ensures ∙ ap (λ (ls : List (List ℕ)). c.in_ok-lits.lits.items ++ each_at_most ls c.args.values.now) c.as_slice-2.ensures)
