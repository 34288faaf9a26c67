use Rattle.std.proofs.Common.{◌*◌, ◌^◌, ap, ◌∙◌}
use Rattle.std.proofs.Math.Nat.{mod-add-mod}
use Rattle.bench_problem.specs.Draws.{next_state}
use Rattle.bench_problem.proofs.draws.Draws.draw.Goals as goal

pub returns-clause-state : goal.returns-clause-state
unfolding next_state
returns-clause-state c =
    mod-add-mod (c.self.inside.state * 6364136223846793005) (2 ^ 64) 1442695040888963407 ∙ ap next_state c.self.view_is
