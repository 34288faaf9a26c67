use Rattle.std.proofs.Common.{◌≡◌, ◌+◌, ◌*◌, map, ap, ◌∙◌}
use Rattle.std.specs.List.{range_with_len}
use Rattle.bench_problem.specs.Bench.{agent_of, ask_at, draws_of}
use Rattle.bench_problem.specs.Draws.{state_after}
use Rattle.bench_problem.specs.Planted.{planted}
use Rattle.bench_problem.proofs.BenchLaws.{keeps_as}
use Rattle.bench_problem.proofs.DrawLaws.{state_after-add}
use Rattle.bench_problem.proofs.bench.bench_problem.Goals as goal

pub new-requires : goal.new-requires
new-requires c =
    keeps_as c.new-draws.result c.planted.new.draws c.agents.new.draws _ _ _ _ c.in_ok-atoms.ensures c.in_ok-constraint.ensures.formula
    (c.from_vec.ensures ∙ c.in_ok-agents.ensures.agents) (c.from_vec-2.ensures ∙ c.in_ok-asks.ensures)

pub returns : goal.returns
returns c =
    let n = c.args.number in
    let start : c.new-draws.result ≡ n = c.new-draws.ensures in
    let second : c.planted.new.draws ≡ state_after n (draws_of 16) = c.in_ok-constraint.ensures.state ∙ ap (λ t. state_after t (draws_of 16)) start in
    let third : c.agents.new.draws ≡ state_after n (draws_of 16 + draws_of 10 * 8) =
    c.in_ok-agents.ensures.state ∙ ap (λ t. state_after t (draws_of 10 * 8)) second ∙ state_after-add n (draws_of 16) (draws_of 10 * 8) in
    record {
      atoms = c.new.ensures.atoms ∙ c.in_ok-atoms.ensures;
      constraint = c.new.ensures.constraint ∙ c.in_ok-constraint.ensures.formula ∙ ap (λ t. planted t 15) start;
      agents = c.new.ensures.agents ∙ c.from_vec.ensures ∙ c.in_ok-agents.ensures.agents ∙ ap (λ t. map (agent_of t) (range_with_len 0 8)) second;
      asks = c.new.ensures.asks ∙ c.from_vec-2.ensures ∙ c.in_ok-asks.ensures ∙ ap (λ t. map (ask_at t) (range_with_len 0 4)) third;
    }
