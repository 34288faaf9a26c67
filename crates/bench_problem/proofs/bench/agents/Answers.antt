use Rattle.std.proofs.Common.{◌≡◌, ◌+◌, ◌*◌, ◌++◌, ◌∷◌, [], map, ap, sym, ◌∙◌, arith}
use Rattle.std.specs.Prelude.{vec_items}
use Rattle.std.specs.List.{range_with_len}
use Rattle.std.proofs.lemmas.List.FromFn.{map-range_with_len_more}
use Rattle.merge_model.specs.declared.agent.Agent.{Agent}
use Rattle.bench_problem.specs.Draws.{state_after}
use Rattle.bench_problem.specs.Planted.{planted}
use Rattle.bench_problem.specs.Bench.{agent_of, agent_name, draws_of}
use Rattle.bench_problem.proofs.DrawLaws.{state_after-add, no_draws}
use Rattle.bench_problem.proofs.bench.agents.Goals as goal

pub loop-number-init : goal.loop-number-init
loop-number-init c = (c.new-agents.ensures.items, sym (no_draws c.args.draws.now))

pub loop-number-preserved : goal.loop-number-preserved
loop-number-preserved c =
    let s = c.args.draws.now in
    let k = c.loop-number.number in
    let base : c.in_ok-base.base ≡ planted (state_after s (draws_of 10 * k)) 9 = c.in_ok-base.ensures.formula ∙ ap (λ t. planted t 9) c.loop-number.invariant.1 in
    let name : c.from_vec.result ≡ agent_name k = c.from_vec.ensures ∙ ap vec_items c.into_bytes-name.ensures.value ∙ c.in_ok-format.ensures.ok in
    let place : 0 + k ≡ k = omega arith in
    let agent : ◌≡◌ {A = Agent} (record { name = c.from_vec.result; times = 1; base = c.in_ok-base.base }) (agent_of s k) = cc (name, base) in
    let places : draws_of 10 * k + draws_of 10 ≡ draws_of 10 * (k + 1) = omega arith in (
      c.in_ok-push.ensures.items ∙ ap (λ agents. agents ++ record { name = c.from_vec.result; times = 1; base = c.in_ok-base.base } ∷ []) c.loop-number.invariant.0
          ∙ ap (λ (a : Agent). map (agent_of s) (range_with_len 0 k) ++ a ∷ []) agent ∙ sym (map-range_with_len_more (agent_of s) 0 k k place),
      c.in_ok-base.ensures.state ∙ ap (λ t. state_after t (draws_of 10)) c.loop-number.invariant.1 ∙ state_after-add s (draws_of 10 * k) (draws_of 10) ∙ ap (state_after s) places,
    )
