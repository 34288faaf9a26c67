-- Full vectors may be ranked.
use Rattle.std.proofs.Common.{◌≡◌, ℕ, ◌≤◌, List, length, map, sum_by, sym, ap, subst, ◌∙◌, arith, All}
use Rattle.std.proofs.lemmas.List.Elements.{All-weaker}
use Rattle.formulas.specs.Names.{AtomList}
use Rattle.ranks.specs.Limits.{distance_limit, entry_limit}
use Rattle.merge_model.specs.declared.agent.Agent.{Agent}
use Rattle.merge_model.specs.declared.operator.DistanceName.{DistanceName}
use Rattle.merge_model.specs.declared.operator.DistanceName.TheVariants.{Drastic, Hamming}
use Rattle.merge_model.specs.declared.problem.Problem.{Problem}
use Rattle.merge_model.specs.Answers.{most_named}
use Rattle.merge_model.specs.Merging.{repeated}
use Rattle.merge_model.proofs.Fulls.{repeated_length, repeated_small, some_times}

top_few : (d : DistanceName) (atoms : AtomList) → length atoms ≤ 32 → most_named d atoms (length atoms) ≤ distance_limit
top_few Drastic atoms h = omega arith
top_few Hamming atoms h = omega arith

module _ (problem : Problem) (vector : List ℕ) (size : length vector ≡ length problem.agents) (full : List ℕ) (is : full ≡ repeated (map (λ (agent : Agent). agent.times) problem.agents) vector) where
  long : length full ≡ sum_by (λ (agent : Agent). agent.times) problem.agents
  long = ap length is ∙ repeated_length problem.agents vector size

  pub full_some : 1 ≤ length full
  full_some = omega (arith, long, some_times problem.agents problem.limits.some_agent problem.limits.each_counts)

  pub full_few : length full ≤ entry_limit
  full_few = omega (arith, long, problem.limits.few_times)

  pub full_within : (m : ℕ) → All (λ k. k ≤ m) vector → All (λ k. k ≤ m) full
  full_within m h = subst (All (λ k. k ≤ m)) (sym is) (repeated_small m (map (λ (agent : Agent). agent.times) problem.agents) vector h)

  pub full_small : (d : DistanceName) → All (λ k. k ≤ most_named d problem.atoms (length problem.atoms)) vector → All (λ k. k ≤ distance_limit) full
  full_small d h =
      let few = top_few d problem.atoms problem.limits.few_atoms in
      All-weaker (λ k. k ≤ most_named d problem.atoms (length problem.atoms)) (λ k. k ≤ distance_limit) (λ k le. omega (arith, few, le)) full (full_within _ h)
