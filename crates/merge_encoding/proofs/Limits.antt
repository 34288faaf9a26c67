-- A problem keeps what its main clauses ask.
use Rattle.std.proofs.Common.{◌≤◌, length, sym, ◌∙◌, arith}
use Rattle.std.proofs.lemmas.List.{length-map}
use Rattle.std.proofs.lemmas.List.Elements.{All-map}
use Rattle.std.proofs.lemmas.List.Sums.{sum-map}
use Rattle.formulas.specs.Formulas.{width_of}
use Rattle.merge_model.specs.declared.agent.Agent.{Agent}
use Rattle.merge_model.specs.declared.problem.Problem.{Problem}
use Rattle.merge_model.specs.Answers.{profile_of}
use Rattle.merge_encoding.specs.MainDues.{IsLimited}

pub is_limited : (problem : Problem) → IsLimited (profile_of problem) problem.asks
is_limited problem =
    let k = problem.limits in
    let bases = length-map problem.agents (λ (a : Agent). a.base) in
    let times = length-map problem.agents (λ (a : Agent). a.times) in
    let total = sum-map (λ (a : Agent). a.times) problem.agents in
    record {
      some_atom = k.some_atom;
      few_atoms = omega (arith, k.few_atoms);
      some_base = omega (arith, bases, k.some_agent);
      lengths = bases ∙ sym times;
      each_counts = All-map (λ t. 1 ≤ t) (λ (a : Agent). a.times) problem.agents k.each_counts;
      few_times = omega (arith, total, k.few_times);
      constraint_wide = k.constraint_within.width;
      bases_wide = All-map (λ f. width_of f ≤ length problem.atoms) (λ (a : Agent). a.base) problem.agents (λ i d lt. let w = k.bases_within i d lt in w.width);
      asks_wide = λ i d lt. let w = k.asks_within i d lt in w.width;
    }
