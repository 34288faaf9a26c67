-- The full vectors of a problem can be compared.
use Rattle.std.proofs.Common.{◌≡◌, ℕ, ◌≤◌, Bool, List, [], ◌∷◌, length, map, replicate, sum_by, refl, sym, ◌∙◌, arith, All, length-append}
use Rattle.std.proofs.lemmas.List.{length-map, length-replicate}
use Rattle.std.proofs.lemmas.List.Elements.{All-nil, All-head, All-tail, All-map, All-append, All-replicate}
use Rattle.std.proofs.lemmas.List.Sums.{sum_by-cons}
use Rattle.formulas.specs.declared.formula.Formula.{Formula}
use Rattle.formulas.specs.Limits.{valuation_limit}
use Rattle.ranks.specs.Limits.{distance_limit}
use Rattle.merge_model.specs.declared.agent.Agent.{Agent}
use Rattle.merge_model.specs.declared.problem.Problem.{Problem}
use Rattle.merge_model.specs.Answers.{profile_of}
use Rattle.merge_model.specs.Merging.{models_of, least_of, away, vector_of, repeated, full_of}
use Rattle.merge_model.specs.Plain.{AreComparable}
use Rattle.merge_model.proofs.Among.{among_all, among_model}

least_within : (m : ℕ) (ks : List ℕ) → All (λ k. k ≤ m) ks → least_of ks ≤ m
least_within m [] h = omega arith
least_within m (k ∷ []) h = All-head (λ k. k ≤ m) k [] h
least_within m (k ∷ l ∷ ks) h = omega (arith, All-head (λ k. k ≤ m) k (l ∷ ks) h)

-- where every distance from the valuation is at most m, so is that to a base
pub away_within : (dist : List Bool → List Bool → ℕ) (m : ℕ) (v : List Bool) (f : Formula) → ((w : List Bool) → length v ≡ length w → dist v w ≤ m) → away dist v f ≤ m
away_within dist m v f h =
    least_within m (map (dist v) (models_of (length v) f))
    (All-map (λ k. k ≤ m) (dist v) (models_of (length v) f)
    (among_all (λ w. dist v w ≤ m) (models_of (length v) f) (λ w among. h w (sym (among_model (length v) f w among).size))))

pub repeated_small : (m : ℕ) (times us : List ℕ) → All (λ k. k ≤ m) us → All (λ k. k ≤ m) (repeated times us)
repeated_small m [] us h = All-nil (λ k. k ≤ m)
repeated_small m (t ∷ times) [] h = All-nil (λ k. k ≤ m)
repeated_small m (t ∷ times) (u ∷ us) h =
    All-append (λ k. k ≤ m) (replicate t u) (repeated times us)
    (All-replicate (λ k. k ≤ m) t u (All-head (λ k. k ≤ m) u us h))
    (repeated_small m times us (All-tail (λ k. k ≤ m) u us h))

pub repeated_length : (agents : List Agent) (us : List ℕ) → length us ≡ length agents → length (repeated (map (λ agent. agent.times) agents) us) ≡ sum_by (λ agent. agent.times) agents
repeated_length [] us same = refl
repeated_length (agent ∷ agents) [] same = absurd (omega arith)
repeated_length (agent ∷ agents) (u ∷ us) same =
    omega (
      arith,
      length-append (replicate agent.times u) (repeated (map (λ agent. agent.times) agents) us),
      length-replicate agent.times u,
      repeated_length agents us (omega arith),
      sum_by-cons (λ agent. agent.times) agent agents,
    )

pub some_times : (agents : List Agent) → 1 ≤ length agents → All (λ agent. 1 ≤ agent.times) agents → 1 ≤ sum_by (λ agent. agent.times) agents
some_times [] some counts = absurd (omega arith)
some_times (agent ∷ agents) some counts = omega (arith, sum_by-cons (λ agent. agent.times) agent agents, All-head (λ agent. 1 ≤ agent.times) agent agents counts)

-- distances between valuations over 1 to `valuation_limit` atoms are at most the greatest distance
abbrev pub IsBounded : (List Bool → List Bool → ℕ) → Type 0
IsBounded dist = (v w : List Bool) → length v ≡ length w → 1 ≤ length v → length v ≤ valuation_limit → dist v w ≤ distance_limit

pub full_length : (dist : List Bool → List Bool → ℕ) (problem : Problem) (v : List Bool) → length (full_of dist (profile_of problem) v) ≡ sum_by (λ agent. agent.times) problem.agents
full_length dist problem v =
    repeated_length problem.agents (vector_of dist (map (λ agent. agent.base) problem.agents) v)
    (length-map (map (λ agent. agent.base) problem.agents) (away dist v) ∙ length-map problem.agents (λ agent. agent.base))

pub full_small : (dist : List Bool → List Bool → ℕ) (problem : Problem) (v : List Bool) → IsBounded dist → 1 ≤ length v → length v ≤ valuation_limit → All (λ k. k ≤ distance_limit) (full_of dist (profile_of problem) v)
full_small dist problem v bounded some few =
    let bases = map (λ agent. agent.base) problem.agents in
    repeated_small distance_limit (map (λ agent. agent.times) problem.agents) (vector_of dist bases v)
    (All-map (λ k. k ≤ distance_limit) (away dist v) bases (λ i f within. away_within dist distance_limit v _ (λ w same. bounded v w same some few)))

-- the full vectors of the models of the constraint
pub comparable : (dist : List Bool → List Bool → ℕ) (problem : Problem) → IsBounded dist →
    AreComparable (map (full_of dist (profile_of problem)) (models_of (length problem.atoms) problem.constraint))
comparable dist problem bounded =
    let n = length problem.atoms in
    let candidates = models_of n problem.constraint in
    let full = full_of dist (profile_of problem) in
    let size = sum_by (λ agent. agent.times) problem.agents in
    record {
      size = size;
      some = some_times problem.agents problem.limits.some_agent problem.limits.each_counts;
      few = omega (arith, problem.limits.few_times);
      sized = All-map (λ u. length u ≡ size) full candidates (among_all (λ v. length (full v) ≡ size) candidates (λ v among. full_length dist problem v));
      small = All-map (All (λ k. k ≤ distance_limit)) full candidates
          (among_all (λ v. All (λ k. k ≤ distance_limit) (full v)) candidates
          (λ v among.
          let is : length v ≡ n = (among_model n problem.constraint v among).size in
          full_small dist problem v bounded (omega (arith, problem.limits.some_atom)) (omega (arith, problem.limits.few_atoms))));
    }
