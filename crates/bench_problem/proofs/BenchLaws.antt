-- The parts of a bench problem keep the limits on problems, and each of its formulas has a model.
use Rattle.std.proofs.Common.{◌≡◌, ℕ, zero, suc, ◌*◌, ◌<◌, ◌≤◌, ◌⊎◌, inl, inr, nat_lt, Bool, true, false, List, map, length, ap, sym, ◌∙◌, refl, arith, subst, sum_by, ⊎_elim}
use Rattle.std.specs.Prelude.{All, ◌&&◌, not}
use Rattle.std.specs.List.{range_with_len, list_any}
use Rattle.std.specs.Fmt.{digits}
use Rattle.std.specs.Str.{bytes_eq}
use Rattle.std.proofs.lemmas.Bool.Decides.{nat_tests}
use Rattle.std.proofs.lemmas.List.Elements.{All-map}
use Rattle.std.proofs.lemmas.List.FromFn.{length-map-range_with_len}
use Rattle.std.proofs.lemmas.List.Sums.{sum_by-le}
use Rattle.std.proofs.lemmas.Bool.{not-true}
use Rattle.formulas.specs.Formulas.{nodes_of}
use Rattle.formulas.specs.Names.{AtomList, are_names, is_name}
use Rattle.formulas.specs.declared.formula.Formula.{Formula}
use Rattle.merge_model.specs.declared.agent.Agent.{Agent}
use Rattle.merge_model.specs.declared.problem.Problem.{Problem}
use Rattle.merge_model.specs.Answers.{profile_of}
use Rattle.merge_model.specs.Limits.{IsWithin, KeepsLimits}
use Rattle.merge_model.specs.Merging.{HasModel, LacksModel}
use Rattle.bench_problem.specs.Draws.{state_after}
use Rattle.bench_problem.specs.Planted.{atom_count, planted}
use Rattle.bench_problem.specs.Bench.{atom_name, agent_name, agent_of, ask_at, draws_of}
use Rattle.bench_problem.proofs.PlantedLaws.{IsSmall, planted_small, ask_small, planted_model}

both_left : (a b : Bool) → (a && b) ≡ true → a ≡ true
both_left true b h = refl
both_left false b h = h

both_right : (a b : Bool) → (a && b) ≡ true → b ≡ true
both_right true b h = h
both_right false b h = absurd (cc)

-- what holds of each number holds of each element of a list that is made of numbers
all_made : {X : Type 0} (P : X → Type 0) (make : ℕ → X) (count : ℕ) → ((k : ℕ) → P (make k)) → All P (map make (range_with_len 0 count))
all_made P make count each = All-map P make (range_with_len 0 count) (λ k d below. each _)

-- the atoms' names, and those of the agents
pub atom_names : are_names (map atom_name (range_with_len 0 atom_count)) ≡ true
unfolding digits
atom_names = refl

agent_names : are_names (map agent_name (range_with_len 0 8)) ≡ true
unfolding digits
agent_names = refl

base_within : (state k : ℕ) → IsWithin atom_count (agent_of state k).base
base_within state k =
    let small : IsSmall 89 13 (agent_of state k).base = planted_small (state_after state (draws_of 10 * k)) 9 in
    record { width = small.width; depth = omega (arith, small.depth) }

ask_within : (state k : ℕ) → IsWithin atom_count (ask_at state k)
ask_within state k =
    let small : IsSmall 5 3 (ask_at state k) = ask_small (state_after state (4 * k)) in
    record { width = small.width; depth = omega (arith, small.depth) }

-- the parts of a bench problem keep the limits, whatever state each is drawn from
pub keeps : (s t u : ℕ) → KeepsLimits (map atom_name (range_with_len 0 atom_count)) (planted s 15) (map (agent_of t) (range_with_len 0 8)) (map (ask_at u) (range_with_len 0 4))
keeps s t u =
    let atoms = length-map-range_with_len atom_name 0 atom_count in
    let agents = length-map-range_with_len (agent_of t) 0 8 in
    let asks = length-map-range_with_len (ask_at u) 0 4 in
    let constraint = planted_small s 15 in
    let bases = sum_by-le (λ agent. nodes_of agent.base) 89 (map (agent_of t) (range_with_len 0 8))
    (all_made (λ agent. nodes_of agent.base ≤ 89) (agent_of t) 8 (λ k. (planted_small (state_after t (draws_of 10 * k)) 9).nodes)) in
    let queries = sum_by-le nodes_of 5 (map (ask_at u) (range_with_len 0 4))
    (all_made (λ ask. nodes_of ask ≤ 5) (ask_at u) 4 (λ k. (ask_small (state_after u (4 * k))).nodes)) in
    let times : sum_by (λ agent. agent.times) (map (agent_of t) (range_with_len 0 8)) ≡ 8 = refl in
    record {
      some_atom = omega (arith, atoms);
      few_atoms = omega (arith, atoms);
      some_agent = omega (arith, agents);
      few_agents = omega (arith, agents);
      few_asks = omega (arith, asks);
      each_counts = all_made (λ agent. 1 ≤ agent.times) (agent_of t) 8 (λ k. omega arith);
      few_times = omega (arith, times);
      few_nodes = omega (arith, constraint.nodes, bases, queries, agents, asks);
      constraint_within = record { width = omega (arith, constraint.width, atoms); depth = omega (arith, constraint.depth) };
      bases_within = subst (λ n. All (λ agent. IsWithin n agent.base) (map (agent_of t) (range_with_len 0 8))) (sym atoms)
          (all_made (λ agent. IsWithin atom_count agent.base) (agent_of t) 8 (base_within t));
      asks_within = subst (λ n. All (IsWithin n) (map (ask_at u) (range_with_len 0 4))) (sym atoms)
          (all_made (IsWithin atom_count) (ask_at u) 4 (ask_within u));
      atom_names = atom_names;
      agent_names = agent_names;
    }

pub keeps_as : (s t u : ℕ) (atoms : AtomList) (constraint : Formula) (agents : List Agent) (asks : List Formula)
    → atoms ≡ map atom_name (range_with_len 0 atom_count) → constraint ≡ planted s 15 → agents ≡ map (agent_of t) (range_with_len 0 8) → asks ≡ map (ask_at u) (range_with_len 0 4)
    → KeepsLimits atoms constraint agents asks
keeps_as s t u atoms constraint agents asks e f g h =
    subst (λ a. KeepsLimits a constraint agents asks) (sym e)
    (subst (λ f. KeepsLimits (map atom_name (range_with_len 0 atom_count)) f agents asks) (sym f)
    (subst (λ g. KeepsLimits (map atom_name (range_with_len 0 atom_count)) (planted s 15) g asks) (sym g)
    (subst (λ h. KeepsLimits (map atom_name (range_with_len 0 atom_count)) (planted s 15) (map (agent_of t) (range_with_len 0 8)) h) (sym h) (keeps s t u))))

-- each base and the constraint have a model
pub has_models : (s t : ℕ) (problem : Problem) → problem.atoms ≡ map atom_name (range_with_len 0 atom_count) → problem.constraint ≡ planted s 15 → problem.agents ≡ map (agent_of t) (range_with_len 0 8)
    → LacksModel (profile_of problem) → ⊥
has_models s t problem atoms constraint agents lacks =
    let n : length problem.atoms ≡ atom_count = ap length atoms ∙ length-map-range_with_len atom_name 0 atom_count in
    let each : All (HasModel (length problem.atoms)) (map (λ agent. agent.base) problem.agents) =
    subst (λ m. All (HasModel m) (map (λ agent. agent.base) problem.agents)) (sym n)
    (subst (λ each. All (HasModel atom_count) (map (λ agent. agent.base) each)) (sym agents)
    (All-map (HasModel atom_count) (λ agent. agent.base) (map (agent_of t) (range_with_len 0 8))
    (all_made (λ agent. HasModel atom_count agent.base) (agent_of t) 8 (λ k. planted_model (state_after t (draws_of 10 * k)) 9)))) in
    ⊎_elim
    (λ none. none (subst (λ m. HasModel m problem.constraint) (sym n) (subst (HasModel atom_count) (sym constraint) (planted_model s 15))))
    (λ some. some.4 (subst (HasModel (length problem.atoms)) some.3 (each some.0 some.1 some.2)))
    lacks

-- the atom with this number has a legal name, which none before it has
unfoldable fits : ℕ → Bool
fits k = is_name (atom_name k) && not (list_any (bytes_eq (atom_name k)) (map atom_name (range_with_len 0 k)))

unfoldable all_fit : ℕ → Bool
all_fit zero = true
all_fit (suc k) = all_fit k && fits k

below_or_at : (k n : ℕ) → k < suc n → (k < n) ⊎ (k ≡ n)
below_or_at k n below =
    elim (nat_lt k n) as (λ t. nat_lt k n ≡ t → (k < n) ⊎ (k ≡ n)) [
      | true ↦ λ e. inl (let low : k < n = grind (arith, nat_tests) in low)
      | false ↦ λ e. inr (let last : k ≡ n = grind (arith, nat_tests) in last)
    ] refl

fit_at : (n k : ℕ) → all_fit n ≡ true → k < n → fits k ≡ true
unfolding all_fit
fit_at zero k h below = absurd (omega arith)
fit_at (suc n) k h below =
    ⊎_elim
    (λ low. fit_at n k (both_left (all_fit n) (fits n) h) low)
    (λ high. ap fits high ∙ both_right (all_fit n) (fits n) h)
    (below_or_at k n below)

fit_all : all_fit atom_count ≡ true
unfolding all_fit fits digits
fit_all = refl

pub atom_legal : (k : ℕ) → k < atom_count → is_name (atom_name k) ≡ true
unfolding fits
atom_legal k below = both_left _ _ (fit_at atom_count k fit_all below)

pub atom_new : (k : ℕ) → k < atom_count → list_any (bytes_eq (atom_name k)) (map atom_name (range_with_len 0 k)) ≡ false
unfolding fits
atom_new k below = not-true _ (both_right (is_name (atom_name k)) _ (fit_at atom_count k fit_all below))
