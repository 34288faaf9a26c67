-- What is kept at each line that is taken in.
use Rattle.std.proofs.Common.{◌≡◌, ℕ, ◌+◌, ◌≤◌, List, [], ◌∷◌, ◌++◌, length, map, sum_by, All, length-append, ap, ◌∙◌, arith}
use Rattle.std.specs.Str.{bytes_eq}
use Rattle.std.proofs.lemmas.List.{map-append}
use Rattle.std.proofs.lemmas.List.Elements.{All-append, All-cons, All-nil}
use Rattle.std.proofs.lemmas.List.Sums.{sum_by-append, sum_by-cons}
use Rattle.formulas.specs.Formulas.{nodes_of}
use Rattle.formulas.specs.Names.{are_names}
use Rattle.formulas.proofs.NameViews.{names_added, list_any-map}
use Rattle.merge_model.specs.Limits.{IsWithin}
use Rattle.merge_model.specs.declared.agent.Agent.{Agent}
use Rattle.problem_reading.specs.Drafts.{Draft}
use Rattle.problem_reading.specs.Fitting.{FitsBelief}
use Rattle.problem_reading.specs.Kept.{IsKept}

pub one_more : {X : Type 0} (P : X → Type 0) (xs : List X) (x : X) → All P xs → P x → All P (xs ++ x ∷ [])
one_more P xs x all here = All-append P xs (x ∷ []) all (All-cons P x [] here (All-nil P))

pub sum_more : {X : Type 0} (f : X → ℕ) (xs : List X) (x : X) → sum_by f (xs ++ x ∷ []) ≡ sum_by f xs + f x
sum_more f xs x = sum_by-append f xs (x ∷ []) ∙ omega (arith, sum_by-cons f x [])

pub size_more : {X : Type 0} (xs : List X) (x : X) → length (xs ++ x ∷ []) ≡ length xs + 1
size_more xs x = length-append xs (x ∷ []) ∙ omega arith

pub kept_belief : (d : Draft) (agent : Agent) (own others repeats : ℕ) → FitsBelief d agent → IsKept d.atoms d.constraint d.agents d.asks own others repeats →
    IsKept d.atoms d.constraint (d.agents ++ agent ∷ []) d.asks own (others + nodes_of agent.base) (repeats + agent.times)
kept_belief d agent own others repeats fits kept =
    let sizes = sum_more (λ a. nodes_of a.base) d.agents agent in
    let times = sum_more (λ a. a.times) d.agents agent in
    record {
      own_nodes = kept.own_nodes;
      few_asks = kept.few_asks;
      constraint_within = kept.constraint_within;
      asks_within = kept.asks_within;
      other_nodes = omega (arith, sizes, kept.other_nodes);
      times = omega (arith, times, kept.times);
      few_nodes = omega (arith, fits.nodes, kept.own_nodes, kept.other_nodes);
      few_times = omega (arith, fits.times, kept.times);
      few_agents = omega (arith, size_more d.agents agent, fits.room);
      each_counts = one_more (λ a. 1 ≤ a.times) d.agents agent kept.each_counts fits.counts;
      bases_within = one_more (λ a. IsWithin (length d.atoms) a.base) d.agents agent kept.bases_within fits.within;
      agent_names = ap are_names (map-append (λ a. a.name) d.agents (agent ∷ []))
          ∙ names_added (map (λ a. a.name) d.agents) agent.name kept.agent_names fits.legal (list_any-map (bytes_eq agent.name) (λ a. a.name) d.agents ∙ fits.absent);
    }
