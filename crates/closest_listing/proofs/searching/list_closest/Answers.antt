use Rattle.std.proofs.Common.{◌≡◌, ℕ, Bool, List, sym, subst, Result}
use Rattle.std.specs.Prelude.{IfOk, Option}
use Rattle.edge.specs.declared.refused.NoMemory.{NoMemory}
use Rattle.merge_model.specs.declared.operator.AggregatorName.{AggregatorName}
use Rattle.merge_model.specs.declared.operator.AggregatorName.TheVariants.{Sum, Max, Leximax}
use Rattle.merge_model.specs.declared.operator.DistanceName.{DistanceName}
use Rattle.merge_model.specs.declared.operator.DistanceName.TheVariants.{Drastic, Hamming}
use Rattle.merge_model.specs.declared.problem.Problem.{Problem}
use Rattle.distance_search.specs.Laws.{Laws}
use Rattle.closest_listing.specs.declared.searching.ListOutcome.{ListOutcome}
use Rattle.closest_listing.specs.Lists.{IsListOutcome, setting_named}
use Rattle.closest_listing.proofs.searching.list_closest.Goals as goal

module _ (problem : Problem) where
  laws_by_names : (d e : DistanceName) (a b : AggregatorName) → d ≡ e → a ≡ b → Laws (setting_named e b problem) → Laws (setting_named d a problem)
  laws_by_names d e a b p q h = subst (λ (x : DistanceName). Laws (setting_named x a problem)) (sym p) (subst (λ (y : AggregatorName). Laws (setting_named e y problem)) (sym q) h)

  module _ (budget : ℕ) (after : Option (List Bool)) (count : ℕ) (r : Result ListOutcome NoMemory) where
    abbrev IsSearched : DistanceName → AggregatorName → Type 0
    IsSearched d a = IfOk r (λ (o : ListOutcome). IsListOutcome (setting_named d a problem) budget after count o.derivations o.end)

    by_names : (d e : DistanceName) (a b : AggregatorName) → d ≡ e → a ≡ b → IsSearched e b → IsSearched d a
    by_names d e a b p q h = subst (λ (x : DistanceName). IsSearched x a) (sym p) (subst (λ (y : AggregatorName). IsSearched e y) (sym q) h)

pub returns-in-Drastic-Sum-clause-laws : goal.returns-in-Drastic-Sum-clause-laws
returns-in-Drastic-Sum-clause-laws c = laws_by_names c.args.problem c.args.distance Drastic c.args.aggregator Sum c.in-Drastic-Sum.is-0 c.in-Drastic-Sum.is-1 c.list_by.ensures.laws

pub returns-in-Drastic-Sum-clause-outcome : goal.returns-in-Drastic-Sum-clause-outcome
returns-in-Drastic-Sum-clause-outcome c =
    by_names c.args.problem c.args.budget c.args.after c.args.count c.list_by.result c.args.distance Drastic c.args.aggregator Sum c.in-Drastic-Sum.is-0 c.in-Drastic-Sum.is-1 c.list_by.ensures.outcome

pub returns-in-Drastic-Max-clause-laws : goal.returns-in-Drastic-Max-clause-laws
returns-in-Drastic-Max-clause-laws c = laws_by_names c.args.problem c.args.distance Drastic c.args.aggregator Max c.in-Drastic-Max.is-0 c.in-Drastic-Max.is-1 c.list_by-in-Drastic-Max.ensures.laws

pub returns-in-Drastic-Max-clause-outcome : goal.returns-in-Drastic-Max-clause-outcome
returns-in-Drastic-Max-clause-outcome c =
    by_names c.args.problem c.args.budget c.args.after c.args.count c.list_by-in-Drastic-Max.result c.args.distance Drastic c.args.aggregator Max c.in-Drastic-Max.is-0 c.in-Drastic-Max.is-1 c.list_by-in-Drastic-Max.ensures.outcome

pub returns-in-Drastic-Leximax-clause-laws : goal.returns-in-Drastic-Leximax-clause-laws
returns-in-Drastic-Leximax-clause-laws c = laws_by_names c.args.problem c.args.distance Drastic c.args.aggregator Leximax c.in-Drastic-Leximax.is-0 c.in-Drastic-Leximax.is-1 c.list_by-in-Drastic-Leximax.ensures.laws

pub returns-in-Drastic-Leximax-clause-outcome : goal.returns-in-Drastic-Leximax-clause-outcome
returns-in-Drastic-Leximax-clause-outcome c =
    by_names c.args.problem c.args.budget c.args.after c.args.count c.list_by-in-Drastic-Leximax.result c.args.distance Drastic c.args.aggregator Leximax c.in-Drastic-Leximax.is-0 c.in-Drastic-Leximax.is-1 c.list_by-in-Drastic-Leximax.ensures.outcome

pub returns-in-Hamming-Sum-clause-laws : goal.returns-in-Hamming-Sum-clause-laws
returns-in-Hamming-Sum-clause-laws c = laws_by_names c.args.problem c.args.distance Hamming c.args.aggregator Sum c.in-Hamming-Sum.is-0 c.in-Hamming-Sum.is-1 c.list_by-in-Hamming-Sum.ensures.laws

pub returns-in-Hamming-Sum-clause-outcome : goal.returns-in-Hamming-Sum-clause-outcome
returns-in-Hamming-Sum-clause-outcome c =
    by_names c.args.problem c.args.budget c.args.after c.args.count c.list_by-in-Hamming-Sum.result c.args.distance Hamming c.args.aggregator Sum c.in-Hamming-Sum.is-0 c.in-Hamming-Sum.is-1 c.list_by-in-Hamming-Sum.ensures.outcome

pub returns-in-Hamming-Max-clause-laws : goal.returns-in-Hamming-Max-clause-laws
returns-in-Hamming-Max-clause-laws c = laws_by_names c.args.problem c.args.distance Hamming c.args.aggregator Max c.in-Hamming-Max.is-0 c.in-Hamming-Max.is-1 c.list_by-in-Hamming-Max.ensures.laws

pub returns-in-Hamming-Max-clause-outcome : goal.returns-in-Hamming-Max-clause-outcome
returns-in-Hamming-Max-clause-outcome c =
    by_names c.args.problem c.args.budget c.args.after c.args.count c.list_by-in-Hamming-Max.result c.args.distance Hamming c.args.aggregator Max c.in-Hamming-Max.is-0 c.in-Hamming-Max.is-1 c.list_by-in-Hamming-Max.ensures.outcome

pub returns-in-Hamming-Leximax-clause-laws : goal.returns-in-Hamming-Leximax-clause-laws
returns-in-Hamming-Leximax-clause-laws c = laws_by_names c.args.problem c.args.distance Hamming c.args.aggregator Leximax c.in-Hamming-Leximax.is-0 c.in-Hamming-Leximax.is-1 c.list_by-in-Hamming-Leximax.ensures.laws

pub returns-in-Hamming-Leximax-clause-outcome : goal.returns-in-Hamming-Leximax-clause-outcome
returns-in-Hamming-Leximax-clause-outcome c =
    by_names c.args.problem c.args.budget c.args.after c.args.count c.list_by-in-Hamming-Leximax.result c.args.distance Hamming c.args.aggregator Leximax c.in-Hamming-Leximax.is-0 c.in-Hamming-Leximax.is-1 c.list_by-in-Hamming-Leximax.ensures.outcome
