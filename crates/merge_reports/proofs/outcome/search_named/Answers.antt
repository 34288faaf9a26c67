use Rattle.std.proofs.Common.{◌≡◌, ℕ, sym, subst, Result}
use Rattle.std.specs.Prelude.{IfOk}
use Rattle.edge.specs.declared.refused.NoMemory.{NoMemory}
use Rattle.merge_model.specs.declared.operator.AggregatorName.{AggregatorName}
use Rattle.merge_model.specs.declared.operator.AggregatorName.TheVariants.{Sum, Max, Leximax}
use Rattle.merge_model.specs.declared.operator.DistanceName.{DistanceName}
use Rattle.merge_model.specs.declared.operator.DistanceName.TheVariants.{Drastic, Hamming}
use Rattle.report_lines.specs.Operators.{operator_named}
use Rattle.merge_reports.specs.declared.outcome.Outcome.{Outcome}
use Rattle.merge_reports.specs.Outcomes.{IsOutcome}
use Rattle.merge_reports.proofs.outcome.search_named.Goals as goal

abbrev IsSearched : ℕ → DistanceName → AggregatorName → Result Outcome NoMemory → Type 0
IsSearched conflicts distance aggregator r = IfOk r (λ (o : Outcome). IsOutcome (operator_named distance aggregator o.problem.atoms) conflicts o.problem o.derivations o.found.answer o.found.proofs.items)

by_names : (conflicts : ℕ) (d e : DistanceName) (a b : AggregatorName) (r : Result Outcome NoMemory) → d ≡ e → a ≡ b → IsSearched conflicts e b r → IsSearched conflicts d a r
by_names conflicts d e a b r p q h = subst (λ (x : DistanceName). IsSearched conflicts x a r) (sym p) (subst (λ (y : AggregatorName). IsSearched conflicts e y r) (sym q) h)

pub returns-in-Drastic-Sum-clause-outcome : goal.returns-in-Drastic-Sum-clause-outcome
returns-in-Drastic-Sum-clause-outcome c = by_names c.args.conflicts c.args.distance Drastic c.args.aggregator Sum c.search_by.result c.in-Drastic-Sum.is-0 c.in-Drastic-Sum.is-1 c.search_by.ensures.outcome

pub returns-in-Drastic-Max-clause-outcome : goal.returns-in-Drastic-Max-clause-outcome
returns-in-Drastic-Max-clause-outcome c = by_names c.args.conflicts c.args.distance Drastic c.args.aggregator Max c.search_by-in-Drastic-Max.result c.in-Drastic-Max.is-0 c.in-Drastic-Max.is-1 c.search_by-in-Drastic-Max.ensures.outcome

pub returns-in-Drastic-Leximax-clause-outcome : goal.returns-in-Drastic-Leximax-clause-outcome
returns-in-Drastic-Leximax-clause-outcome c = by_names c.args.conflicts c.args.distance Drastic c.args.aggregator Leximax c.search_by-in-Drastic-Leximax.result c.in-Drastic-Leximax.is-0 c.in-Drastic-Leximax.is-1 c.search_by-in-Drastic-Leximax.ensures.outcome

pub returns-in-Hamming-Sum-clause-outcome : goal.returns-in-Hamming-Sum-clause-outcome
returns-in-Hamming-Sum-clause-outcome c = by_names c.args.conflicts c.args.distance Hamming c.args.aggregator Sum c.search_by-in-Hamming-Sum.result c.in-Hamming-Sum.is-0 c.in-Hamming-Sum.is-1 c.search_by-in-Hamming-Sum.ensures.outcome

pub returns-in-Hamming-Max-clause-outcome : goal.returns-in-Hamming-Max-clause-outcome
returns-in-Hamming-Max-clause-outcome c = by_names c.args.conflicts c.args.distance Hamming c.args.aggregator Max c.search_by-in-Hamming-Max.result c.in-Hamming-Max.is-0 c.in-Hamming-Max.is-1 c.search_by-in-Hamming-Max.ensures.outcome

pub returns-in-Hamming-Leximax-clause-outcome : goal.returns-in-Hamming-Leximax-clause-outcome
returns-in-Hamming-Leximax-clause-outcome c = by_names c.args.conflicts c.args.distance Hamming c.args.aggregator Leximax c.search_by-in-Hamming-Leximax.result c.in-Hamming-Leximax.is-0 c.in-Hamming-Leximax.is-1 c.search_by-in-Hamming-Leximax.ensures.outcome
