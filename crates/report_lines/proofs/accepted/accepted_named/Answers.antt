use Rattle.std.proofs.Common.{◌⊎◌, ◌≡◌, sym, subst}
use Rattle.merge_model.specs.declared.operator.AggregatorName.{AggregatorName}
use Rattle.merge_model.specs.declared.operator.AggregatorName.TheVariants.{Sum, Max, Leximax}
use Rattle.merge_model.specs.declared.operator.DistanceName.{DistanceName}
use Rattle.merge_model.specs.declared.operator.DistanceName.TheVariants.{Drastic, Hamming}
use Rattle.merge_model.specs.Answers.{dist_named, rank_named, IsRight, IsNamed}
use Rattle.report_lines.specs.Accepted.{Parts, AreAccepted}
use Rattle.report_lines.specs.Operators.{operator_named}
use Rattle.report_lines.proofs.accepted.accepted_named.Goals as goal

abbrev IsTruthful : DistanceName → AggregatorName → Type 0
IsTruthful distance aggregator = (parts : Parts) → AreAccepted (operator_named distance aggregator parts.problem.atoms) parts → IsRight (dist_named distance parts.problem.atoms) (rank_named aggregator) parts.problem parts.answer ⊎ IsNamed parts.problem parts.answer

by_names : (d e : DistanceName) (a b : AggregatorName) → d ≡ e → a ≡ b → IsTruthful e b → IsTruthful d a
by_names d e a b p q h = subst (λ (x : DistanceName). IsTruthful x a) (sym p) (subst (λ (y : AggregatorName). IsTruthful e y) (sym q) h)

pub returns-in-Drastic-Sum : goal.returns-in-Drastic-Sum
returns-in-Drastic-Sum c = by_names c.args.distance Drastic c.args.aggregator Sum c.in-Drastic-Sum.is-0 c.in-Drastic-Sum.is-1 c.accepted_law.ensures

pub returns-in-Drastic-Max : goal.returns-in-Drastic-Max
returns-in-Drastic-Max c = by_names c.args.distance Drastic c.args.aggregator Max c.in-Drastic-Max.is-0 c.in-Drastic-Max.is-1 c.accepted_law-in-Drastic-Max.ensures

pub returns-in-Drastic-Leximax : goal.returns-in-Drastic-Leximax
returns-in-Drastic-Leximax c = by_names c.args.distance Drastic c.args.aggregator Leximax c.in-Drastic-Leximax.is-0 c.in-Drastic-Leximax.is-1 c.accepted_law-in-Drastic-Leximax.ensures

pub returns-in-Hamming-Sum : goal.returns-in-Hamming-Sum
returns-in-Hamming-Sum c = by_names c.args.distance Hamming c.args.aggregator Sum c.in-Hamming-Sum.is-0 c.in-Hamming-Sum.is-1 c.accepted_law-in-Hamming-Sum.ensures

pub returns-in-Hamming-Max : goal.returns-in-Hamming-Max
returns-in-Hamming-Max c = by_names c.args.distance Hamming c.args.aggregator Max c.in-Hamming-Max.is-0 c.in-Hamming-Max.is-1 c.accepted_law-in-Hamming-Max.ensures

pub returns-in-Hamming-Leximax : goal.returns-in-Hamming-Leximax
returns-in-Hamming-Leximax c = by_names c.args.distance Hamming c.args.aggregator Leximax c.in-Hamming-Leximax.is-0 c.in-Hamming-Leximax.is-1 c.accepted_law-in-Hamming-Leximax.ensures
