use Rattle.std.proofs.Common.{◌≡◌, sym, subst, length}
use Rattle.merge_model.specs.declared.operator.AggregatorName.{AggregatorName}
use Rattle.merge_model.specs.declared.operator.AggregatorName.TheVariants.{Sum, Max, Leximax}
use Rattle.merge_model.specs.declared.operator.DistanceName.{DistanceName}
use Rattle.merge_model.specs.declared.operator.DistanceName.TheVariants.{Drastic, Hamming}
use Rattle.merge_model.specs.declared.problem.Problem.{Problem}
use Rattle.merge_model.specs.Answers.{dist_named, most_named, profile_of}
use Rattle.merge_encoding.specs.MainDues.{IsMain}
use Rattle.merge_encoding.specs.Named.{main_named, values_named}
use Rattle.report_text.proofs.answering.encoding.encoded.Goals as goal

abbrev IsMeant : Problem → DistanceName → AggregatorName → Type 0
IsMeant problem distance aggregator =
    IsMain (dist_named distance problem.atoms) (most_named distance problem.atoms (length problem.atoms)) (values_named aggregator) (profile_of problem) problem.asks (main_named distance aggregator (profile_of problem) problem.asks)

by_names : (problem : Problem) (d e : DistanceName) (a b : AggregatorName) → d ≡ e → a ≡ b → IsMeant problem e b → IsMeant problem d a
by_names problem d e a b p q h = subst (λ (x : DistanceName). IsMeant problem x a) (sym p) (subst (λ (y : AggregatorName). IsMeant problem e y) (sym q) h)

pub returns-in-Drastic-Sum-clause-means : goal.returns-in-Drastic-Sum-clause-means
unfolding main_named
returns-in-Drastic-Sum-clause-means c = by_names c.args.problem.now c.args.distance Drastic c.args.aggregator Sum c.in-Drastic-Sum.is-0 c.in-Drastic-Sum.is-1 c.encode.ensures.means

pub returns-in-Drastic-Max-clause-means : goal.returns-in-Drastic-Max-clause-means
unfolding main_named
returns-in-Drastic-Max-clause-means c = by_names c.args.problem.now c.args.distance Drastic c.args.aggregator Max c.in-Drastic-Max.is-0 c.in-Drastic-Max.is-1 c.encode-in-Drastic-Max.ensures.means

pub returns-in-Drastic-Leximax-clause-means : goal.returns-in-Drastic-Leximax-clause-means
unfolding main_named
returns-in-Drastic-Leximax-clause-means c = by_names c.args.problem.now c.args.distance Drastic c.args.aggregator Leximax c.in-Drastic-Leximax.is-0 c.in-Drastic-Leximax.is-1 c.encode-in-Drastic-Leximax.ensures.means

pub returns-in-Hamming-Sum-clause-means : goal.returns-in-Hamming-Sum-clause-means
unfolding main_named
returns-in-Hamming-Sum-clause-means c = by_names c.args.problem.now c.args.distance Hamming c.args.aggregator Sum c.in-Hamming-Sum.is-0 c.in-Hamming-Sum.is-1 c.encode-in-Hamming-Sum.ensures.means

pub returns-in-Hamming-Max-clause-means : goal.returns-in-Hamming-Max-clause-means
unfolding main_named
returns-in-Hamming-Max-clause-means c = by_names c.args.problem.now c.args.distance Hamming c.args.aggregator Max c.in-Hamming-Max.is-0 c.in-Hamming-Max.is-1 c.encode-in-Hamming-Max.ensures.means

pub returns-in-Hamming-Leximax-clause-means : goal.returns-in-Hamming-Leximax-clause-means
unfolding main_named
returns-in-Hamming-Leximax-clause-means c = by_names c.args.problem.now c.args.distance Hamming c.args.aggregator Leximax c.in-Hamming-Leximax.is-0 c.in-Hamming-Leximax.is-1 c.encode-in-Hamming-Leximax.ensures.means
