-- A word names at most one distance, and at most one aggregator: no two begin with the same byte.
use Rattle.std.proofs.Common.{◌≡◌, ℕ, List, slice_index, refl, ap, arith}
use Rattle.merge_model.specs.declared.operator.DistanceName.{DistanceName}
use Rattle.merge_model.specs.declared.operator.DistanceName.TheVariants.{Drastic, Hamming}
use Rattle.merge_model.specs.declared.operator.AggregatorName.{AggregatorName}
use Rattle.merge_model.specs.declared.operator.AggregatorName.TheVariants.{Sum, Max, Leximax}
use Rattle.merge_model.specs.OperatorWords.{distance_word, aggregator_word}

first_byte : (u w : List ℕ) → u ≡ w → slice_index u 0 ≡ slice_index w 0
first_byte u w same = ap (λ (x : List ℕ). slice_index x 0) same

pub one_distance : (d e : DistanceName) → distance_word d ≡ distance_word e → d ≡ e
one_distance Drastic Drastic same = refl
one_distance Drastic Hamming same = absurd (let first : 100 ≡ 104 = first_byte _ _ same in omega (arith, first))
one_distance Hamming Drastic same = absurd (let first : 104 ≡ 100 = first_byte _ _ same in omega (arith, first))
one_distance Hamming Hamming same = refl

pub one_aggregator : (a b : AggregatorName) → aggregator_word a ≡ aggregator_word b → a ≡ b
one_aggregator Sum Sum same = refl
one_aggregator Sum Max same = absurd (let first : 115 ≡ 109 = first_byte _ _ same in omega (arith, first))
one_aggregator Sum Leximax same = absurd (let first : 115 ≡ 108 = first_byte _ _ same in omega (arith, first))
one_aggregator Max Sum same = absurd (let first : 109 ≡ 115 = first_byte _ _ same in omega (arith, first))
one_aggregator Max Max same = refl
one_aggregator Max Leximax same = absurd (let first : 109 ≡ 108 = first_byte _ _ same in omega (arith, first))
one_aggregator Leximax Sum same = absurd (let first : 108 ≡ 115 = first_byte _ _ same in omega (arith, first))
one_aggregator Leximax Max same = absurd (let first : 108 ≡ 109 = first_byte _ _ same in omega (arith, first))
one_aggregator Leximax Leximax same = refl
