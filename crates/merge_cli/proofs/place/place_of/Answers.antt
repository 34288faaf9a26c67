use Rattle.std.proofs.Common.{rules, ◌≡◌, ℕ, List, All, length, ◌≤◌, ◌<◌, arith, subst, sym, true}
use Rattle.formulas.specs.Limits.{valuation_limit}
use Rattle.merge_cli.specs.Places.{IsTruthDigit}
use Rattle.merge_cli.proofs.Places.{says_long, says_above, place_digits}
use Rattle.merge_cli.proofs.place.place_of.Goals.{then-is_empty-via-then-is_empty, then-is_empty-via-else-is_empty+then-not-are_truth_digits}
use Rattle.merge_cli.proofs.place.place_of.Goals as goal

pub returns-then-is_empty-clause-none : goal.returns-then-is_empty-clause-none
returns-then-is_empty-clause-none c = λ place says.
    let value = c.as_bytes-digits.ensures.value in
    let digits = place_digits c.args.word.now place says in
    elim c.then-is_empty.branch [
      | then-is_empty-via-then-is_empty w ↦ absurd (let none : length c.args.word.now ≡ 0 = search rules in omega (arith, none, digits.0))
      | then-is_empty-via-else-is_empty+then-not-are_truth_digits w ↦
          (let all = subst (All IsTruthDigit) (sym value) digits.1 in
          let is : w.are_truth_digits.result ≡ true = w.are_truth_digits.ensures.1 all in
          absurd (search rules))
    ]

pub returns-then-digits-gt-VALUATION_LIMIT-clause-some : goal.returns-then-digits-gt-VALUATION_LIMIT-clause-some
returns-then-digits-gt-VALUATION_LIMIT-clause-some c =
    let value = c.as_bytes-digits.ensures.value in
    let is : c.are_truth_digits.result ≡ true = search rules in
    let all = subst (All IsTruthDigit) value (c.are_truth_digits.ensures.0 is) in
    says_long c.args.word.now all (subst (λ (ds : List ℕ). valuation_limit < length ds) value c.if-digits-gt-VALUATION_LIMIT.true)

pub returns-clause-some : goal.returns-clause-some
returns-clause-some c =
    let value = c.as_bytes-digits.ensures.value in
    let is : c.are_truth_digits.result ≡ true = search rules in
    let all = subst (All IsTruthDigit) value (c.are_truth_digits.ensures.0 is) in
    let some : 1 ≤ length c.args.word.now = search rules in
    let few : length c.args.word.now ≤ valuation_limit = search rules in
    rw c.valuation_of.ensures (rw value (says_above c.args.word.now all some few))
