-- Bytes without a line feed.
use Rattle.std.proofs.Common.{◌≡◌, ℕ, ◌+◌, ◌<◌, false, List, length, get_or, take, arith}
use Rattle.std.specs.Prelude.{eqb}
use Rattle.std.proofs.lemmas.Bool.Decides.{nat_tests}
use Rattle.std.proofs.lemmas.List.Elements.{All-more}
use Rattle.report_text.specs.Accepting.{HasNoFeed}

no_feed : (b : ℕ) → (b ≡ 10 → ⊥) → eqb b 10 ≡ false
no_feed b h = grind (arith, nat_tests)

pub one_more : (text : List ℕ) (i d : ℕ) → i < length text → HasNoFeed (take i text) → (get_or text i d ≡ 10 → ⊥) → HasNoFeed (take (i + 1) text)
one_more text i d h none is = All-more (λ b. eqb b 10 ≡ false) text i d h none (no_feed (get_or text i d) is)
