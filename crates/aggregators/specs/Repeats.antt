-- Repeated counters, and their repeated values.
use Rattle.std.proofs.Common.{◌≡◌, ℕ, zero, suc, ◌≤◌, Bool, List, [], ◌∷◌, ◌++◌, length, map, replicate, refl, ap, ◌∙◌, arith, All, sum, length-append}
use Rattle.std.proofs.lemmas.List.{length-replicate, map-append}
use Rattle.std.proofs.lemmas.List.Sums.{sum_by-cons}
use Rattle.std.proofs.lemmas.List.Elements.{All-head, All-tail, All-append, All-replicate, All-nil}
use Rattle.totalizer.specs.Counter.{count_of, IsUnary, AreVarsWithin, AllUnary, AllVarsWithin}
use Rattle.merge_model.specs.Merging.{repeated}
use Rattle.aggregators.specs.Levels.{counts_of, HaveLevels}

unary_replicate : (b : ℕ → Bool) (t : ℕ) (c : List ℕ) (cs : List (List ℕ)) → IsUnary b c → AllUnary b cs → AllUnary b (replicate t c ++ cs)
unary_replicate b zero c cs h k = k
unary_replicate b (suc t) c cs h k = (h, unary_replicate b t c cs h k)

pub unary_repeated : (b : ℕ → Bool) (times : List ℕ) (cs : List (List ℕ)) → AllUnary b cs → AllUnary b (repeated times cs)
unary_repeated b [] cs h = tt
unary_repeated b (t ∷ times) [] h = tt
unary_repeated b (t ∷ times) (c ∷ cs) h = unary_replicate b t c (repeated times cs) h.0 (unary_repeated b times cs h.1)

within_replicate : (v t : ℕ) (c : List ℕ) (cs : List (List ℕ)) → AreVarsWithin v c → AllVarsWithin v cs → AllVarsWithin v (replicate t c ++ cs)
within_replicate v zero c cs h k = k
within_replicate v (suc t) c cs h k = (h, within_replicate v t c cs h k)

pub within_repeated : (v : ℕ) (times : List ℕ) (cs : List (List ℕ)) → AllVarsWithin v cs → AllVarsWithin v (repeated times cs)
within_repeated v [] cs h = tt
within_repeated v (t ∷ times) [] h = tt
within_repeated v (t ∷ times) (c ∷ cs) h = within_replicate v t c (repeated times cs) h.0 (within_repeated v times cs h.1)

pub sized_repeated : (n : ℕ) (times : List ℕ) (cs : List (List ℕ)) → All (λ c. length c ≡ n) cs → All (λ c. length c ≡ n) (repeated times cs)
sized_repeated n [] cs h = All-nil (λ c. length c ≡ n)
sized_repeated n (t ∷ times) [] h = All-nil (λ c. length c ≡ n)
sized_repeated n (t ∷ times) (c ∷ cs) h =
    All-append (λ x. length x ≡ n) (replicate t c) (repeated times cs)
    (All-replicate (λ x. length x ≡ n) t c (All-head (λ x. length x ≡ n) c cs h))
    (sized_repeated n times cs (All-tail (λ x. length x ≡ n) c cs h))

map_replicate : (b : ℕ → Bool) (t : ℕ) (c : List ℕ) → map (count_of b) (replicate t c) ≡ replicate t (count_of b c)
map_replicate b zero c = refl
map_replicate b (suc t) c = ap (λ ns. count_of b c ∷ ns) (map_replicate b t c)

-- the values of the repeated counters are the repeated values
pub counts_repeated : (b : ℕ → Bool) (times : List ℕ) (cs : List (List ℕ)) → counts_of b (repeated times cs) ≡ repeated times (counts_of b cs)
counts_repeated b [] cs = refl
counts_repeated b (t ∷ times) [] = refl
counts_repeated b (t ∷ times) (c ∷ cs) =
    map-append (count_of b) (replicate t c) (repeated times cs)
    ∙ ap (λ ns. ns ++ counts_of b (repeated times cs)) (map_replicate b t c)
    ∙ ap (λ ns. replicate t (count_of b c) ++ ns) (counts_repeated b times cs)

pub length_repeated : {X : Type 0} (times : List ℕ) (us : List X) → length us ≡ length times → length (repeated times us) ≡ sum times
length_repeated [] us e = refl
length_repeated (t ∷ times) [] e = absurd (omega arith)
length_repeated (t ∷ times) (u ∷ us) e =
    omega (arith, length-append (replicate t u) (repeated times us), length-replicate t u, length_repeated times us (omega arith), sum_by-cons (λ x. x) t times)

pub some_repeated : (v : ℕ) (aways : List (List ℕ)) (times : List ℕ) → HaveLevels v aways times → 1 ≤ length (repeated times aways)
some_repeated v aways [] h = let e : length aways ≡ 0 = h.lengths in absurd (omega (arith, h.some))
some_repeated v aways (t ∷ times) h =
    omega (arith, length_repeated (t ∷ times) aways h.lengths, sum_by-cons (λ x. x) t times, All-head (λ x. 1 ≤ x) t times h.positive)

-- where one part comes out, there is one counter that counts once
pub repeated_alone : (times : List ℕ) (cs : List (List ℕ)) → length cs ≡ length times → All (λ t. 1 ≤ t) times → length (repeated times cs) ≡ 1 → repeated times cs ≡ cs
repeated_alone [] [] e h one = refl
repeated_alone [] (c ∷ cs) e h one = absurd (omega arith)
repeated_alone (t ∷ times) [] e h one = absurd (omega arith)
repeated_alone (zero ∷ times) (c ∷ cs) e h one = absurd (omega (arith, All-head (λ x. 1 ≤ x) zero times h))
repeated_alone (suc zero ∷ []) (c ∷ []) e h one = refl
repeated_alone (suc zero ∷ []) (c ∷ d ∷ cs) e h one = absurd (omega arith)
repeated_alone (suc zero ∷ t ∷ times) (c ∷ cs) e h one =
    let more = All-tail (λ x. 1 ≤ x) (suc zero) (t ∷ times) h in
    absurd (omega (arith, length_repeated (t ∷ times) cs (omega arith), sum_by-cons (λ x. x) t times, All-head (λ x. 1 ≤ x) t times more))
repeated_alone (suc (suc t) ∷ times) (c ∷ cs) e h one =
    absurd (omega (arith, length-append (replicate (suc (suc t)) c) (repeated times cs), length-replicate (suc (suc t)) c))
