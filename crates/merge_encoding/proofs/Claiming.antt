-- A claim is true exactly where no assignment satisfies the main clauses with its assumptions.
use Rattle.std.proofs.Common.{◌≡◌, ℕ, zero, suc, ◌+◌, ◌-◌, ◌<◌, ◌≤◌, inl, inr, Bool, true, false, not, List, [], ◌∷◌, ◌++◌, length, map, take, refl, sym, ap, ◌∙◌, subst, arith, All}
use Rattle.std.specs.Prelude.{if◌then◌else◌, nat_lt, slice_index, slice_index_or}
use Rattle.std.specs.List.{AllZip}
use Rattle.std.proofs.lemmas.Bool.Decides.{nat_tests, leb_tells}
use Rattle.std.proofs.lemmas.List.{length-map}
use Rattle.std.proofs.lemmas.List.Elements.{All-nil, All-cons, All-head, All-tail}
use Rattle.std.proofs.lemmas.Bool.{not-true}
use Rattle.clause_store.specs.declared.lit.Lit.{Lit}
use Rattle.clause_store.specs.Lits.{positive_lit, negative_lit}
use Rattle.clause_store.specs.Truth.{lit_true}
use Rattle.clause_store.specs.Truth.{AreTrue}
use Rattle.formulas.specs.declared.formula.Formula.{Formula}
use Rattle.formulas.specs.declared.formula.Formula as formula
use Rattle.formulas.specs.Formulas.{holds}
use Rattle.totalizer.specs.Counter.{count_of, IsUnary, AllUnary}
use Rattle.totalizer.proofs.Law.{count_le}
use Rattle.merge_model.specs.Merging.{Profile, IsModel}
use Rattle.agent_copies.specs.Counter.{truth_of}
use Rattle.agent_copies.specs.Copy.{CopyDue}
use Rattle.clause_store.specs.Fresh.{fresh_lits}
use Rattle.clause_store.proofs.Fresh.{length-fresh_lits}
use Rattle.aggregators.specs.Levels.{counts_of, FitLevels}
use Rattle.merge_encoding.specs.MainDues.{aways_of, owns_of, MainDue, IsMain}
use Rattle.merge_encoding.specs.Claims.{Assertion, NoModelOfConstraint, NoModelOfBase, NoNearer, NoBetter, NoBreaker, NoModelWith, IsCandidate, IsBetterAt, AreUpTo, base_at, ask_at, own_at, values_at, IsTrueThat, Breaks}
use Rattle.merge_encoding.specs.Assumptions.{signed, at_most_lits, each_at_most, better_lits, assumed, IsProper, AllTrue, NoneSatisfies}
use Rattle.merge_encoding.proofs.Same.{no_copy, copy_at, all_roots, assumed_of, IsProperOf, assumed_same, proper_same}

-- literals one after another
true_front : (b : ℕ → Bool) (xs ys : List Lit) → AllTrue b (xs ++ ys) → AllTrue b xs × AllTrue b ys
true_front b [] ys h = (tt, h)
true_front b (x ∷ xs) ys h = let s = true_front b xs ys h.1 in ((h.0, s.0), s.1)

true_join : (b : ℕ → Bool) (xs ys : List Lit) → AllTrue b xs → AllTrue b ys → AllTrue b (xs ++ ys)
true_join b [] ys h k = k
true_join b (x ∷ xs) ys h k = (h.0, true_join b xs ys h.1 k)

sign_says : (x t : Bool) → (if x then t else not t) ≡ true → t ≡ x
sign_says true t h = h
sign_says false true h = cc
sign_says false false h = refl

sign_holds : (x t : Bool) → t ≡ x → (if x then t else not t) ≡ true
sign_holds true t h = h
sign_holds false true h = cc
sign_holds false false h = refl

-- the literals of a prefix
signed_says : (b : ℕ → Bool) (v n : ℕ) (w : List Bool) → length w ≤ n → AllTrue b (signed (fresh_lits v n) w) → take (length w) (truth_of b (fresh_lits v n)) ≡ w
signed_says b v n [] le h = refl
signed_says b v zero (x ∷ w) le h = absurd (omega arith)
signed_says b v (suc n) (x ∷ w) le h =
    let e = sign_says x (b (v + 1)) h.0 in
    let ih = signed_says b (v + 1) n w (omega arith) h.1 in
    cc (e, ih)

signed_holds : (b : ℕ → Bool) (v n : ℕ) (w : List Bool) → length w ≤ n → take (length w) (truth_of b (fresh_lits v n)) ≡ w → AllTrue b (signed (fresh_lits v n) w)
signed_holds b v zero [] le e = tt
signed_holds b v (suc n) [] le e = tt
signed_holds b v zero (x ∷ w) le e = absurd (omega arith)
signed_holds b v (suc n) (x ∷ w) le e =
    let h : b (v + 1) ≡ x = cc in
    let t : take (length w) (truth_of b (fresh_lits (v + 1) n)) ≡ w = cc in
    (sign_holds x (b (v + 1)) h, signed_holds b (v + 1) n w (omega arith) t)

take_whole : (xs : List Bool) (n : ℕ) → length xs ≡ n → take n xs ≡ xs
take_whole [] zero e = refl
take_whole [] (suc n) e = absurd (omega arith)
take_whole (x ∷ xs) zero e = absurd (omega arith)
take_whole (x ∷ xs) (suc n) e = ap (λ ys. x ∷ ys) (take_whole xs n (omega arith))

truths_size : (b : ℕ → Bool) (ls : List Lit) → length (truth_of b ls) ≡ length ls
truths_size b ls = length-map ls (lit_true b)

-- what a counter says
below_false : (k m : ℕ) → nat_lt k m ≡ false → m ≤ k
below_false k m h = grind (arith, nat_tests)

false_below : (k m : ℕ) → m ≤ k → nat_lt k m ≡ false
false_below k m h = grind (arith, nat_tests)

says_by : (b : ℕ → Bool) (xs : List ℕ) (x : ℕ) (t : Bool) → nat_lt x (length xs) ≡ t → IsUnary b xs → AllTrue b (if t then negative_lit (slice_index xs x) ∷ [] else []) → count_of b xs ≤ x
says_by b xs x true e u h =
    let lt : x < length xs = grind (arith, nat_tests) in
    below_false x (count_of b xs) (sym (u x lt) ∙ not-true (b (slice_index xs x)) h.0)
says_by b xs x false e u h = let le = below_false x (length xs) e in omega (arith, count_le b xs)

at_most_says : (b : ℕ → Bool) (xs : List ℕ) (x : ℕ) → IsUnary b xs → AllTrue b (at_most_lits xs x) → count_of b xs ≤ x
at_most_says b xs x u h = says_by b xs x (nat_lt x (length xs)) refl u h

holds_by : (b : ℕ → Bool) (xs : List ℕ) (x : ℕ) (t : Bool) → nat_lt x (length xs) ≡ t → IsUnary b xs → count_of b xs ≤ x → AllTrue b (if t then negative_lit (slice_index xs x) ∷ [] else [])
holds_by b xs x true e u h =
    let lt : x < length xs = grind (arith, nat_tests) in
    (ap not (u x lt ∙ false_below x (count_of b xs) h), tt)
holds_by b xs x false e u h = tt

at_most_holds : (b : ℕ → Bool) (xs : List ℕ) (x : ℕ) → IsUnary b xs → count_of b xs ≤ x → AllTrue b (at_most_lits xs x)
at_most_holds b xs x u h = holds_by b xs x (nat_lt x (length xs)) refl u h

each_says : (b : ℕ → Bool) (ls : List (List ℕ)) (values : List ℕ) → AllUnary b ls → FitLevels values ls → AllTrue b (each_at_most ls values) → AreUpTo (counts_of b ls) values
each_says b [] [] u f h = tt
each_says b [] (x ∷ values) u f h = absurd f
each_says b (l ∷ ls) [] u f h = absurd f
each_says b (l ∷ ls) (x ∷ values) u f h = let s = true_front b (at_most_lits l x) (each_at_most ls values) h in (at_most_says b l x u.0 s.0, each_says b ls values u.1 f.1 s.1)

each_holds : (b : ℕ → Bool) (ls : List (List ℕ)) (values : List ℕ) → AllUnary b ls → AreUpTo (counts_of b ls) values → AllTrue b (each_at_most ls values)
each_holds b [] values u h = tt
each_holds b (l ∷ ls) [] u h = absurd h
each_holds b (l ∷ ls) (x ∷ values) u h = true_join b (at_most_lits l x) (each_at_most ls values) (at_most_holds b l x u.0 h.0) (each_holds b ls values u.1 h.1)

less_than : (k m : ℕ) → 1 ≤ k → nat_lt (k - 1) m ≡ false → m < k
less_than k m lo h = grind (arith, nat_tests)

than_less : (k m : ℕ) → 1 ≤ k → m < k → nat_lt (k - 1) m ≡ false
than_less k m lo h = grind (arith, nat_tests)

better_says : (b : ℕ → Bool) (j : ℕ) (ls : List (List ℕ)) (values : List ℕ) → AllUnary b ls → FitLevels values ls → j < length ls → 1 ≤ slice_index values j → AllTrue b (better_lits j ls values) → IsBetterAt j (counts_of b ls) values
better_says b j [] values u f lt lo h = absurd (omega arith)
better_says b j (l ∷ ls) [] u f lt lo h = absurd f
better_says b zero (l ∷ ls) (x ∷ values) u f lt lo h = less_than x (count_of b l) lo (sym (u.0 (x - 1) (let z = f.0 in omega arith)) ∙ not-true (b (slice_index l (x - 1))) h.0)
better_says b (suc j) (l ∷ ls) (x ∷ values) u f lt lo h =
    let s = true_front b (at_most_lits l x) (better_lits j ls values) h in
    (at_most_says b l x u.0 s.0, better_says b j ls values u.1 f.1 (omega arith) lo s.1)

better_holds : (b : ℕ → Bool) (j : ℕ) (ls : List (List ℕ)) (values : List ℕ) → AllUnary b ls → FitLevels values ls → 1 ≤ slice_index values j → IsBetterAt j (counts_of b ls) values → AllTrue b (better_lits j ls values)
better_holds b j [] values u f lo h = absurd h
better_holds b j (l ∷ ls) [] u f lo h = absurd f
better_holds b zero (l ∷ ls) (x ∷ values) u f lo h = (ap not (u.0 (x - 1) (let z = f.0 in omega arith) ∙ than_less x (count_of b l) lo h), tt)
better_holds b (suc j) (l ∷ ls) (x ∷ values) u f lo h = true_join b (at_most_lits l x) (better_lits j ls values) (at_most_holds b l x u.0 h.0) (better_holds b j ls values u.1 f.1 lo h.1)

-- what the copies say
abbrev pub Roots : (ℕ → Bool) → List Formula → List CopyDue → Type 0
Roots b bases copies = AllZip (λ base (c : CopyDue). b c.root ≡ holds base (truth_of b c.own)) bases copies

roots_say : (b : ℕ → Bool) (n : ℕ) (bases : List Formula) (copies : List CopyDue) → Roots b bases copies → All (λ (c : CopyDue). length c.own ≡ n) copies → AllTrue b (map (λ (c : CopyDue). positive_lit c.root) copies) → AllZip (IsModel n) bases (owns_of b copies)
roots_say b n [] [] r w h = tt
roots_say b n [] (c ∷ cs) r w h = absurd r
roots_say b n (f ∷ fs) [] r w h = absurd r
roots_say b n (f ∷ fs) (c ∷ cs) r w h =
    (record { size = truths_size b c.own ∙ All-head (λ (x : CopyDue). length x.own ≡ n) c cs w; true_there = sym r.0 ∙ h.0 }, roots_say b n fs cs r.1 (All-tail (λ (x : CopyDue). length x.own ≡ n) c cs w) h.1)

roots_hold : (b : ℕ → Bool) (n : ℕ) (bases : List Formula) (copies : List CopyDue) → Roots b bases copies → AllZip (IsModel n) bases (owns_of b copies) → AllTrue b (map (λ (c : CopyDue). positive_lit c.root) copies)
roots_hold b n [] [] r h = tt
roots_hold b n [] (c ∷ cs) r h = absurd r
roots_hold b n (f ∷ fs) [] r h = absurd r
roots_hold b n (f ∷ fs) (c ∷ cs) r h = let m = h.0 in (r.0 ∙ m.true_there, roots_hold b n fs cs r.1 h.1)

root_at : (b : ℕ → Bool) (bases : List Formula) (copies : List CopyDue) (i : ℕ) → Roots b bases copies → i < length copies → b (slice_index_or copies i no_copy).root ≡ holds (slice_index_or bases i formula.Top) (truth_of b (slice_index_or copies i no_copy).own)
root_at b [] [] i r lt = absurd (omega arith)
root_at b [] (c ∷ cs) i r lt = absurd r
root_at b (f ∷ fs) [] i r lt = absurd r
root_at b (f ∷ fs) (c ∷ cs) zero r lt = r.0
root_at b (f ∷ fs) (c ∷ cs) (suc i) r lt = root_at b fs cs i r.1 (omega arith)

unary_at : (b : ℕ → Bool) (copies : List CopyDue) (i : ℕ) → AllUnary b (aways_of copies) → i < length copies → IsUnary b (slice_index_or copies i no_copy).away
unary_at b [] i u lt = absurd (omega arith)
unary_at b (c ∷ cs) zero u lt = u.0
unary_at b (c ∷ cs) (suc i) u lt = unary_at b cs i u.1 (omega arith)

away_at : (b : ℕ → Bool) (d : List Bool → ℕ) (copies : List CopyDue) (i : ℕ) → counts_of b (aways_of copies) ≡ map d (owns_of b copies) → i < length copies → count_of b (slice_index_or copies i no_copy).away ≡ d (truth_of b (slice_index_or copies i no_copy).own)
away_at b d [] i e lt = absurd (omega arith)
away_at b d (c ∷ cs) zero e lt = cc
away_at b d (c ∷ cs) (suc i) e lt = let t : counts_of b (aways_of cs) ≡ map d (owns_of b cs) = cc in away_at b d cs i t (omega arith)

wide_at : (n : ℕ) (copies : List CopyDue) (i : ℕ) → All (λ (c : CopyDue). length c.own ≡ n) copies → i < length copies → length (slice_index_or copies i no_copy).own ≡ n
wide_at n copies i w lt = w i no_copy lt

-- one valuation for each copy
abbrev pub each : List Formula → List Bool → List (List Bool)
each [] u = []
each (f ∷ fs) u = u ∷ each fs u

each_size : (fs : List Formula) (u : List Bool) → length (each fs u) ≡ length fs
each_size [] u = refl
each_size (f ∷ fs) u = omega (arith, each_size fs u)

each_wide : (n : ℕ) (fs : List Formula) (u : List Bool) → length u ≡ n → All (λ w. length w ≡ n) (each fs u)
each_wide n [] u e = All-nil (λ w. length w ≡ n)
each_wide n (f ∷ fs) u e = All-cons (λ w. length w ≡ n) u (each fs u) e (each_wide n fs u e)

own_given : (b : ℕ → Bool) (fs : List Formula) (u : List Bool) (copies : List CopyDue) (i : ℕ) → owns_of b copies ≡ each fs u → i < length copies → truth_of b (slice_index_or copies i no_copy).own ≡ u
own_given b fs u [] i e lt = absurd (omega arith)
own_given b [] u (c ∷ cs) i e lt = absurd (cc)
own_given b (f ∷ fs) u (c ∷ cs) zero e lt = cc
own_given b (f ∷ fs) u (c ∷ cs) (suc i) e lt = let t : owns_of b cs ≡ each fs u = cc in own_given b fs u cs i t (omega arith)

models_wide : (n : ℕ) (fs : List Formula) (ws : List (List Bool)) → AllZip (IsModel n) fs ws → (length ws ≡ length fs) × All (λ w. length w ≡ n) ws
models_wide n [] [] h = (refl, All-nil (λ w. length w ≡ n))
models_wide n [] (w ∷ ws) h = absurd h
models_wide n (f ∷ fs) [] h = absurd h
models_wide n (f ∷ fs) (w ∷ ws) h = let m = h.0 in let s = models_wide n fs ws h.1 in (omega (arith, s.0), All-cons (λ x. length x ≡ n) w ws m.size s.1)

ask_is : (b : ℕ → Bool) (u : List Bool) (roots : List ℕ) (asks : List Formula) (q : ℕ) → map b roots ≡ map (λ f. holds f u) asks → q < length roots → b (slice_index roots q) ≡ holds (slice_index_or asks q formula.Top) u
ask_is b u [] asks q e lt = absurd (omega arith)
ask_is b u (r ∷ rs) [] q e lt = absurd (cc)
ask_is b u (r ∷ rs) (f ∷ fs) zero e lt = cc
ask_is b u (r ∷ rs) (f ∷ fs) (suc q) e lt = let t : map b rs ≡ map (λ g. holds g u) fs = cc in ask_is b u rs fs q t (omega arith)

-- an assignment with given valuations
pub record Given (b : ℕ → Bool) (main : MainDue) (v : List Bool) (ws : List (List Bool)) : Type 0 where
  pub holds_all : AreTrue main.clauses b
  pub shared : truth_of b main.shared ≡ v
  pub owns : owns_of b main.copies ≡ ws

given_some : (dist : List Bool → List Bool → ℕ) (top : ℕ) (values_of : List ℕ → ℕ → List ℕ) (p : Profile) (asks : List Formula) (main : MainDue) → IsMain dist top values_of p asks main → (v : List Bool) (ws : List (List Bool)) → length v ≡ p.atoms → length ws ≡ length p.bases → All (λ w. length w ≡ p.atoms) ws → (b : ℕ → Bool) × Given b main v ws
given_some dist top values_of p asks main m v ws ev es o =
    let e = m.one v ws ev es o in
    let x = e.some (λ k. false) tt in
    let r = x.2 in
    (x.0, record { holds_all = r.1; shared = r.0.0; owns = r.0.1 })

shared_long : (dist : List Bool → List Bool → ℕ) (top : ℕ) (values_of : List ℕ → ℕ → List ℕ) (p : Profile) (asks : List Formula) (main : MainDue) → IsMain dist top values_of p asks main → length main.shared ≡ p.atoms
shared_long dist top values_of p asks main m = ap length m.shared_are ∙ length-fresh_lits 0 p.atoms

pub shared_size : (dist : List Bool → List Bool → ℕ) (top : ℕ) (values_of : List ℕ → ℕ → List ℕ) (p : Profile) (asks : List Formula) (main : MainDue) → IsMain dist top values_of p asks main → (b : ℕ → Bool) → length (truth_of b main.shared) ≡ p.atoms
shared_size dist top values_of p asks main m b = truths_size b main.shared ∙ ap length m.shared_are ∙ length-fresh_lits 0 p.atoms

candidate_of : (dist : List Bool → List Bool → ℕ) (top : ℕ) (values_of : List ℕ → ℕ → List ℕ) (p : Profile) (asks : List Formula) (main : MainDue) → IsMain dist top values_of p asks main → (b : ℕ → Bool) → AreTrue main.clauses b → AllTrue b (all_roots main) → IsCandidate p (truth_of b main.shared) (owns_of b main.copies)
candidate_of dist top values_of p asks main m b r h = record {
  model = record { size = shared_size dist top values_of p asks main m b; true_there = sym (m.constraint_is b r) ∙ h.0 };
  models = roots_say b p.atoms p.bases main.copies (m.roots_are b r) m.wide h.1;
}

candidate_roots : (dist : List Bool → List Bool → ℕ) (top : ℕ) (values_of : List ℕ → ℕ → List ℕ) (p : Profile) (asks : List Formula) (main : MainDue) → IsMain dist top values_of p asks main → (b : ℕ → Bool) (v : List Bool) (ws : List (List Bool)) → Given b main v ws → IsCandidate p v ws → AllTrue b (all_roots main)
candidate_roots dist top values_of p asks main m b v ws g c =
    let model = c.model in (
      m.constraint_is b g.holds_all ∙ ap (holds p.constraint) g.shared ∙ model.true_there,
      roots_hold b p.atoms p.bases main.copies (m.roots_are b g.holds_all) (subst (λ us. AllZip (IsModel p.atoms) p.bases us) (sym g.owns) c.models),
    )

candidate_given : (dist : List Bool → List Bool → ℕ) (top : ℕ) (values_of : List ℕ → ℕ → List ℕ) (p : Profile) (asks : List Formula) (main : MainDue) → IsMain dist top values_of p asks main → (v : List Bool) (ws : List (List Bool)) → IsCandidate p v ws → (b : ℕ → Bool) × Given b main v ws
candidate_given dist top values_of p asks main m v ws c =
    let s = models_wide p.atoms p.bases ws c.models in
    let model = c.model in
    given_some dist top values_of p asks main m v ws model.size s.0 s.1

levels_given : (dist : List Bool → List Bool → ℕ) (top : ℕ) (values_of : List ℕ → ℕ → List ℕ) (p : Profile) (asks : List Formula) (main : MainDue) → IsMain dist top values_of p asks main → (b : ℕ → Bool) (v : List Bool) (ws : List (List Bool)) → Given b main v ws → counts_of b main.levels ≡ values_at dist top values_of p v ws
levels_given dist top values_of p asks main m b v ws g =
    m.levels_are b g.holds_all ∙ ap (λ u. values_at dist top values_of p u (owns_of b main.copies)) g.shared ∙ ap (λ us. values_at dist top values_of p v us) g.owns

owns_at : (b : ℕ → Bool) (cs : List CopyDue) (i : ℕ) → own_at (owns_of b cs) i ≡ truth_of b (slice_index_or cs i no_copy).own
owns_at b [] zero = refl
owns_at b [] (suc i) = refl
owns_at b (c ∷ cs) zero = refl
owns_at b (c ∷ cs) (suc i) = owns_at b cs i

broken_of : (dist : List Bool → List Bool → ℕ) (top : ℕ) (values_of : List ℕ → ℕ → List ℕ) (p : Profile) (asks : List Formula) (main : MainDue) → IsMain dist top values_of p asks main → (b : ℕ → Bool) → AreTrue main.clauses b → (claim : Assertion) → IsProperOf main p.atoms claim → AllTrue b (assumed_of main claim) →
    Breaks dist top values_of p asks claim (truth_of b main.shared) (owns_of b main.copies)
broken_of dist top values_of p asks main m b r NoModelOfConstraint proper a = record { size = shared_size dist top values_of p asks main m b; true_there = sym (m.constraint_is b r) ∙ a.0 }
broken_of dist top values_of p asks main m b r (NoModelOfBase i) proper a =
    let c = copy_at main i in
    subst (IsModel p.atoms (base_at p i)) (sym (owns_at b main.copies i))
    (record { size = truths_size b c.own ∙ wide_at p.atoms main.copies i m.wide proper; true_there = sym (root_at b p.bases main.copies i (m.roots_are b r) proper) ∙ a.0 })
broken_of dist top values_of p asks main m b r (NoNearer i v k) proper a =
    let c = copy_at main i in
    let n = p.atoms in
    let s = true_front b (signed main.shared v) (positive_lit c.root ∷ negative_lit (slice_index c.away (k - 1)) ∷ []) a in
    let is_v : truth_of b main.shared ≡ v =
    let h : AllTrue b (signed (fresh_lits 0 n) v) = subst (λ ls. AllTrue b (signed ls v)) m.shared_are s.0 in
    ap (truth_of b) m.shared_are ∙ sym (take_whole (truth_of b (fresh_lits 0 n)) (length v) (truths_size b (fresh_lits 0 n) ∙ length-fresh_lits 0 n ∙ sym proper.1)) ∙ signed_says b 0 n v (omega (arith, proper.1)) h in
    let small = less_than k (count_of b c.away) proper.2 (sym (unary_at b main.copies i (m.counters_in_order b r) proper.0 (k - 1) (let z = proper.3 in omega arith)) ∙ not-true (b (slice_index c.away (k - 1))) s.1.1.0) in
    let far : count_of b c.away ≡ dist v (truth_of b c.own) = away_at b (dist (truth_of b main.shared)) main.copies i (m.counters_are b r) proper.0 ∙ ap (λ u. dist u (truth_of b c.own)) is_v in
    let own : own_at (owns_of b main.copies) i ≡ truth_of b c.own = owns_at b main.copies i in
    let near : dist v (own_at (owns_of b main.copies) i) ≡ dist v (truth_of b c.own) = ap (dist v) own in
    let is : IsModel n (base_at p i) (truth_of b c.own) = record { size = truths_size b c.own ∙ wide_at n main.copies i m.wide proper.0; true_there = sym (root_at b p.bases main.copies i (m.roots_are b r) proper.0) ∙ s.1.0 } in
    (is_v, subst (IsModel n (base_at p i)) (sym own) is, omega (arith, small, far, near))
broken_of dist top values_of p asks main m b r (NoBetter j values) proper a =
    let s = true_front b (all_roots main) (better_lits j main.levels values) a in
    (candidate_of dist top values_of p asks main m b r s.0, subst (λ us. IsBetterAt j us values) (m.levels_are b r) (better_says b j main.levels values (m.levels_in_order b r) proper.1 proper.0 proper.2 s.1))
broken_of dist top values_of p asks main m b r (NoBreaker q values) proper a =
    let s = true_front b (all_roots main) (each_at_most main.levels values ++ negative_lit (slice_index main.asks q) ∷ []) a in
    let t = true_front b (each_at_most main.levels values) (negative_lit (slice_index main.asks q) ∷ []) s.1 in (
      candidate_of dist top values_of p asks main m b r s.0,
      sym (ask_is b (truth_of b main.shared) main.asks asks q (m.asks_are b r) proper.0) ∙ not-true (b (slice_index main.asks q)) t.1.0,
      subst (λ us. AreUpTo us values) (m.levels_are b r) (each_says b main.levels values (m.levels_in_order b r) proper.1 t.0),
    )
broken_of dist top values_of p asks main m b r (NoModelWith values prefix) proper a =
    let s = true_front b (all_roots main) (each_at_most main.levels values ++ signed main.shared prefix) a in
    let t = true_front b (each_at_most main.levels values) (signed main.shared prefix) s.1 in
    let h : AllTrue b (signed (fresh_lits 0 p.atoms) prefix) = subst (λ ls. AllTrue b (signed ls prefix)) m.shared_are t.1 in (
      candidate_of dist top values_of p asks main m b r s.0,
      ap (λ ls. take (length prefix) (truth_of b ls)) m.shared_are ∙ signed_says b 0 p.atoms prefix proper.1 h,
      subst (λ us. AreUpTo us values) (m.levels_are b r) (each_says b main.levels values (m.levels_in_order b r) proper.0 t.0),
    )

-- where no assignment does, the claim is true
true_of : (dist : List Bool → List Bool → ℕ) (top : ℕ) (values_of : List ℕ → ℕ → List ℕ) (p : Profile) (asks : List Formula) (main : MainDue) → IsMain dist top values_of p asks main → (claim : Assertion) → IsProperOf main p.atoms claim → NoneSatisfies main (assumed_of main claim) → IsTrueThat dist top values_of p asks claim
true_of dist top values_of p asks main m NoModelOfConstraint proper none = λ has.
    let v = has.0 in
    let model = has.1 in
    let x = given_some dist top values_of p asks main m v (each p.bases v) model.size (each_size p.bases v) (each_wide p.atoms p.bases v model.size) in
    let g = x.1 in
    none x.0 g.holds_all (m.constraint_is x.0 g.holds_all ∙ ap (holds p.constraint) g.shared ∙ model.true_there, tt)
true_of dist top values_of p asks main m (NoModelOfBase i) proper none = λ has.
    let v = has.0 in
    let model = has.1 in
    let x = given_some dist top values_of p asks main m v (each p.bases v) model.size (each_size p.bases v) (each_wide p.atoms p.bases v model.size) in
    let g = x.1 in
    none x.0 g.holds_all (root_at x.0 p.bases main.copies i (m.roots_are x.0 g.holds_all) proper ∙ ap (holds (base_at p i)) (own_given x.0 p.bases v main.copies i g.owns proper) ∙ model.true_there, tt)
true_of dist top values_of p asks main m (NoNearer i v k) proper none = λ w model.
    let n = p.atoms in
    let c = copy_at main i in
    let x = given_some dist top values_of p asks main m v (each p.bases w) proper.1 (each_size p.bases w) (each_wide n p.bases w model.size) in
    let b = x.0 in
    let g = x.1 in
    let r = g.holds_all in
    let own = own_given b p.bases w main.copies i g.owns proper.0 in
    let far : count_of b c.away ≡ dist v w = away_at b (dist (truth_of b main.shared)) main.copies i (m.counters_are b r) proper.0 ∙ ap (λ u. dist u (truth_of b c.own)) g.shared ∙ ap (dist v) own in
    elim (leb_tells k (dist v w)) [
      | inl y ↦ y.1
      | inr y ↦ (let small : count_of b c.away < k = let z = y.1 in omega arith in
          let off : b (slice_index c.away (k - 1)) ≡ false = unary_at b main.copies i (m.counters_in_order b r) proper.0 (k - 1) (let z = proper.3 in omega arith) ∙ than_less k (count_of b c.away) proper.2 small in
          let root : b c.root ≡ true = root_at b p.bases main.copies i (m.roots_are b r) proper.0 ∙ ap (holds (base_at p i)) own ∙ model.true_there in
          let whole : take (length v) (truth_of b (fresh_lits 0 n)) ≡ v = take_whole (truth_of b (fresh_lits 0 n)) (length v) (truths_size b (fresh_lits 0 n) ∙ length-fresh_lits 0 n ∙ sym proper.1) ∙ ap (truth_of b) (sym m.shared_are) ∙ g.shared in
          let lits : AllTrue b (signed main.shared v) = subst (λ ls. AllTrue b (signed ls v)) (sym m.shared_are) (signed_holds b 0 n v (omega (arith, proper.1)) whole) in
          absurd (none b r (true_join b (signed main.shared v) (positive_lit c.root ∷ negative_lit (slice_index c.away (k - 1)) ∷ []) lits (root, (ap not off, tt)))))
    ]
true_of dist top values_of p asks main m (NoBetter j values) proper none = λ v ws c better.
    let x = candidate_given dist top values_of p asks main m v ws c in
    let b = x.0 in
    let g = x.1 in
    let r = g.holds_all in
    none b r (true_join b (all_roots main) (better_lits j main.levels values) (candidate_roots dist top values_of p asks main m b v ws g c)
    (better_holds b j main.levels values (m.levels_in_order b r) proper.1 proper.2 (subst (λ us. IsBetterAt j us values) (sym (levels_given dist top values_of p asks main m b v ws g)) better)))
true_of dist top values_of p asks main m (NoBreaker q values) proper none = λ v ws c off least.
    let x = candidate_given dist top values_of p asks main m v ws c in
    let b = x.0 in
    let g = x.1 in
    let r = g.holds_all in
    let no : b (slice_index main.asks q) ≡ false = ask_is b (truth_of b main.shared) main.asks asks q (m.asks_are b r) proper.0 ∙ ap (holds (ask_at asks q)) g.shared ∙ off in
    none b r (true_join b (all_roots main) (each_at_most main.levels values ++ negative_lit (slice_index main.asks q) ∷ []) (candidate_roots dist top values_of p asks main m b v ws g c)
    (true_join b (each_at_most main.levels values) (negative_lit (slice_index main.asks q) ∷ [])
    (each_holds b main.levels values (m.levels_in_order b r) (subst (λ us. AreUpTo us values) (sym (levels_given dist top values_of p asks main m b v ws g)) least)) (ap not no, tt)))
true_of dist top values_of p asks main m (NoModelWith values prefix) proper none = λ v ws c begins least.
    let x = candidate_given dist top values_of p asks main m v ws c in
    let b = x.0 in
    let g = x.1 in
    let r = g.holds_all in
    let n = p.atoms in
    let there : take (length prefix) (truth_of b (fresh_lits 0 n)) ≡ prefix = ap (λ ls. take (length prefix) (truth_of b ls)) (sym m.shared_are) ∙ ap (take (length prefix)) g.shared ∙ begins in
    none b r (true_join b (all_roots main) (each_at_most main.levels values ++ signed main.shared prefix) (candidate_roots dist top values_of p asks main m b v ws g c)
    (true_join b (each_at_most main.levels values) (signed main.shared prefix)
    (each_holds b main.levels values (m.levels_in_order b r) (subst (λ us. AreUpTo us values) (sym (levels_given dist top values_of p asks main m b v ws g)) least))
    (subst (λ ls. AllTrue b (signed ls prefix)) (sym m.shared_are) (signed_holds b 0 n prefix proper.1 there))))

-- an assignment that satisfies the main clauses and a claim's assumptions has valuations that break the claim
pub breaks_of : (dist : List Bool → List Bool → ℕ) (top : ℕ) (values_of : List ℕ → ℕ → List ℕ) (p : Profile) (asks : List Formula) (main : MainDue) → IsMain dist top values_of p asks main → (b : ℕ → Bool) → AreTrue main.clauses b → (claim : Assertion) → IsProper main claim → AllTrue b (assumed main claim) →
    Breaks dist top values_of p asks claim (truth_of b main.shared) (owns_of b main.copies)
breaks_of dist top values_of p asks main m b r claim proper a =
    broken_of dist top values_of p asks main m b r claim (proper_same main p.atoms claim (shared_long dist top values_of p asks main m) proper) (subst (λ ls. AllTrue b ls) (assumed_same main claim) a)

-- a claim that is true is not broken
unbroken : (dist : List Bool → List Bool → ℕ) (top : ℕ) (values_of : List ℕ → ℕ → List ℕ) (p : Profile) (asks : List Formula) (claim : Assertion) (v : List Bool) (ws : List (List Bool)) → IsTrueThat dist top values_of p asks claim → Breaks dist top values_of p asks claim v ws → ⊥
unbroken dist top values_of p asks NoModelOfConstraint v ws claim broken = claim (v, broken)
unbroken dist top values_of p asks (NoModelOfBase i) v ws claim broken = claim (own_at ws i, broken)
unbroken dist top values_of p asks (NoNearer i u k) v ws claim broken = let far = claim (own_at ws i) broken.1 in let near = broken.2 in omega arith
unbroken dist top values_of p asks (NoBetter j values) v ws claim broken = claim v ws broken.0 broken.1
unbroken dist top values_of p asks (NoBreaker q values) v ws claim broken = claim v ws broken.0 broken.1 broken.2
unbroken dist top values_of p asks (NoModelWith values prefix) v ws claim broken = claim v ws broken.0 broken.1 broken.2

pub claim_to : (dist : List Bool → List Bool → ℕ) (top : ℕ) (values_of : List ℕ → ℕ → List ℕ) (p : Profile) (asks : List Formula) (main : MainDue) → IsMain dist top values_of p asks main → (claim : Assertion) → IsProper main claim → IsTrueThat dist top values_of p asks claim → NoneSatisfies main (assumed main claim)
claim_to dist top values_of p asks main m claim proper there = λ b r a.
    unbroken dist top values_of p asks claim (truth_of b main.shared) (owns_of b main.copies) there (breaks_of dist top values_of p asks main m b r claim proper a)

pub claim_from : (dist : List Bool → List Bool → ℕ) (top : ℕ) (values_of : List ℕ → ℕ → List ℕ) (p : Profile) (asks : List Formula) (main : MainDue) → IsMain dist top values_of p asks main → (claim : Assertion) → IsProper main claim → NoneSatisfies main (assumed main claim) → IsTrueThat dist top values_of p asks claim
claim_from dist top values_of p asks main m claim proper none =
    true_of dist top values_of p asks main m claim (proper_same main p.atoms claim (shared_long dist top values_of p asks main m) proper) (subst (λ ls. NoneSatisfies main ls) (assumed_same main claim) none)
