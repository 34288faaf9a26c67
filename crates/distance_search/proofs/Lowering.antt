-- Making the levels least.
use Rattle.std.proofs.Common.{◌≡◌, ℕ, zero, suc, ◌+◌, ◌<◌, inl, inr, Bool, List, [], ◌∷◌, ◌++◌, length, take, map, min, Option, Some, None, refl, ap, sym, ◌∙◌, subst, arith}
use Rattle.std.specs.Prelude.{slice_get, slice_index}
use Rattle.std.proofs.lemmas.List.{take_more, length-take-le}
use Rattle.derivation_log.specs.Logs.{Log}
use Rattle.cdcl_core.specs.Replies.{IsLonger}
use Rattle.aggregators.specs.Levels.{FitLevels}
use Rattle.merge_encoding.specs.declared.frame.Frame.{Frame}
use Rattle.merge_encoding.specs.Frames.{frame_of}
use Rattle.merge_encoding.specs.Claims.{NoBetter, NoModelWith, IsCandidate, IsBetterAt, AreUpTo}
use Rattle.merge_encoding.proofs.Better.{assumed_before}
use Rattle.distance_search.specs.declared.reply.Witness.{Witness}
use Rattle.distance_search.specs.declared.reply.Reply.{Reply}
use Rattle.distance_search.specs.declared.reply.Reply.TheVariants.{Refuted, Found}
use Rattle.distance_search.specs.Setting.{Setting, IsAskable}
use Rattle.distance_search.specs.Laws.{Laws}
use Rattle.distance_search.specs.Heard.{IsRefuting}
use Rattle.distance_search.specs.Replies.{IsTrueIn, IsAnswer}
use Rattle.distance_search.specs.LevelValues.{values_in}
use Rattle.distance_search.specs.Results.{IsConsistent, IsProven, AreProven}
use Rattle.distance_search.specs.Turns.{IsReached, IsLeastBelow, IsLowered, IsLeastTo, AreLowered}
use Rattle.distance_search.proofs.Ready.{ready}
use Rattle.merge_encoding.proofs.ValueOrders.{kept_before, better_before, none_below_zero}
use Rattle.merge_encoding.proofs.Signs.{fit_length}
use Rattle.distance_search.proofs.Least.{truth_is_candidate, values_fit}
use Rattle.distance_search.proofs.Places.{take_less, get_front, one_proven, proven_on}
use Rattle.merge_model.proofs.Best.{below_or_at}

-- ---- the first question

up_to_lengths : (values : List ℕ) (levels : List (List ℕ)) → FitLevels values levels → AreUpTo values (map length levels)
up_to_lengths [] [] h = tt
up_to_lengths [] (l ∷ ls) h = absurd h
up_to_lengths (x ∷ xs) [] h = absurd h
up_to_lengths (x ∷ xs) (l ∷ ls) h = (h.0, up_to_lengths xs ls h.1)

lengths_fit : (levels : List (List ℕ)) → FitLevels (map length levels) levels
lengths_fit [] = tt
lengths_fit (l ∷ ls) = (omega arith, lengths_fit ls)

lengths_of : (s : Setting) (frame : Frame) (levels : List (List ℕ)) (made given : List ℕ) → frame ≡ frame_of s.main → levels ≡ frame.levels → made ≡ map length levels → given ≡ made → given ≡ map length s.main.levels
lengths_of s frame levels made given e f g h = h ∙ g ∙ ap (map length) (f ∙ ap (λ (x : Frame). x.levels) e)

-- where all have models, some candidate is within the lengths
some_reached : (s : Setting) → Laws s → IsConsistent s → IsTrueIn s (NoModelWith (map length s.main.levels) []) → ⊥
some_reached s law c claim =
    let x = c.constraint in
    let t = truth_is_candidate s c.bases x.0 x.1 in
    claim x.0 t.0 t.1 refl (up_to_lengths (values_in s x.0 t.0) s.main.levels (values_fit s law x.0 t.0 t.1))

pub first_proper : (s : Setting) → Laws s → (frame : Frame) (levels : List (List ℕ)) (made given : List ℕ) → frame ≡ frame_of s.main → levels ≡ frame.levels → made ≡ map length levels → given ≡ made → IsAskable s (NoModelWith given [])
first_proper s law frame levels made given e f g h = ready s law (NoModelWith given []) (subst (λ us. FitLevels us s.main.levels) (sym (lengths_of s frame levels made given e f g h)) (lengths_fit s.main.levels), omega arith)

-- limits of at most the levels' lengths
limits_fit : (most : ℕ) (levels : List (List ℕ)) → FitLevels (map (λ (l : List ℕ). min (length l) most) levels) levels
limits_fit most [] = tt
limits_fit most (l ∷ ls) = (omega arith, limits_fit most ls)

pub within_proper : (s : Setting) → Laws s → (frame : Frame) (levels : List (List ℕ)) (made given : List ℕ) (most : ℕ) → frame ≡ frame_of s.main → levels ≡ frame.levels → made ≡ map (λ (l : List ℕ). min (length l) most) levels → given ≡ made → IsAskable s (NoModelWith given [])
within_proper s law frame levels made given most e f g h =
    let same : levels ≡ s.main.levels = f ∙ ap (λ (x : Frame). x.levels) e in
    let fits : FitLevels given levels = subst (λ us. FitLevels us levels) (sym (h ∙ g)) (limits_fit most levels) in
    ready s law (NoModelWith given []) (subst (λ ls. FitLevels given ls) same fits, omega arith)

pub first_refuted : (s : Setting) → Laws s → (frame : Frame) (levels : List (List ℕ)) (made given : List ℕ) (log : Log) (r : Reply) (number : ℕ) → IsConsistent s → frame ≡ frame_of s.main → levels ≡ frame.levels → made ≡ map length levels → given ≡ made → r ≡ Refuted number → IsAnswer s log (NoModelWith given []) r → ⊥
first_refuted s law frame levels made given log r number c e f g h is answer =
    let a = subst (λ r. IsAnswer s log (NoModelWith given []) r) is answer in
    some_reached s law c (subst (λ us. IsTrueIn s (NoModelWith us [])) (lengths_of s frame levels made given e f g h) a.0)

-- ---- lowering one level

-- a better list has a lower value there
lower_there : (j : ℕ) (us vals : List ℕ) → IsBetterAt j us vals → slice_index us j < slice_index vals j
lower_there j [] vals b = absurd b
lower_there j (u ∷ us) [] b = absurd b
lower_there zero (u ∷ us) (v ∷ vals) b = b
lower_there (suc j) (u ∷ us) (v ∷ vals) b = lower_there j us vals b.1

least_below_on : (s : Setting) (j : ℕ) (vals others : List ℕ) → take j others ≡ take j vals → IsLeastBelow s j vals → IsLeastBelow s j others
least_below_on s j vals others e h = λ i lt v ws c b. h i lt v ws c (better_before i (values_in s v ws) others vals (take_less (suc i) j others vals (omega arith) e) b)

lowered_before : (s : Setting) (j : ℕ) (v : List Bool) (ws : List (List Bool)) (vals first : List ℕ) → IsLeastBelow s j first → take j vals ≡ take j first → IsCandidate s.profile v ws → IsBetterAt j (values_in s v ws) vals → take j (values_in s v ws) ≡ take j first
lowered_before s j v ws vals first least e c b =
    kept_before j (values_in s v ws) vals (λ i lt k. least_below_on s j first vals e least i lt v ws c k) b ∙ e

-- at a value of 0 nothing is lower
pub lowest_at_zero : (s : Setting) (log : Log) (j : ℕ) (from made : Witness) → slice_index made.values.items j ≡ 0 → IsReached s made → take j made.values.items ≡ take j from.values.items → IsLowered s log j from made None
lowest_at_zero s log j from made e r t = record { reached = r; before = t; least = λ v ws c b. none_below_zero j (values_in s v ws) made.values.items e b; proven = e }

found_better : (s : Setting) (log : Log) (j : ℕ) (vals : List ℕ) (r : Reply) (x : Witness) → r ≡ Found x → IsAnswer s log (NoBetter j vals) r → IsReached s x × IsBetterAt j x.values.items vals
found_better s log j vals r x e h =
    let a = subst (λ (r : Reply). IsAnswer s log (NoBetter j vals) r) e h in
    let w = a.0 in
    (record { witness = w; candidate = a.1.0 }, subst (λ us. IsBetterAt j us vals) (sym w.values) a.1.1)

next_before : (s : Setting) (j : ℕ) (vals first : List ℕ) (x : Witness) → IsLeastBelow s j first → take j vals ≡ take j first → IsReached s x → IsBetterAt j x.values.items vals → take j x.values.items ≡ take j first
next_before s j vals first x least e r b =
    let w = r.witness in
    let is = w.values in
    subst (λ us. take j us ≡ take j first) (sym is) (lowered_before s j x.shared x.own.items vals first least e r.candidate (subst (λ us. IsBetterAt j us vals) is b))

-- the turn of a lowering loop that found a lower witness
pub record IsTurned (s : Setting) (j : ℕ) (first : List ℕ) (x : Witness) : Type 0 where
  pub reached : IsReached s x
  pub before : take j x.values.items ≡ take j first

pub turned : (s : Setting) (log : Log) (j : ℕ) (first vals given : List ℕ) (r : Reply) (x : Witness) → IsLeastBelow s j first → take j vals ≡ take j first → given ≡ vals → r ≡ Found x → IsAnswer s log (NoBetter j given) r → IsTurned s j first x
turned s log j first vals given r x least e copy is answer =
    let f = found_better s log j vals r x is (subst (λ us. IsAnswer s log (NoBetter j us) r) copy answer) in
    record { reached = f.0; before = next_before s j vals first x least e f.0 f.1 }

pub smaller : (s : Setting) (log : Log) (j : ℕ) (vals given next : List ℕ) (r : Reply) (x : Witness) (old new : ℕ) → given ≡ vals → next ≡ x.values.items → r ≡ Found x → IsAnswer s log (NoBetter j given) r → old ≡ slice_index vals j → new ≡ slice_index next j → new < old
smaller s log j vals given next r x old new copy read is answer e f =
    let a = found_better s log j vals r x is (subst (λ us. IsAnswer s log (NoBetter j us) r) copy answer) in
    omega (arith, lower_there j x.values.items vals a.1, ap (λ us. slice_index us j) read)

pub level_there : (s : Setting) (x : Witness) (j : ℕ) (given : List ℕ) → given ≡ x.values.items → IsReached s x → j < length s.main.levels → j < length given
level_there s x j given copy r lt = let w = r.witness in omega (arith, ap length copy, fit_length x.values.items s.main.levels w.fits)

pub found_there : (s : Setting) (log : Log) (j : ℕ) (given read : List ℕ) (r : Reply) (x : Witness) → read ≡ x.values.items → r ≡ Found x → IsAnswer s log (NoBetter j given) r → j < length s.main.levels → j < length read
found_there s log j given read r x copy is answer lt = level_there s x j read copy (found_better s log j given r x is answer).0 lt

-- ---- from level to level

-- a step that shows a level's value shows it where later values differ
proven_moved : (s : Setting) (log : Log) (values others : List ℕ) (j k : ℕ) (f : Option ℕ) → take (suc j) others ≡ take (suc j) values → IsProven s log k (NoBetter j values) f → IsProven s log k (NoBetter j others) f
proven_moved s log values others j k None e p = p
proven_moved s log values others j k (Some n) e p = (p.0, subst (λ ls. IsRefuting log ls n) (sym (assumed_before (frame_of s.main) j others values e)) p.1)

-- the steps of the levels before one stay, as the values before it do
least_to_on : (s : Setting) (a b : Log) (values others : List ℕ) (j : ℕ) (fs : List (Option ℕ)) → IsLonger a b → take j others ≡ take j values → IsLeastTo s a j values fs → IsLeastTo s b j others fs
least_to_on s a b values others j fs g e h = record {
  count = h.count ∙ sym (ap length e);
  each = λ i k f ek ef.
      let there : slice_get (take j values) i ≡ Some k = subst (λ xs. slice_get xs i ≡ Some k) e ek in
      let lt = (get_front j i values k there).1 in
      proven_moved s b values others i k f (take_less (suc i) j others values (omega arith) e) (proven_on s a b k (NoBetter i values) f g (h.each i k f there ef));
}

below_next : (s : Setting) (j : ℕ) (from made : List ℕ) → IsLeastBelow s j from → take j made ≡ take j from → IsTrueIn s (NoBetter j made) → IsLeastBelow s (j + 1) made
below_next s j from made below before least i lt = elim (below_or_at i j lt) [
  | inl l ↦ least_below_on s j from made before below i l
  | inr e ↦ subst (λ k. IsTrueIn s (NoBetter k made)) (sym e) least
]

pub levels_within : (s : Setting) (frame : Frame) (j n : ℕ) → frame ≡ frame_of s.main → n ≡ length frame.levels → j < n → j < length s.main.levels
levels_within s frame j n e f lt = omega (arith, f, ap (λ (x : Frame). length x.levels) e)

-- one level more
pub next_level : (s : Setting) (a b : Log) (j : ℕ) (from made : Witness) (fs pushed : List (Option ℕ)) (f : Option ℕ) → j < length s.main.levels → IsLonger a b → AreLowered s a j from fs → IsLowered s b j from made f → pushed ≡ fs ++ f ∷ [] → AreLowered s b (j + 1) made pushed
next_level s a b j from made fs pushed f lt g old low is =
    let reached = low.reached in
    let w = reached.witness in
    let values = made.values.items in
    let there : j < length values = omega (arith, fit_length values s.main.levels w.fits) in
    let long : length (take j values) ≡ j = length-take-le j values (omega arith) in
    let kept : IsLeastTo s b j values fs = least_to_on s a b from.values.items values j fs g low.before old.proven in
    let one : IsProven s b (slice_index values j) (NoBetter (length (take j values)) values) f = subst (λ i. IsProven s b (slice_index values j) (NoBetter i values) f) (sym long) low.proven in
    let both : AreProven s b (λ j k. NoBetter j values) (take j values ++ slice_index values j ∷ []) (fs ++ f ∷ []) = one_proven s b (λ j k. NoBetter j values) (take j values) fs (slice_index values j) f kept one in
    record {
      reached = reached;
      below = below_next s j from.values.items values old.below low.before low.least;
      proven = subst (λ x. IsLeastTo s b (j + 1) values x) (sym is) (subst (λ ks. AreProven s b (λ j k. NoBetter j values) ks (fs ++ f ∷ [])) (sym (take_more values j 0 there)) both);
    }
