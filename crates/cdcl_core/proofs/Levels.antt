-- Lemmas on levels of false literals.
use Rattle.std.proofs.Common.{◌≡◌, ℕ, ◌+◌, ◌-◌, ◌<◌, ◌≤◌, true, false, List, [], ◌∷◌, length, refl, ap, sym, ◌∙◌, arith, cond, inl, inr, Some, None, Option, get_or, take, option_map}
use Rattle.std.specs.Prelude.{nat_lt}
use Rattle.std.proofs.lemmas.Bool.{cases_lt}
use Rattle.std.proofs.lemmas.List.{take_more}
use Rattle.std.proofs.lemmas.List.Sums.{sum_by-append}
use Rattle.clause_store.specs.declared.lit.Lit.{Lit}
use Rattle.watch_lists.specs.declared.entry.Entry.{Entry}
use Rattle.watch_lists.specs.Trace.{Trace, value_of, entry_of, room_in, room_of, upto, IsTrace}
use Rattle.watch_lists.proofs.Parts.{level_le, room_cons}
use Rattle.solver_laws.proofs.Rooms.{room_at}

abbrev pub no_lit : Lit
no_lit = record { var = 0; positive = false }

pub record Leveled (t : Trace) (l : Lit) (lv : ℕ) : Type 0 where
  pub within : lv ≤ t.level
  pub room : (k : ℕ) → room_in (value_of (upto k t.entries) l) ≡ cond (nat_lt k lv) 1 0

level_go : (t : Trace) (l : Lit) (lv : ℕ) (o : Option Entry) → IsTrace t → value_of t.entries l ≡ Some false → entry_of t.entries l.var ≡ o → (let x : Option ℕ = Some lv in x ≡ option_map (λ (e : Entry). e.level) o) → Leveled t l lv
level_go t l lv None tr v q h = absurd (cc)
level_go t l lv (Some e) tr v q h =
    let s : lv ≡ e.level = cc in
    record { within = omega (arith, s, level_le t.level l.var t.entries e tr.stacked q); room = λ k. room_at t.vars t.level k t.entries l e tr.apart tr.stacked v q ∙ ap (λ (n : ℕ). cond (nat_lt k n) 1 0) (sym s) }

pub level_is : (t : Trace) (l : Lit) (lv : ℕ) → IsTrace t → value_of t.entries l ≡ Some false → (let x : Option ℕ = Some lv in x ≡ option_map (λ (e : Entry). e.level) (entry_of t.entries l.var)) → Leveled t l lv
level_is t l lv tr v h = level_go t l lv (entry_of t.entries l.var) tr v refl h

pub room_take : (es : List Entry) (c : List Lit) (i : ℕ) (d : Lit) → i < length c → room_of es (take (i + 1) c) ≡ room_of es (take i c) + room_in (value_of es (get_or c i d))
room_take es c i d h =
    let one = ap (room_of es) (take_more c i d h) in
    let two = sum_by-append (λ (l : Lit). room_in (value_of es l)) (take i c) (get_or c i d ∷ []) in
    let three : room_of es (get_or c i d ∷ []) ≡ room_in (value_of es (get_or c i d)) = omega (arith, room_cons es (get_or c i d) []) in
    one ∙ two ∙ ap (λ (n : ℕ). room_of es (take i c) + n) three

lt_true : (a b : ℕ) → a < b → cond {A = ℕ} (nat_lt a b) 1 0 ≡ 1
lt_true a b h = let t : nat_lt a b ≡ true = grind arith in rw t refl

lt_false : (a b : ℕ) → b ≤ a → cond {A = ℕ} (nat_lt a b) 1 0 ≡ 0
lt_false a b h = let t : nat_lt a b ≡ false = grind arith in rw t refl

cond_mono : (a b lv : ℕ) → a ≤ b → cond (nat_lt b lv) 1 0 ≤ cond (nat_lt a lv) 1 0
cond_mono a b lv h = elim (cases_lt b lv) [ inl g ↦ omega (arith, lt_true b lv g, lt_true a lv (omega arith)) | inr g ↦ omega (arith, lt_false b lv g) ]

pub back_rise : (L lv i : ℕ) (es : List Entry) (c : List Lit) → i < length c → ((k : ℕ) → k < L → room_of (upto (L - 1) es) (take i c) ≤ room_of (upto k es) (take i c)) → ((k : ℕ) → room_in (value_of (upto k es) (get_or c i no_lit)) ≡ cond (nat_lt k lv) 1 0) →
    (k : ℕ) → k < L → room_of (upto (L - 1) es) (take (i + 1) c) ≤ room_of (upto k es) (take (i + 1) c)
back_rise L lv i es c h rise r k lt = omega (arith, room_take (upto (L - 1) es) c i no_lit h, room_take (upto k es) c i no_lit h, r (L - 1), r k, cond_mono k (L - 1) lv (omega arith), rise k lt)

pub back_room : (L lv i best : ℕ) (es : List Entry) (c : List Lit) → i < length c → best < L → ((k : ℕ) → k < best → room_of (upto (L - 1) es) (take i c) + 1 ≤ room_of (upto k es) (take i c)) → ((k : ℕ) → room_in (value_of (upto k es) (get_or c i no_lit)) ≡ cond (nat_lt k lv) 1 0) →
    (k : ℕ) → k < best → room_of (upto (L - 1) es) (take (i + 1) c) + 1 ≤ room_of (upto k es) (take (i + 1) c)
back_room L lv i best es c h b room r k lt = omega (arith, room_take (upto (L - 1) es) c i no_lit h, room_take (upto k es) c i no_lit h, r (L - 1), r k, cond_mono k (L - 1) lv (omega arith), room k lt)

pub back_more : (L lv i : ℕ) (es : List Entry) (c : List Lit) → i < length c → lv < L → ((k : ℕ) → k < L → room_of (upto (L - 1) es) (take i c) ≤ room_of (upto k es) (take i c)) → ((k : ℕ) → room_in (value_of (upto k es) (get_or c i no_lit)) ≡ cond (nat_lt k lv) 1 0) →
    (k : ℕ) → k < lv → room_of (upto (L - 1) es) (take (i + 1) c) + 1 ≤ room_of (upto k es) (take (i + 1) c)
back_more L lv i es c h b rise r k lt = omega (arith, room_take (upto (L - 1) es) c i no_lit h, room_take (upto k es) c i no_lit h, r (L - 1), r k, lt_false (L - 1) lv (omega arith), lt_true k lv lt, rise k (omega arith))
