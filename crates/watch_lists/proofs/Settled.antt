-- Small clauses that hold, and go on to hold while the trail grows.
use Rattle.std.proofs.Common.{◌≡◌, ℕ, ◌-◌, ◌<◌, ◌≤◌, true, List, [], ◌∷◌, ◌++◌, length, sym, ap, ◌∙◌, arith, get_or, Some, inl, inr, subst, drop, min, length-append}
use Rattle.std.proofs.lemmas.Bool.{cases_lt}
use Rattle.std.proofs.lemmas.List.{get_or-drop, length-drop, get_or_append_left, get_or_default}
use Rattle.std.specs.Prelude.{All, Contains, ◌⊎◌}
use Rattle.clause_store.specs.declared.lit.Lit.{Lit}
use Rattle.clause_store.specs.Clauses.{clause_at}
use Rattle.watch_lists.specs.declared.entry.Entry.{Entry}
use Rattle.watch_lists.specs.Trace.{Attached, Place, value_of, room_of, oldest, places_of, Extends, Grows, StandIn, IsComplete, attached_of, AreApart}
use Rattle.watch_lists.specs.Watches.{HoldFirst, AreSettled, IsKept, IsHeld, IsNoted, HasSmall, clause_of}
use Rattle.watch_lists.proofs.Scans.{complete_all}
use Rattle.watch_lists.proofs.Places.{value_places, oldest_prefix, prefix_length}
use Rattle.watch_lists.proofs.Guards.{oldest_all, oldest_part, value_up, grows_value}
use Rattle.watch_lists.proofs.Rests.{room_short, stand_clause, complete_at}

-- what is true stays true, so what holds goes on to hold
pub hold_up : (known : List (List Lit)) (small : List ℕ) (settled : ℕ) (es fs : List Entry) →
    HoldFirst known small settled es →
    ((l : Lit) → value_of es l ≡ Some true → value_of fs l ≡ Some true) →
    HoldFirst known small settled fs
hold_up known small settled es fs h up i lt two = room_short es fs
    (clause_at known (get_or small i 0)) two (h i lt two) up

pub hold_grows : (known : List (List Lit)) (small : List ℕ) (settled : ℕ) (attached : List Attached)
    (level : ℕ) (es fs : List Entry) →
    Grows attached level es fs → HoldFirst known small settled es → HoldFirst known small settled fs
hold_grows known small settled attached level es fs g h =
    hold_up known small settled es fs h (λ l v. grows_value attached level es fs l true g v)

pub hold_places : (known : List (List Lit)) (small : List ℕ) (settled : ℕ) (es fs : List Entry) →
    places_of es ≡ places_of fs →
    HoldFirst known small settled es → HoldFirst known small settled fs
hold_places known small settled es fs e h = hold_up known small settled es fs h
    (λ l v. sym (value_places es fs l e) ∙ v)

-- the clause of a number that is attached stands in both lists
same_clause : (old known : List (List Lit)) (numbers : List ℕ) (n : ℕ) →
    StandIn known (attached_of old numbers) → Contains numbers n →
    clause_at known n ≡ clause_at old n
same_clause old known numbers n s c =
    let e : get_or numbers c.0 0 ≡ n = get_or_default numbers c.0 0 n c.1 ∙ c.2 in
    ap (clause_at known) (sym e) ∙ stand_clause old known numbers s c.0 c.1 ∙ ap (clause_at old) e

pub hold_stand : (old known : List (List Lit)) (numbers small : List ℕ) (settled : ℕ)
    (es : List Entry) → StandIn known (attached_of old numbers) →
    All (λ n. Contains numbers n) small → settled ≤ length small → HoldFirst old small settled es →
    HoldFirst known small settled es
hold_stand old known numbers small settled es s of part h i lt two =
    let e = same_clause old known numbers (get_or small i 0) s (of i 0 (omega (arith, lt, part))) in
    subst (λ (c : List Lit). 2 ≤ room_of es c) (sym e)
    (h i lt (subst (λ (c : List Lit). length c < 2) e two))

-- one more small clause, perhaps
pub hold_noted : (known : List (List Lit)) (n : ℕ) (small new : List ℕ) (settled : ℕ)
    (es : List Entry) → IsNoted known n small new → settled ≤ length small →
    HoldFirst known small settled es → HoldFirst known new settled es
hold_noted known n small new settled es (inl a) part h =
    subst (λ (xs : List ℕ). HoldFirst known xs settled es) (sym a.1)
    (λ i lt two.
    let e : get_or (small ++ n ∷ []) i 0 ≡ get_or small i 0 =
    get_or_append_left small (n ∷ []) 0 i (omega (arith, lt, part)) in
    subst (λ (m : ℕ). 2 ≤ room_of es (clause_at known m)) (sym e)
    (h i lt (subst (λ (m : ℕ). length (clause_at known m) < 2) e two)))
hold_noted known n small new settled es (inr a) part h =
    subst (λ (xs : List ℕ). HoldFirst known xs settled es) (sym a.1) h

-- where all attached clauses are complete, all small ones hold
pub hold_complete : (known : List (List Lit)) (numbers small : List ℕ) (es : List Entry) →
    IsComplete (attached_of known numbers) es →
    All (λ n. Contains numbers n) small → HoldFirst known small (length small) es
hold_complete known numbers small es h of i lt two =
    let c = of i 0 lt in
    let e : get_or numbers c.0 0 ≡ get_or small i 0 =
    get_or_default numbers c.0 0 (get_or small i 0) c.1 ∙ c.2 in
    subst (λ (m : ℕ). 2 ≤ room_of es (clause_at known m)) e (complete_at known numbers es h c.0 c.1)

-- the first ones hold, and the others were gone through
pub hold_rest : (known : List (List Lit)) (small : List ℕ) (settled : ℕ) (es : List Entry) →
    HoldFirst known small settled es →
    IsComplete (attached_of known (drop settled small)) es → HoldFirst known small (length small) es
hold_rest known small settled es h rest i lt two =
    elim (cases_lt i settled) [
      | inl before ↦ h i before two
      | inr after ↦
          let e : get_or (drop settled small) (i - settled) 0 ≡ get_or small i 0 =
          get_or-drop settled small (i - settled) 0 ∙ ap (λ k. get_or small k 0) (omega arith) in
          subst (λ (m : ℕ). 2 ≤ room_of es (clause_at known m)) e
          (complete_at known (drop settled small) es rest (i - settled)
          (omega (arith, length-drop settled small, lt)))
    ]

pub hold_one : (known : List (List Lit)) (small : List ℕ) (es : List Entry) (n : ℕ) →
    HoldFirst known small (length small) es → Contains small n → length (clause_at known n) < 2 →
    2 ≤ room_of es (clause_at known n)
hold_one known small es n h c two =
    let e : get_or small c.0 0 ≡ n = get_or_default small c.0 0 n c.1 ∙ c.2 in
    subst (λ (m : ℕ). 2 ≤ room_of es (clause_at known m)) e
    (h c.0 c.1 (subst (λ (m : ℕ). length (clause_at known m) < 2) (sym e) two))

-- the small clauses hold and the others leave room
pub both_complete : (known : List (List Lit)) (numbers small : List ℕ) (attached : List Attached)
    (level : ℕ) (es fs : List Entry) → HasSmall known numbers small →
    HoldFirst known small (length small) es → Grows attached level es fs →
    ((p : ℕ) → p < length numbers → 2 ≤ length (clause_of known numbers p) →
    2 ≤ room_of fs (clause_of known numbers p)) → IsComplete (attached_of known numbers) fs
both_complete known numbers small attached level es fs s h g long =
    complete_all known numbers fs
    (λ p within.
    elim (cases_lt (length (clause_of known numbers p)) 2) [
      | inl two ↦
          hold_one known small fs (get_or numbers p 0)
          (hold_grows known small (length small) attached level es fs g h) (s p within two)
          two
      | inr many ↦ long p within many
    ])

-- what is settled holds on a trail that has what was worked off
pub settled_there : (old known : List (List Lit)) (numbers small : List ℕ) (settled base vars : ℕ)
    (newer : List Place) (f es : List Entry) → AreSettled old small settled base f →
    StandIn known (attached_of old numbers) → All (λ n. Contains numbers n) small →
    places_of es ≡ newer ++ places_of f → AreApart vars es → HoldFirst known small settled es
settled_there old known numbers small settled base vars newer f es a s of e apart =
    let part = oldest_part base es in
    hold_up known small settled (oldest base es) es
    (hold_places known small settled (oldest base f) (oldest base es)
    (sym (oldest_prefix newer base f es e a.base_part))
    (hold_stand old known numbers small settled (oldest base f) s of a.part a.hold))
    (λ l v.
    subst (λ (zs : List Entry). value_of zs l ≡ Some true) (sym part.1)
    (value_up vars part.0 (oldest base es) l true (subst (AreApart vars) part.1 apart) v))

-- after propagation over all clauses
pub settled_none : (old known : List (List Lit)) (numbers small : List ℕ)
    (settled base count held n : ℕ) (newer : List Place) (f es : List Entry) →
    AreSettled old small settled base f →
    StandIn known (attached_of old numbers) → All (λ n. Contains numbers n) small →
    places_of es ≡ newer ++ places_of f → IsComplete (attached_of known numbers) es →
    count ≡ length small → n ≡ length es → IsHeld settled count base n held →
    AreSettled known small count held es
settled_none old known numbers small settled base count held n newer f es a s of e complete ec en
    (inl h) = record {
      part = omega (arith, ec);
      base_part = omega (arith, h.1, a.base_part, prefix_length newer f es e);
      hold = subst (λ (k : ℕ). HoldFirst known small count (oldest k es)) (sym h.1)
          (subst (λ (k : ℕ). HoldFirst known small k (oldest base es)) h.0
          (hold_places known small settled (oldest base f) (oldest base es)
          (sym (oldest_prefix newer base f es e a.base_part))
          (hold_stand old known numbers small settled (oldest base f) s of a.part a.hold)));
    }
settled_none old known numbers small settled base count held n newer f es a s of e complete ec en
    (inr h) = record {
      part = omega (arith, ec);
      base_part = omega (arith, h, en);
      hold = subst (λ (zs : List Entry). HoldFirst known small count zs)
          (sym (oldest_all held es (omega (arith, h, en))))
          (subst (λ (k : ℕ). HoldFirst known small k es) (sym ec)
          (hold_complete known numbers small es complete of));
    }

-- where a clause is false, nothing changes but the list of clauses
pub settled_stand : (old known : List (List Lit)) (numbers small : List ℕ) (settled base : ℕ)
    (f : List Entry) → AreSettled old small settled base f →
    StandIn known (attached_of old numbers) → All (λ n. Contains numbers n) small →
    AreSettled known small settled base f
settled_stand old known numbers small settled base f a s of =
    record {
      part = a.part;
      base_part = a.base_part;
      hold =
          hold_stand old known numbers small settled (oldest base f) s of a.part a.hold;
    }

pub settled_undo : (known : List (List Lit)) (small : List ℕ) (settled base kept left n : ℕ)
    (f es : List Entry) → AreSettled known small settled base f →
    Extends (places_of es) (places_of f) ⊎ Extends (places_of f) (places_of es) →
    length es < length f → n ≡ length es → IsKept settled base n kept → left ≡ min base n →
    AreSettled known small kept left es
settled_undo known small settled base kept left n f es a (inr x) less en k em =
    absurd (omega (arith, less, prefix_length x.0 f es x.1))
settled_undo known small settled base kept left n f es a (inl x) less en (inl k) em =
    let same : left ≡ base = omega (arith, em, k.1) in
    let within : base ≤ length es = omega (arith, k.1, en) in
    record {
      part = omega (arith, k.0, a.part);
      base_part = omega (arith, same, within);
      hold = subst (λ (m : ℕ). HoldFirst known small kept (oldest m es)) (sym same)
          (subst (λ (m : ℕ). HoldFirst known small m (oldest base es)) (sym k.0)
          (hold_places known small settled (oldest base f) (oldest base es)
          (oldest_prefix x.0 base es f x.1 within) a.hold));
    }
settled_undo known small settled base kept left n f es a (inl x) less en (inr k) em = record {
  part = omega (arith, k);
  base_part = omega (arith, em, en);
  hold = λ i lt. absurd (omega (arith, lt, k));
}

pub settled_attach : (old known : List (List Lit)) (n : ℕ) (numbers small new : List ℕ)
    (settled base : ℕ) (f : List Entry) → AreSettled old small settled base f →
    StandIn known (attached_of old numbers) → All (λ n. Contains numbers n) small →
    IsNoted known n small new → AreSettled known new settled base f
settled_attach old known n numbers small new settled base f a s of noted = record {
  part = omega (arith, a.part, noted_length known n small new noted);
  base_part = a.base_part;
  hold = hold_noted known n small new settled (oldest base f) noted a.part
      (hold_stand old known numbers small settled (oldest base f) s of a.part a.hold);
}
  where
    noted_length : (known : List (List Lit)) (n : ℕ) (small new : List ℕ) →
        IsNoted known n small new → length small ≤ length new
    noted_length known n small new (inl a) = omega (
      arith,
      ap {B = ℕ} (λ (xs : List ℕ). length xs)
          a.1,
      length-append small (n ∷ []),
    )
    noted_length known n small new (inr a) = omega (
      arith,
      ap {B = ℕ} (λ (xs : List ℕ). length xs)
          a.1,
    )
