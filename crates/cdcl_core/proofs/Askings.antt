-- What decisions and going back leave of the assumptions.
use Rattle.std.proofs.Common.{◌≡◌, ◌≢◌, ℕ, ◌+◌, ◌<◌, ◌≤◌, Bool, true, false, List, [], ◌∷◌, refl, ap, sym, ◌∙◌, arith, eqb, inl, inr, subst, Some, None, Option, get_or}
use Rattle.std.specs.Prelude.{nat_le, All, Contains, length}
use Rattle.std.proofs.Math.Bool.{beq}
use Rattle.std.proofs.lemmas.List.{get_or_default}
use Rattle.std.proofs.lemmas.Bool.{cases_lt, cases_eq}
use Rattle.clause_store.specs.declared.lit.Lit.{Lit}
use Rattle.watch_lists.specs.declared.entry.Entry.{Entry}
use Rattle.watch_lists.specs.Trace.{Trace, value_of, entry_of, under, upto, AreApart, IsStacked, IsTrace}
use Rattle.watch_lists.proofs.Traces.{free_entry}
use Rattle.cdcl_core.specs.Choices.{AreTrueBefore}
use Rattle.solver_laws.specs.Ready.{DecidesOnly}
use Rattle.watch_lists.proofs.Parts.{upto_whole, upto_upto}
use Rattle.solver_laws.proofs.Rooms.{contains_has}
use Rattle.watch_lists.proofs.Scans.{contains_all}
use Rattle.solver_laws.proofs.Turns.{decides_less, decides_upto}
use Rattle.cdcl_core.specs.Asking.{IsAsking}

pub upto_value : (vars k : ℕ) (es : List Entry) (l : Lit) (b : Bool) → AreApart vars es → value_of (upto k es) l ≡ Some b → value_of es l ≡ Some b
upto_value vars k [] l b a h = h
upto_value vars k (x ∷ xs) l b a h =
    elim (cases_lt k x.level) [
      | inr g ↦ (let u : nat_le x.level k ≡ true = grind arith in rw u at h)
      | inl g ↦ (let u : nat_le x.level k ≡ false = grind arith in
          let r = upto_value vars k xs l b a.3 (rw u at h) in
          elim (cases_eq x.lit.var l.var) [
            | inl q ↦ (let n : entry_of xs l.var ≡ None = subst (λ (v : ℕ). entry_of xs v ≡ None) q a.0 in let z = sym (ap (λ (o : Option Entry). under o l.positive) n) ∙ r in absurd (cc))
            | inr q ↦ (let t : eqb x.lit.var l.var ≡ false = grind arith in rw t r)
          ])
    ]

-- literals keep their values while entries come
pub value_more : (es : List Entry) (e : Entry) (l : Lit) (b : Bool) → value_of es e.lit ≡ None → value_of es l ≡ Some b → value_of (e ∷ es) l ≡ Some b
value_more es e l b f h =
    elim (cases_eq e.lit.var l.var) [
      | inl q ↦ (let n : entry_of es l.var ≡ None = subst (λ (v : ℕ). entry_of es v ≡ None) q (free_entry (entry_of es e.lit.var) e.lit.positive f) in let z = sym (ap (λ (o : Option Entry). under o l.positive) n) ∙ h in absurd (cc))
      | inr q ↦ (let t : eqb e.lit.var l.var ≡ false = grind arith in rw t h)
    ]

value_own : (es : List Entry) (e : Entry) → value_of (e ∷ es) e.lit ≡ Some true
value_own es e = let t : eqb e.lit.var e.lit.var ≡ true = grind arith in rw t (own e.lit.positive)
  where
    own : (b : Bool) → (let x : Option Bool = Some (beq b b) in x ≡ Some true)
    own true = refl
    own false = refl

-- what is true of the first assumptions
pub true_kept : (n : ℕ) (asked : List Lit) (es fs : List Entry) → ((l : Lit) → value_of es l ≡ Some true → value_of fs l ≡ Some true) → AreTrueBefore n asked es → AreTrueBefore n asked fs
true_kept n asked es fs f a k d lt le = f (get_or asked k d) (a k d lt le)

pub true_opened : (n : ℕ) (asked : List Lit) (es : List Entry) (e : Entry) → value_of es e.lit ≡ None → AreTrueBefore n asked es → AreTrueBefore n asked (e ∷ es)
true_opened n asked es e f a = true_kept n asked es (e ∷ es) (λ x h. value_more es e x true f h) a

pub true_more : (n : ℕ) (asked : List Lit) (es : List Entry) (l : Lit) → n < length asked → get_or asked n l ≡ l → value_of es l ≡ Some true → AreTrueBefore n asked es → AreTrueBefore (n + 1) asked es
true_more n asked es l h at v a k d lt le =
    elim (cases_eq k n) [
      | inl q ↦ (let x : get_or asked k d ≡ l = ap (λ (j : ℕ). get_or asked j d) q ∙ get_or_default asked n d l h ∙ at in subst (λ (y : Lit). value_of es y ≡ Some true) (sym x) v)
      | inr q ↦ a k d (omega arith) le
    ]

-- with the assumption of a place decided
pub true_decided : (n : ℕ) (asked : List Lit) (es : List Entry) (e : Entry) → n < length asked → get_or asked n e.lit ≡ e.lit → value_of es e.lit ≡ None → AreTrueBefore n asked es → AreTrueBefore (n + 1) asked (e ∷ es)
true_decided n asked es e h at f a = true_more n asked (e ∷ es) e.lit h at (value_own es e) (true_opened n asked es e f a)

decides_raise : (asked : List Lit) (lv m n : ℕ) (es : List Entry) → IsStacked lv es → lv ≤ m → DecidesOnly asked m es → DecidesOnly asked n es
decides_raise asked lv m n [] s h d = tt
decides_raise asked lv m n (e ∷ es) s h d =
    ((λ r l. d.0 r (omega (arith, s.0))), elim s.1 [ inl x ↦ decides_raise asked x.1.0 m n es x.1.2 (omega (arith, x.1.1)) d.1 | inr i ↦ decides_raise asked lv m n es i.1 h d.1 ])

pub asking_settled : (asked : List Lit) (k : ℕ) (t t' : Trace) → IsAsking asked k t → IsTrace t → IsTrace t' → t'.level ≡ t.level → ((j : ℕ) → j < t.level → upto j t'.entries ≡ upto j t.entries) → DecidesOnly asked k t'.entries →
    ((l : Lit) → value_of t.entries l ≡ Some true → value_of t'.entries l ≡ Some true) → IsAsking asked k t'
asking_settled asked k t t' a tr tr' l u d f = record {
  le = omega (arith, a.le);
  decides = d;
  each = λ j h. elim (cases_lt j t.level) [
    | inl g ↦ subst (AreTrueBefore j asked) (sym (u j g)) (a.each j h)
    | inr g ↦ (let q : t.level ≡ j = omega (arith, a.le) in
        let old : upto j t.entries ≡ t.entries = upto_whole j t.entries (subst (λ (n : ℕ). IsStacked n t.entries) q tr.stacked) in
        let new : upto j t'.entries ≡ t'.entries = upto_whole j t'.entries (subst (λ (n : ℕ). IsStacked n t'.entries) (l ∙ q) tr'.stacked) in
        subst (AreTrueBefore j asked) (sym new) (true_kept j asked t.entries t'.entries f (subst (AreTrueBefore j asked) old (a.each j h))))
  ];
  free = λ h. (let g : k < t.level = omega arith in subst (λ (es : List Entry). All (λ (x : Lit). value_of es x ≡ Some true) asked) (sym (u k g)) (a.free g));
}

-- the first assumptions are true, as many as there are levels that they opened
pub asking_true : (asked : List Lit) (k : ℕ) (t : Trace) → IsAsking asked k t → IsTrace t → AreTrueBefore k asked t.entries
asking_true asked k t a tr = true_kept k asked (upto k t.entries) t.entries (λ l h. upto_value t.vars k t.entries l true tr.apart h) (a.each k (omega arith))

-- the same after a literal was decided
pub place_freed : (n : ℕ) (asked : List Lit) (t t' : Trace) (l : Lit) → value_of t.entries l ≡ None → AreTrueBefore n asked t.entries →
    (let u : Trace = record { vars = t.vars; level = t.level + 1; entries = record { lit = l; level = t.level + 1; reason = None } ∷ t.entries } in t' ≡ u) → AreTrueBefore n asked t'.entries
place_freed n asked t t' l v p e =
    let x : Entry = record { lit = l; level = t.level + 1; reason = None } in
    subst (AreTrueBefore n asked) (sym (ap (λ (u : Trace). u.entries) e)) (true_opened n asked t.entries x v p)

pub place_decided : (n : ℕ) (asked : List Lit) (t t' : Trace) (l : Lit) → n < length asked → get_or asked n l ≡ l → value_of t.entries l ≡ None → AreTrueBefore n asked t.entries →
    (let u : Trace = record { vars = t.vars; level = t.level + 1; entries = record { lit = l; level = t.level + 1; reason = None } ∷ t.entries } in t' ≡ u) → AreTrueBefore (n + 1) asked t'.entries
place_decided n asked t t' l h at v p e =
    let x : Entry = record { lit = l; level = t.level + 1; reason = None } in
    subst (AreTrueBefore (n + 1) asked) (sym (ap (λ (u : Trace). u.entries) e)) (true_decided n asked t.entries x h at v p)

-- an assumption that is not true shows that all levels were opened by assumptions
pub asking_all : (asked : List Lit) (k : ℕ) (t : Trace) (l : Lit) → IsAsking asked k t → IsTrace t → Contains asked l → value_of t.entries l ≢ Some true → k ≡ t.level
asking_all asked k t l a tr c n =
    elim (cases_lt k t.level) [
      | inl h ↦ absurd (n (upto_value t.vars k t.entries l true tr.apart (contains_all (λ (x : Lit). value_of (upto k t.entries) x ≡ Some true) asked l (a.free h) c)))
      | inr h ↦ omega (arith, a.le)
    ]

pub asking_assumed : (asked : List Lit) (k n : ℕ) (t t' : Trace) (l : Lit) → IsAsking asked k t → IsTrace t → k ≤ n → AreTrueBefore n asked t.entries → n < length asked → get_or asked n l ≡ l → value_of t.entries l ≡ None →
    (let u : Trace = record { vars = t.vars; level = t.level + 1; entries = record { lit = l; level = t.level + 1; reason = None } ∷ t.entries } in t' ≡ u) → IsAsking asked t'.level t'
asking_assumed asked k n t t' l a tr kn p h at v e =
    let c : Contains asked l = (n, h, at) in
    let k' : k ≡ t.level = asking_all asked k t l a tr c (λ g. (let z = sym v ∙ g in absurd (cc))) in
    let d : DecidesOnly asked (t.level + 1) t.entries = decides_raise asked t.level k (t.level + 1) t.entries tr.stacked (omega arith) a.decides in
    let x : Entry = record { lit = l; level = t.level + 1; reason = None } in
    let u : Trace = record { vars = t.vars; level = t.level + 1; entries = x ∷ t.entries } in
    let each : (j : ℕ) → j ≤ t.level + 1 → AreTrueBefore j asked (upto j (x ∷ t.entries)) = λ j le. elim (cases_lt t.level j) [
      | inl g ↦ (let up : nat_le (t.level + 1) j ≡ true = grind arith in
          let st : upto j (x ∷ t.entries) ≡ x ∷ t.entries = rw up refl in
          let all = true_decided n asked t.entries x h at v p in
          let j' : j ≤ n + 1 = omega arith in
          subst (AreTrueBefore j asked) (sym st) (λ i y lt le'. all i y (omega arith) le'))
      | inr g ↦ (let up : nat_le (t.level + 1) j ≡ false = grind arith in
          let st : upto j (x ∷ t.entries) ≡ upto j t.entries = rw up refl in
          subst (AreTrueBefore j asked) (sym st) (a.each j (omega arith)))
    ] in
    let r : IsAsking asked u.level u = record { le = omega arith; decides = ((λ _ _. contains_has asked l c), d); each = each; free = λ g. absurd (omega arith) } in
    subst (λ (y : Trace). IsAsking asked y.level y) (sym e) r

pub asking_freed : (asked : List Lit) (k : ℕ) (t t' : Trace) (l : Lit) → IsAsking asked k t → IsTrace t → All (λ (x : Lit). value_of t.entries x ≡ Some true) asked →
    (let u : Trace = record { vars = t.vars; level = t.level + 1; entries = record { lit = l; level = t.level + 1; reason = None } ∷ t.entries } in t' ≡ u) → IsAsking asked k t'
asking_freed asked k t t' l a tr all e =
    let d : Entry = record { lit = l; level = t.level + 1; reason = None } in
    let u : Trace = record { vars = t.vars; level = t.level + 1; entries = d ∷ t.entries } in
    let no : nat_le (t.level + 1) k ≡ false = grind (arith, a.le) in
    let st : upto k (d ∷ t.entries) ≡ upto k t.entries = rw no refl in
    let f : All (λ (x : Lit). value_of (upto k t.entries) x ≡ Some true) asked = elim (cases_lt k t.level) [
      | inl h ↦ a.free h
      | inr h ↦ (let m : t.level ≡ k = omega (arith, a.le) in subst (λ (es : List Entry). All (λ (x : Lit). value_of es x ≡ Some true) asked) (sym (upto_whole k t.entries (subst (λ (n : ℕ). IsStacked n t.entries) m tr.stacked))) all)
    ] in
    let r : IsAsking asked k u = record {
      le = omega (arith, a.le);
      decides = ((λ _ h. absurd (omega (arith, a.le))), a.decides);
      each = λ j h. (let up : nat_le (t.level + 1) j ≡ false = grind (arith, a.le) in let still : upto j (d ∷ t.entries) ≡ upto j t.entries = rw up refl in subst (AreTrueBefore j asked) (sym still) (a.each j h));
      free = λ _. subst (λ (es : List Entry). All (λ (x : Lit). value_of es x ≡ Some true) asked) (sym st) f;
    } in
    subst (IsAsking asked k) (sym e) r

pub asking_back : (asked : List Lit) (k m b : ℕ) (t t' : Trace) → IsAsking asked k t → b ≤ t.level → m ≤ k → m ≤ b → (m < b → m ≡ k) →
    (let u : Trace = record { vars = t.vars; level = b; entries = upto b t.entries } in t' ≡ u) → IsAsking asked m t'
asking_back asked k m b t t' a le mk mb same e =
    let u : Trace = record { vars = t.vars; level = b; entries = upto b t.entries } in
    let r : IsAsking asked m u = record {
      le = mb;
      decides = decides_upto asked m b t.entries (decides_less asked m k t.entries mk a.decides);
      each = λ j h. subst (AreTrueBefore j asked) (sym (upto_upto j b t.entries (omega arith))) (a.each j (omega arith));
      free = λ h. (let q = same h in let kb : k < t.level = omega arith in
          subst (λ (es : List Entry). All (λ (x : Lit). value_of es x ≡ Some true) asked) (sym (ap (λ (n : ℕ). upto n (upto b t.entries)) q ∙ upto_upto k b t.entries (omega arith))) (a.free kb));
    } in
    subst (IsAsking asked m) (sym e) r
