-- Whether an item of some kind has given words.
use Rattle.std.proofs.Common.{◌≡◌, ◌≢◌, ℕ, ◌==◌, Bool, true, false, cond, ◌⊎◌, inl, inr, List, [], ◌∷◌, ◌++◌, map, length, Option, None, Some, refl, ap, sym, subst, ◌∙◌}
use Rattle.std.specs.Bool.{Decides}
use Rattle.std.specs.List.{AllByRecursion}
use Rattle.std.specs.Str.{bytes_eq}
use Rattle.std.proofs.lemmas.Slice.Eq.{bytes_eq-Decides, slice_eq-Decides}
use Rattle.std.proofs.lemmas.Bool.Decides.{Decides-eqb}
use Rattle.derivation_log.specs.StepReading.{◌>>=◌}
use Rattle.derivation_log.proofs.Readers.{bind_some, some_is, guard_is, eq_is, eq_again}
use Rattle.report_lines.specs.Items.{Item, item_words}
use Rattle.report_lines.specs.LineReading.{each_at}
use Rattle.report_lines.proofs.Elements.{each_found, each_again, eq_same}

abbrev pub Decided : Type 0 → Type 0
Decided P = P ⊎ (P → ⊥)

pub by_test : (b : Bool) (P : Type 0) → Decides b P → Decided P
by_test true P d = inl (d.0 refl)
by_test false P d = inr (λ h. let e : false ≡ true = d.1 h in cc)

pub same_word : (v w : List ℕ) → Decided (v ≡ w)
same_word v w = by_test _ (v ≡ w) (bytes_eq-Decides v w)

same_words : (vs ws : List (List ℕ)) → Decided (vs ≡ ws)
same_words vs ws = by_test _ (vs ≡ ws) (slice_eq-Decides bytes_eq-Decides vs ws _ refl)

eq_number : (n m : ℕ) → (n == m) ≡ true → n ≡ m
eq_number n m e = (Decides-eqb n m).0 e

-- an item of D has the words, or none has
abbrev pub Choice : (Item → Type 0) → List (List ℕ) → Type 0
Choice D ws = ((x : Item) × D x × (ws ≡ item_words x)) ⊎ ((x : Item) → D x → ws ≢ item_words x)

one_by : (x : Item) (ws : List (List ℕ)) → Decided (ws ≡ item_words x) → Choice (λ y. y ≡ x) ws
one_by x ws (inl h) = inl (x, refl, h)
one_by x ws (inr h) = inr (λ y e f. h (f ∙ ap item_words e))

pub one_choice : (x : Item) (ws : List (List ℕ)) → Choice (λ y. y ≡ x) ws
one_choice x ws = one_by x ws (same_words ws (item_words x))

neither : (D E : Item → Type 0) (ws : List (List ℕ)) → ((x : Item) → D x → ws ≢ item_words x) → ((x : Item) → E x → ws ≢ item_words x) → (x : Item) → D x ⊎ E x → ws ≢ item_words x
neither D E ws h k x (inl d) = h x d
neither D E ws h k x (inr e) = k x e

pub either : (D E : Item → Type 0) (ws : List (List ℕ)) → Choice D ws → Choice E ws → Choice (λ x. D x ⊎ E x) ws
either D E ws (inl h) k = inl (h.0, inl h.1, h.2)
either D E ws (inr h) (inl k) = inl (k.0, inr k.1, k.2)
either D E ws (inr h) (inr k) = inr (neither D E ws h k)

pub moved : (D E : Item → Type 0) (ws : List (List ℕ)) → ((x : Item) → D x → E x) → ((x : Item) → E x → D x) → Choice D ws → Choice E ws
moved D E ws to back (inl h) = inl (h.0, to h.0 h.1, h.2)
moved D E ws to back (inr h) = inr (λ x e. h x (back x e))

-- an item of what is read
pub read_choice : {B : Type 0} (item : B → Item) (P : B → Type 0) (ws : List (List ℕ)) (r : Option B) →
    ((b : B) → r ≡ Some b → (ws ≡ item_words (item b)) × P b) → ((b : B) → P b → ws ≡ item_words (item b) → r ≡ Some b) →
    Choice (λ x. (b : B) × (x ≡ item b) × P b) ws
read_choice item P ws (Some b) found again = let f = found b refl in inl (item b, (b, refl, f.1), f.0)
read_choice {B = B} item P ws None found again = inr (λ x d e. let f : None ≡ Some d.0 = again d.0 d.2 (e ∙ ap item_words d.1) in cc)

-- so many elements
abbrev counted : {B : Type 0} → ℕ → Option (List B) → Option (List B)
counted count r = r >>= λ bs. cond (length bs == count) (Some bs) None

module _ {B : Type 0} (f : List ℕ → Option B) where
  -- a word, and then so many elements
  abbrev pub row_at : List ℕ → ℕ → List (List ℕ) → Option (List B)
  row_at first count [] = None
  row_at first count (w ∷ ws) = cond (bytes_eq w first) (counted count (each_at f ws)) None

  -- these words, and then one more
  abbrev last_at : List (List ℕ) → List (List ℕ) → Option B
  last_at [] [] = None
  last_at [] (w ∷ []) = f w
  last_at [] (w ∷ v ∷ ws) = None
  last_at (v ∷ vs) [] = None
  last_at (v ∷ vs) (w ∷ ws) = cond (bytes_eq w v) (last_at vs ws) None

  module _ (spell : B → List ℕ) (P : B → Type 0) (found : (w : List ℕ) (b : B) → f w ≡ Some b → (w ≡ spell b) × P b) (again : (b : B) → P b → f (spell b) ≡ Some b) where
    cons_is : (v w : List ℕ) (vs ws : List (List ℕ)) → v ≡ w → vs ≡ ws → v ∷ vs ≡ w ∷ ws
    cons_is v w vs ws e h = cc

    pub row_found : (first : List ℕ) (count : ℕ) (ws : List (List ℕ)) (bs : List B) → row_at first count ws ≡ Some bs → (ws ≡ first ∷ map spell bs) × (length bs ≡ count) × AllByRecursion P bs
    row_found first count [] bs e = absurd (cc)
    row_found first count (w ∷ ws) bs e =
        let g = guard_is (bytes_eq w first) (counted count (each_at f ws)) bs e in
        let a = bind_some (each_at f ws) (λ (cs : List B). cond (length cs == count) (Some cs) None) bs g.1 in
        let l = guard_is (length a.0 == count) (Some a.0) bs a.2 in
        let same : a.0 ≡ bs = some_is a.0 bs l.1 in
        let h = each_found f spell P found ws a.0 a.1 in
        subst (λ (cs : List B). (w ∷ ws ≡ first ∷ map spell cs) × (length cs ≡ count) × AllByRecursion P cs) same
        (cons_is w first ws (map spell a.0) (eq_is w first g.0) h.0, eq_number (length a.0) count l.0, h.1)

    pub row_again : (first : List ℕ) (count : ℕ) (bs : List B) → length bs ≡ count → AllByRecursion P bs → row_at first count (first ∷ map spell bs) ≡ Some bs
    row_again first count bs l h = rw (eq_again first, each_again f spell P again bs h, eq_same (length bs) count l) refl

    pub row_choice : (item : List B → Item) (first : List ℕ) (count : ℕ) → ((bs : List B) → item_words (item bs) ≡ first ∷ map spell bs) → (ws : List (List ℕ)) →
        Choice (λ x. (bs : List B) × (x ≡ item bs) × (length bs ≡ count) × AllByRecursion P bs) ws
    row_choice item first count words ws = moved _ _ ws (λ x d. (d.0, d.1, d.2.0, d.2.1)) (λ x d. (d.0, d.1, (d.2, d.3))) (read_choice item (λ bs. (length bs ≡ count) × AllByRecursion P bs) ws (row_at first count ws)
        (λ bs e. let h = row_found first count ws bs e in (h.0 ∙ sym (words bs), (h.1, h.2)))
        (λ bs h e. ap (row_at first count) (e ∙ words bs) ∙ row_again first count bs h.0 h.1))

    last_found : (front ws : List (List ℕ)) (b : B) → last_at front ws ≡ Some b → (ws ≡ front ++ spell b ∷ []) × P b
    last_found [] [] b e = absurd (cc)
    last_found [] (w ∷ []) b e = let h = found w b e in (cons_is w (spell b) [] [] h.0 refl, h.1)
    last_found [] (w ∷ v ∷ ws) b e = absurd (cc)
    last_found (v ∷ vs) [] b e = absurd (cc)
    last_found (v ∷ vs) (w ∷ ws) b e =
        let g = guard_is (bytes_eq w v) (last_at vs ws) b e in
        let h = last_found vs ws b g.1 in
        (cons_is w v ws (vs ++ spell b ∷ []) (eq_is w v g.0) h.0, h.1)

    last_again : (front : List (List ℕ)) (b : B) → P b → last_at front (front ++ spell b ∷ []) ≡ Some b
    last_again [] b h = again b h
    last_again (v ∷ vs) b h = rw (eq_again v) (last_again vs b h)

    pub last_choice : (item : B → Item) (front : List (List ℕ)) → ((b : B) → item_words (item b) ≡ front ++ spell b ∷ []) → (ws : List (List ℕ)) →
        Choice (λ x. (b : B) × (x ≡ item b) × P b) ws
    last_choice item front words ws = read_choice item P ws (last_at front ws)
        (λ b e. let h = last_found front ws b e in (h.0 ∙ sym (words b), h.1))
        (λ b h e. ap (last_at front) (e ∙ words b) ∙ last_again front b h)
