-- The first item of a run, and what stands after it.
use Rattle.std.proofs.Common.{◌≡◌, Bool, true, false, List, [], ◌∷◌, refl, ap, sym, subst, ◌∙◌}
use Rattle.report_lines.specs.declared.kinds.Due.{Due}
use Rattle.report_lines.specs.declared.kinds.Due.TheVariants as due
use Rattle.report_lines.specs.Items.{Item}
use Rattle.report_lines.specs.Places.{Position, DueAt}
use Rattle.report_lines.specs.Following.{LeadsTo}
use Rattle.report_lines.specs.Judged.{Run}

abbrev pub is_over : Due → Bool
is_over due.Over = true
is_over _ = false

-- after the end nothing stands
pub over_stops : (p q : Position) (xs : List Item) → p.due ≡ due.Over → Run p xs q → xs ≡ []
over_stops p q [] e r = refl
over_stops p q (x ∷ xs) e r = absurd (subst (λ (d : Due). DueAt d p x) e r.1)

-- an item that is due at p leads on, and a run leads from there to q
pub record Next (d : Due) (p q : Position) (xs : List Item) : Type 0 where
  pub item : Item
  pub rest : List Item
  pub place : Position
  pub whole : xs ≡ item ∷ rest
  pub of : DueAt d p item
  pub leads : LeadsTo p item place
  pub run : Run place rest q

not_over : (d : Due) (p q : Position) → p.due ≡ d → is_over d ≡ false → q.due ≡ due.Over → p ≡ q → ⊥
not_over d p q e n over same =
    let h : d ≡ due.Over = sym e ∙ (ap (λ (m : Position). m.due) same ∙ over) in
    let f : false ≡ true = sym n ∙ ap is_over h in
    absurd (cc)

pub next : (d : Due) (p q : Position) (xs : List Item) → p.due ≡ d → is_over d ≡ false → q.due ≡ due.Over → Run p xs q → Next d p q xs
next d p q [] e n over r = absurd (not_over d p q e n over r)
next d p q (x ∷ xs) e n over r = record { item = x; rest = xs; place = r.0; whole = refl; of = subst (λ (k : Due). DueAt k p x) e r.1; leads = r.2; run = r.3 }

-- a run's first item and the items after it are these
pub first_is : (x y : Item) (xs ys zs : List Item) → xs ≡ x ∷ ys → x ≡ y → ys ≡ zs → xs ≡ y ∷ zs
first_is x y xs ys zs e f g = cc
