-- No text is both accepted and refused.
use Rattle.std.proofs.Common.{◌≡◌, ℕ, List, [], ◌∷◌, ◌++◌, ap, sym, subst, ◌∙◌}
use Rattle.problem_reading.specs.declared.said.Said.{Said}
use Rattle.problem_reading.proofs.OneSaid.{one_said}
use Rattle.report_lines.specs.declared.kinds.Due.{Due}
use Rattle.report_lines.specs.declared.kinds.Due.TheVariants as due
use Rattle.report_lines.specs.declared.kinds.Kind.{Kind}
use Rattle.report_lines.specs.declared.kinds.RefusedKind.{RefusedKind}
use Rattle.report_lines.specs.Items.{Item, ProblemLine}
use Rattle.report_lines.specs.Places.{Position, start, DueAt}
use Rattle.report_lines.specs.Following.{LeadsTo, Fails, after_said}
use Rattle.report_lines.specs.Judged.{IsRight, IsWrong, absent, faulty, AreRight, IsWrongNext, unended, after_end, wrong_line, IsFirstWrong, IsAccepted}
use Rattle.report_lines.proofs.OneItem.{one_item}

leads_same : (p : Position) (x : Item) (q r : Position) → LeadsTo p x q → LeadsTo p x r → q ≡ r
leads_same p (ProblemLine line) q r h k = h.2 ∙ (ap (λ (s : Said). after_said p s) (one_said p.draft line h.0 k.0 h.1.0 k.1.0) ∙ sym k.2)
leads_same p x q r h k = h.1 ∙ sym k.1

leads_fails : (p : Position) (x : Item) (q : Position) → LeadsTo p x q → Fails p x → ⊥
leads_fails p (ProblemLine line) q h f = f h.0 h.1
leads_fails p x q h f = absurd (cc)

pub right_same : (p : Position) (line : List ℕ) (q r : Position) → IsRight p line q → IsRight p line r → q ≡ r
right_same p line q r h k =
    let same : k.item ≡ h.item = one_item p.due p k.item h.item k.of h.of (sym k.words ∙ h.words) in
    leads_same p h.item q r h.leads (subst (λ (x : Item). LeadsTo p x r) same k.leads)

pub both : (p : Position) (line : List ℕ) (q : Position) (k : RefusedKind) → IsRight p line q → IsWrong p line k → ⊥
both p line q k h (absent none e) = none h.item h.of h.words
both p line q k h (faulty x d w f e) =
    let same : x ≡ h.item = one_item p.due p x h.item d h.of (sym w ∙ h.words) in
    leads_fails p h.item q h.leads (subst (λ (y : Item). Fails p y) same f)

pub over_none : (p : Position) (line : List ℕ) (q : Position) → p.due ≡ due.Over → IsRight p line q → ⊥
over_none p line q e h = subst (λ (d : Due). DueAt d p h.item) e h.of

at_end : (q : Position) (k : RefusedKind) (from : List (List ℕ)) → q.due ≡ due.Over → from ≡ [] ∷ [] → IsWrongNext q k from → ⊥
at_end q k _ over e (unended piece h f) = h over (cc)
at_end q k _ over e (after_end line next more h f) = cc
at_end q k _ over e (wrong_line line next more h f) = cc

one_piece : (piece l : List ℕ) (ls : List (List ℕ)) → piece ∷ [] ≡ l ∷ (ls ++ [] ∷ []) → ⊥
one_piece piece l [] e = cc
one_piece piece l (m ∷ ms) e = cc

next_right : (p q : Position) (k : RefusedKind) (l : List ℕ) (ls from : List (List ℕ)) → IsRight p l q → from ≡ l ∷ (ls ++ [] ∷ []) → IsWrongNext p k from → ⊥
next_right p q k l ls _ h e (unended piece u f) = one_piece piece l ls e
next_right p q k l ls _ h e (after_end line next more over f) = over_none p l q over h
next_right p q k l ls _ h e (wrong_line line next more over f) = let same : line ≡ l = cc in both p line q k (subst (λ (v : List ℕ). IsRight p v q) (sym same) h) f

excludes : (p q r : Position) (ls ms from : List (List ℕ)) (k : RefusedKind) → AreRight p ls q → q.due ≡ due.Over → AreRight p ms r → IsWrongNext r k from → ls ++ [] ∷ [] ≡ ms ++ from → ⊥
excludes p q r [] [] from k a over b w e = at_end r k from (subst (λ (m : Position). m.due ≡ due.Over) (sym a ∙ b) over) (sym e) w
excludes p q r [] (m ∷ ms) from k a over b w e = over_none p m b.0 (subst (λ (n : Position). n.due ≡ due.Over) (sym a) over) b.1
excludes p q r (l ∷ ls) [] from k a over b w e = next_right p a.0 k l ls from a.1 (sym e) (subst (λ (n : Position). IsWrongNext n k from) (sym b) w)
excludes p q r (l ∷ ls) (m ∷ ms) from k a over b w e =
    let head : l ≡ m = cc in
    let tail : ls ++ [] ∷ [] ≡ ms ++ from = cc in
    let same : b.0 ≡ a.0 = right_same p l b.0 a.0 (subst (λ (v : List ℕ). IsRight p v b.0) (sym head) b.1) a.1 in
    excludes a.0 q r ls ms from k a.2 over (subst (λ (n : Position). AreRight n ms r) same b.2) w tail

pub never : (text : List ℕ) (answer : Kind) (line : ℕ) (k : RefusedKind) → IsAccepted text answer → IsFirstWrong text line k → ⊥
never text answer line k a w = excludes start a.place w.place a.lines w.before w.rest k a.right a.over w.right w.wrong (sym a.whole ∙ w.whole)
