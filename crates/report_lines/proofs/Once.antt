-- A text has one first wrong line and kind at most.
use Rattle.std.proofs.Common.{◌≡◌, ℕ, ◌+◌, List, [], ◌∷◌, ◌++◌, length, refl, ap, sym, subst, ◌∙◌, suc}
use Rattle.report_lines.specs.declared.kinds.RefusedKind.{RefusedKind}
use Rattle.report_lines.specs.Places.{Position, start}
use Rattle.report_lines.specs.Holding.{kind_of}
use Rattle.report_lines.specs.Judged.{IsRight, IsWrong, absent, faulty, AreRight, IsWrongNext, unended, after_end, wrong_line, IsFirstWrong}
use Rattle.report_lines.proofs.OneItem.{one_item}
use Rattle.report_lines.proofs.NeverBoth.{both, over_none, right_same}

wrong_same : (p : Position) (line : List ℕ) (k j : RefusedKind) → IsWrong p line k → IsWrong p line j → k ≡ j
wrong_same p line k j (absent a e) (absent b f) = e ∙ sym f
wrong_same p line k j (absent a e) (faulty x d w h f) = absurd (a x d w)
wrong_same p line k j (faulty x d w h f) (absent a e) = absurd (a x d w)
wrong_same p line k j (faulty x d w h f) (faulty y c v g e) = f ∙ (ap kind_of (one_item p.due p x y d c (sym w ∙ v)) ∙ sym e)

next_same : (q : Position) (k j : RefusedKind) (from also : List (List ℕ)) → from ≡ also → IsWrongNext q k from → IsWrongNext q j also → k ≡ j
next_same q k j _ _ s (unended piece u e) (unended other v f) = e ∙ sym f
next_same q k j _ _ s (unended piece u e) (after_end line next more o f) = absurd (cc)
next_same q k j _ _ s (unended piece u e) (wrong_line line next more o f) = absurd (cc)
next_same q k j _ _ s (after_end line next more o f) (unended piece u e) = absurd (cc)
next_same q k j _ _ s (after_end line next more o f) (after_end l n m v e) = f ∙ sym e
next_same q k j _ _ s (after_end line next more o f) (wrong_line l n m v e) = absurd (v o)
next_same q k j _ _ s (wrong_line line next more o f) (unended piece u e) = absurd (cc)
next_same q k j _ _ s (wrong_line line next more o f) (after_end l n m v e) = absurd (o v)
next_same q k j _ _ s (wrong_line line next more o f) (wrong_line l n m v e) = let same : line ≡ l = cc in wrong_same q l k j (subst (λ (x : List ℕ). IsWrong q x k) same f) e

wrong_some : (q : Position) (k : RefusedKind) (from : List (List ℕ)) → IsWrongNext q k from → from ≡ [] → ⊥
wrong_some q k _ (unended piece u e) f = cc
wrong_some q k _ (after_end line next more o e) f = cc
wrong_some q k _ (wrong_line line next more o e) f = cc

one_more : (piece l : List ℕ) (ls from : List (List ℕ)) → piece ∷ [] ≡ l ∷ (ls ++ from) → (from ≡ [] → ⊥) → ⊥
one_more piece l [] from e h = h (cc)
one_more piece l (m ∷ ms) from e h = cc

stops_here : (p q r : Position) (k j : RefusedKind) (l : List ℕ) (ls from also : List (List ℕ)) → IsRight p l q → IsWrongNext r k from → also ≡ l ∷ (ls ++ from) → IsWrongNext p j also → ⊥
stops_here p q r k j l ls from _ h w e (unended piece u f) = one_more piece l ls from e (wrong_some r k from w)
stops_here p q r k j l ls from _ h w e (after_end line next more o f) = over_none p l q o h
stops_here p q r k j l ls from _ h w e (wrong_line line next more o f) = let same : line ≡ l = cc in both p l q j h (subst (λ (x : List ℕ). IsWrong p x j) same f)

meets : (p q r : Position) (ls ms from also : List (List ℕ)) (k j : RefusedKind) → AreRight p ls q → IsWrongNext q k from → AreRight p ms r → IsWrongNext r j also → ls ++ from ≡ ms ++ also → (length ls ≡ length ms) × (k ≡ j)
meets p q r [] [] from also k j a w b v e = (refl, next_same r k j from also e (subst (λ (m : Position). IsWrongNext m k from) (sym a ∙ b) w) v)
meets p q r [] (m ∷ ms) from also k j a w b v e = absurd (stops_here p b.0 r j k m ms also from b.1 v e (subst (λ (n : Position). IsWrongNext n k from) (sym a) w))
meets p q r (l ∷ ls) [] from also k j a w b v e = absurd (stops_here p a.0 q k j l ls from also a.1 w (sym e) (subst (λ (n : Position). IsWrongNext n j also) (sym b) v))
meets p q r (l ∷ ls) (m ∷ ms) from also k j a w b v e =
    let head : l ≡ m = cc in
    let tail : ls ++ from ≡ ms ++ also = cc in
    let same : b.0 ≡ a.0 = right_same p l b.0 a.0 (subst (λ (x : List ℕ). IsRight p x b.0) (sym head) b.1) a.1 in
    let t = meets a.0 q r ls ms from also k j a.2 w (subst (λ (n : Position). AreRight n ms r) same b.2) v tail in
    (ap suc t.0, t.1)

pub once : (text : List ℕ) (m n : ℕ) (k j : RefusedKind) → IsFirstWrong text m k → IsFirstWrong text n j → (m ≡ n) × (k ≡ j)
once text m n k j w v =
    let t = meets start w.place v.place w.before v.before w.rest v.rest k j w.right w.wrong v.right v.wrong (sym w.whole ∙ v.whole) in
    (w.number ∙ (ap (λ (i : ℕ). i + 1) t.0 ∙ sym v.number), t.1)
