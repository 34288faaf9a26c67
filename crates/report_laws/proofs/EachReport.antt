-- Each text is accepted or has a first wrong line, and is accepted as of one kind.
use Rattle.std.proofs.Common.{◌≡◌, ℕ, ◌+◌, inl, inr, List, [], ◌∷◌, ◌++◌, length, eqb, refl, ap, sym, subst, ◌∙◌, append_assoc, arith}
use Rattle.std.proofs.lemmas.List.Splits.{length-slice_split}
use Rattle.report_lines.specs.declared.kinds.Due.{Due}
use Rattle.report_lines.specs.declared.kinds.Due.TheVariants as due
use Rattle.report_lines.specs.declared.kinds.Kind.{Kind}
use Rattle.report_lines.specs.declared.kinds.RefusedKind.{RefusedKind}
use Rattle.report_lines.specs.declared.kinds.RefusedKind.TheVariants as refused
use Rattle.report_lines.specs.Places.{Position, start}
use Rattle.report_lines.specs.Judged.{IsRight, AreRight, IsWrongNext, unended, after_end, wrong_line, IsAccepted, pieces_of}
use Rattle.report_lines.proofs.NeverBoth.{right_same, over_none}
use Rattle.report_laws.specs.HasVerdict.{HasVerdict}
use Rattle.report_laws.proofs.Choices.{Decided, same_word}
use Rattle.report_laws.proofs.LineVerdicts.{LineVerdict, line_verdict}

right_more : (p q r : Position) (ls : List (List ℕ)) (line : List ℕ) → AreRight p ls q → IsRight q line r → AreRight p (ls ++ line ∷ []) r
right_more p q r [] line e h = (r, subst (λ (m : Position). IsRight m line r) (sym e) h, refl)
right_more p q r (l ∷ ls) line a h = (a.0, a.1, right_more a.0 q r ls line a.2 h)

is_over : (d : Due) → Decided (d ≡ due.Over)
is_over due.Over = inl refl
is_over d = inr (λ e. cc)

is_empty : (piece : List ℕ) → Decided (piece ≡ [])
is_empty piece = same_word piece []

module _ (text : List ℕ) where
  wrong : (before rest : List (List ℕ)) (p : Position) (k : RefusedKind) → pieces_of text ≡ before ++ rest → AreRight start before p → IsWrongNext p k rest → HasVerdict text
  wrong before rest p k w r h = inr (length before + 1, k, record { before = before; rest = rest; place = p; whole = w; right = r; number = refl; wrong = h })

  at_last : (before : List (List ℕ)) (piece : List ℕ) (p : Position) → pieces_of text ≡ before ++ piece ∷ [] → AreRight start before p → Decided (p.due ≡ due.Over) → Decided (piece ≡ []) → HasVerdict text
  at_last before piece p w r (inl over) (inl e) =
      inl (p.kind, record { lines = before; place = p; whole = w ∙ ap (λ (x : List ℕ). before ++ x ∷ []) e; right = r; over = over; answer = refl })
  at_last before piece p w r (inl over) (inr some) = wrong before (piece ∷ []) p refused.Ended w r (unended piece (λ o e. some e) refl)
  at_last before piece p w r (inr not_over) e = wrong before (piece ∷ []) p refused.Ended w r (unended piece (λ o e. not_over o) refl)

  at_line : (before : List (List ℕ)) (line next : List ℕ) (more : List (List ℕ)) (p : Position) → pieces_of text ≡ before ++ line ∷ next ∷ more → AreRight start before p →
      Decided (p.due ≡ due.Over) → LineVerdict p line → ((q : Position) → IsRight p line q → HasVerdict text) → HasVerdict text
  at_line before line next more p w r (inl over) h on = wrong before (line ∷ next ∷ more) p refused.Ended w r (after_end line next more over refl)
  at_line before line next more p w r (inr not_over) (inl h) on = on h.0 h.1
  at_line before line next more p w r (inr not_over) (inr h) on = wrong before (line ∷ next ∷ more) p h.0 w r (wrong_line line next more not_over h.1)

  from : (before rest : List (List ℕ)) (p : Position) → pieces_of text ≡ before ++ rest → AreRight start before p → (rest ≡ [] → ⊥) → HasVerdict text
  from before [] p w r some = absurd (some refl)
  from before (piece ∷ []) p w r some = at_last before piece p w r (is_over p.due) (is_empty piece)
  from before (line ∷ next ∷ more) p w r some = at_line before line next more p w r (is_over p.due) (line_verdict p line)
      (λ q h. from (before ++ line ∷ []) (next ∷ more) q (w ∙ sym (append_assoc before (line ∷ []) (next ∷ more))) (right_more start p q before line r h) (λ e. cc))

  some_piece : pieces_of text ≡ [] → ⊥
  some_piece e = let l = length-slice_split (λ b. eqb b 10) text in let n : length (pieces_of text) ≡ 0 = ap length e in omega (arith, l, n)

  pub has_verdict : HasVerdict text
  has_verdict = from [] (pieces_of text) start refl refl some_piece

-- right lines that end a report lead to one place
one_place : (p q r : Position) (ls ms : List (List ℕ)) → AreRight p ls q → q.due ≡ due.Over → AreRight p ms r → r.due ≡ due.Over →
    ls ++ [] ∷ [] ≡ ms ++ [] ∷ [] → q ≡ r
one_place p q r [] [] a over b end e = sym a ∙ b
one_place p q r [] (m ∷ ms) a over b end e = absurd (over_none p m b.0 (subst (λ (n : Position). n.due ≡ due.Over) (sym a) over) b.1)
one_place p q r (l ∷ ls) [] a over b end e = absurd (over_none p l a.0 (subst (λ (n : Position). n.due ≡ due.Over) (sym b) end) a.1)
one_place p q r (l ∷ ls) (m ∷ ms) a over b end e =
    let head : l ≡ m = cc in
    let tail : ls ++ [] ∷ [] ≡ ms ++ [] ∷ [] = cc in
    let same : b.0 ≡ a.0 = right_same p l b.0 a.0 (subst (λ (v : List ℕ). IsRight p v b.0) (sym head) b.1) a.1 in
    one_place a.0 q r ls ms a.2 over (subst (λ (n : Position). AreRight n ms r) same b.2) end tail

pub one_kind : (text : List ℕ) (k l : Kind) → IsAccepted text k → IsAccepted text l → k ≡ l
one_kind text k l a b =
    a.answer ∙ ap (λ (p : Position). p.kind) (one_place start a.place b.place a.lines b.lines a.right a.over b.right b.over (sym a.whole ∙ b.whole)) ∙ sym b.answer
