-- An accepted text is the lines of items.
use Rattle.std.proofs.Common.{◌≡◌, ℕ, List, [], ◌∷◌, ◌++◌, map, refl, ap, ◌∙◌}
use Rattle.report_words.proofs.Spelling.{line_at}
use Rattle.report_lines.specs.declared.kinds.Kind.{Kind}
use Rattle.report_lines.specs.Items.{Item, item_words, item_line}
use Rattle.report_lines.specs.Places.{Position, start}
use Rattle.report_lines.specs.Judged.{IsRight, AreRight, IsAccepted, pieces_of, Run, EndsBy}
use Rattle.derivation_log.proofs.Readers.{cons_is}

pub lines_are : (p q : Position) (ls : List (List ℕ)) → AreRight p ls q → (xs : List Item) × (ls ≡ map item_line xs) × Run p xs q
lines_are p q [] e = ([], refl, e)
lines_are p q (l ∷ ls) a =
    let r = lines_are a.0 q ls a.2 in
    let h : IsRight p l a.0 = a.1 in
    let line : l ≡ item_line h.item = line_at l (item_words h.item) h.words in
    (h.item ∷ r.0, cons_is l (item_line h.item) ls (map item_line r.0) line r.1, (a.0, h.of, h.leads, r.2))

pub items_are : (text : List ℕ) (k : Kind) → IsAccepted text k → (xs : List Item) × (pieces_of text ≡ map item_line xs ++ [] ∷ []) × EndsBy xs k
items_are text k a =
    let r = lines_are start a.place a.lines a.right in
    (r.0, a.whole ∙ ap (λ (x : List (List ℕ)). x ++ [] ∷ []) r.1, record { place = a.place; run = r.2; over = a.over; answer = a.answer })
