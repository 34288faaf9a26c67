-- Runs of items, and the texts of runs.
use Rattle.std.proofs.Common.{List, [], ◌∷◌, ◌++◌, map, sym, subst}
use Rattle.std.specs.List.{AllByRecursion}
use Rattle.report_lines.specs.declared.kinds.Kind.{Kind}
use Rattle.report_lines.specs.Items.{Item, item_line}
use Rattle.report_lines.specs.Places.{Position, start}
use Rattle.report_lines.specs.Judged.{IsRight, AreRight, Run, EndsBy, IsAccepted}
use Rattle.report_lines.specs.Parts.{items_text}
use Rattle.report_text.proofs.WrittenText.{IsPlain, pieces_are}

pub run_append : (p m q : Position) (xs ys : List Item) → Run p xs m → Run m ys q → Run p (xs ++ ys) q
run_append p m q [] ys r s = subst (λ (n : Position). Run n ys q) (sym r) s
run_append p m q (x ∷ xs) ys r s = (r.0, r.1, r.2, run_append r.0 m q xs ys r.3 s)

lines_right : (p q : Position) (xs : List Item) → AllByRecursion IsPlain xs → Run p xs q → AreRight p (map item_line xs) q
lines_right p q [] h r = r
lines_right p q (x ∷ xs) h r =
    let k : IsPlain x = h.0 in
    let one : IsRight p (item_line x) r.0 = record { item = x; of = r.1; words = k.words; leads = r.2 } in
    (r.0, one, lines_right r.0 q xs h.1 r.3)

-- the text of the items of a whole report is accepted
pub written_items : (xs : List Item) (answer : Kind) → AllByRecursion IsPlain xs → EndsBy xs answer → IsAccepted (items_text xs) answer
written_items xs answer h e = record { lines = map item_line xs; place = e.place; whole = pieces_are xs h; right = lines_right start e.place xs h e.run; over = e.over; answer = e.answer }
