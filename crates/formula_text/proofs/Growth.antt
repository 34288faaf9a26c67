-- Parts of two texts that are joined.
use Rattle.std.proofs.Common.{◌≡◌, ℕ, List, ◌++◌, ap, ◌∙◌, append_assoc}
use Rattle.std.specs.Prelude.{codes}
use Rattle.report_words.specs.Writing.{GrowsWithin}
use Rattle.report_words.proofs.Growth.{part_of_first, part_of_rest}
use Rattle.formula_text.specs.CanonicalText.{joined_text}

-- a part of the bracket, of the connective and of the right text
pub part_of_open : (old new left mark right : List ℕ) → GrowsWithin old new (codes "(") → GrowsWithin old new (joined_text left mark right)
part_of_open old new left mark right g =
    part_of_first old new (codes "(" ++ left ++ mark ++ right) (codes ")")
    (part_of_first old new (codes "(" ++ left ++ mark) right
    (part_of_first old new (codes "(" ++ left) mark
    (part_of_first old new (codes "(") left g)))

pub part_of_mark : (old opened between new left mark right : List ℕ) → opened ≡ old ++ codes "(" → between ≡ opened ++ left → GrowsWithin between new mark → GrowsWithin old new (joined_text left mark right)
part_of_mark old opened between new left mark right is e g =
    let written : between ≡ old ++ (codes "(" ++ left) = e ∙ ap (λ t. t ++ left) is ∙ append_assoc old (codes "(") left in
    part_of_first old new (codes "(" ++ left ++ mark ++ right) (codes ")")
    (part_of_first old new (codes "(" ++ left ++ mark) right
    (part_of_rest old between new (codes "(" ++ left) mark written g))

pub part_of_right : (old opened between marked new left mark right : List ℕ) → opened ≡ old ++ codes "(" → between ≡ opened ++ left → marked ≡ between ++ mark → GrowsWithin marked new right →
    GrowsWithin old new (joined_text left mark right)
part_of_right old opened between marked new left mark right is e f g =
    let written : marked ≡ old ++ (codes "(" ++ left ++ mark) =
    f ∙ ap (λ t. t ++ mark) (e ∙ ap (λ t. t ++ left) is ∙ append_assoc old (codes "(") left) ∙ append_assoc old (codes "(" ++ left) mark in
    part_of_first old new (codes "(" ++ left ++ mark ++ right) (codes ")")
    (part_of_rest old marked new (codes "(" ++ left ++ mark) right written g)
