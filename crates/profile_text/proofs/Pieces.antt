-- Lines and names that are written one by one.
use Rattle.std.proofs.Common.{◌≡◌, ℕ, suc, arith, ◌+◌, ◌<◌, List, [], ◌∷◌, ◌++◌, map, take, drop, zero, length, slice_get, get_or, Some, refl, sym, ap, ◌∙◌, append_assoc, append-nil}
use Rattle.std.specs.Prelude.{codes}
use Rattle.std.proofs.lemmas.List.{map-append}
use lib.Seq.{take-suc}
use Rattle.profile_text.specs.ProblemText.{lines_text, spaced_names}

-- the lines of two lists
pub lines_text-append : (xs ys : List (List ℕ)) → lines_text (xs ++ ys) ≡ lines_text xs ++ lines_text ys
lines_text-append [] ys = refl
lines_text-append (line ∷ xs) ys = ap (λ t. line ++ codes "\n" ++ t) (lines_text-append xs ys) ∙ sym (append_assoc (line ++ codes "\n") (lines_text xs) (lines_text ys))

-- up to the next place
next_take : {X : Type 0} (xs : List X) (k : ℕ) (x : X) → k < length xs → x ≡ get_or xs k x → take (k + 1) xs ≡ take k xs ++ x ∷ []
next_take xs k x within is = ap (λ j. take j xs) (let next : k + 1 ≡ suc k = omega arith in next) ∙ take-suc xs k x within ∙ ap (λ y. take k xs ++ y ∷ []) (sym is)

-- one line more is written
pub lines_step : {X : Type 0} (line : X → List ℕ) (xs : List X) (k : ℕ) (x : X) (old before after : List ℕ) → k < length xs → x ≡ get_or xs k x →
    before ≡ old ++ lines_text (map line (take k xs)) → after ≡ before ++ (line x ++ codes "\n") → after ≡ old ++ lines_text (map line (take (k + 1) xs))
lines_step line xs k x old before after within is so_far more =
    let written : lines_text (map line (take (k + 1) xs)) ≡ lines_text (map line (take k xs)) ++ (line x ++ codes "\n") =
    ap (λ ys. lines_text (map line ys)) (next_take xs k x within is)
    ∙ ap lines_text (map-append line (take k xs) (x ∷ []))
    ∙ lines_text-append (map line (take k xs)) (line x ∷ [])
    ∙ ap (λ t. lines_text (map line (take k xs)) ++ t) (append-nil (line x ++ codes "\n")) in
    more ∙ ap (λ t. t ++ (line x ++ codes "\n")) so_far ∙ append_assoc old (lines_text (map line (take k xs))) (line x ++ codes "\n") ∙ ap (λ t. old ++ t) (sym written)

-- a place of a list and what is after it
pub drop_at : {X : Type 0} (xs : List X) (k : ℕ) (x : X) → slice_get xs k ≡ Some x → drop k xs ≡ x ∷ drop (suc k) xs
drop_at [] k x h = absurd (grind arith)
drop_at (y ∷ xs) zero x h = let same : y ≡ x = cc in ap (λ z. z ∷ xs) same
drop_at (y ∷ xs) (suc k) x h = drop_at xs k x h

-- one name more is written of those that are left
pub left_step : (names : List (List ℕ)) (k : ℕ) (name before between after whole : List ℕ) → slice_get names k ≡ Some name →
    before ++ spaced_names (drop k names) ≡ whole → between ≡ before ++ codes " " → after ≡ between ++ name → after ++ spaced_names (drop (k + 1) names) ≡ whole
left_step names k name before between after whole is so_far blank more =
    let rest = spaced_names (drop (k + 1) names) in
    let next : suc k ≡ k + 1 = omega arith in
    let left : spaced_names (drop k names) ≡ codes " " ++ name ++ rest =
    ap spaced_names (drop_at names k name is) ∙ ap (λ j. codes " " ++ name ++ spaced_names (drop j names)) next in
    ap (λ t. t ++ rest) (more ∙ ap (λ t. t ++ name) blank)
    ∙ append_assoc (before ++ codes " ") name rest
    ∙ append_assoc before (codes " ") (name ++ rest)
    ∙ ap (λ t. before ++ t) (sym left)
    ∙ so_far

-- the two first lines, and the lines of two lists
pub four_parts : (start first second third fourth a b : List ℕ) (cs ds : List (List ℕ)) → start ≡ [] → first ≡ start ++ (a ++ codes "\n") →
    second ≡ first ++ (b ++ codes "\n") → third ≡ second ++ lines_text cs → fourth ≡ third ++ lines_text ds → fourth ≡ lines_text (a ∷ b ∷ (cs ++ ds))
four_parts start first second third fourth a b cs ds none one two three four =
    let begun : first ≡ a ++ codes "\n" = one ∙ ap (λ t. t ++ (a ++ codes "\n")) none in
    four ∙ ap (λ t. t ++ lines_text ds) (three ∙ ap (λ t. t ++ lines_text cs) (two ∙ ap (λ t. t ++ (b ++ codes "\n")) begun))
    ∙ append_assoc (a ++ codes "\n" ++ (b ++ codes "\n")) (lines_text cs) (lines_text ds)
    ∙ append_assoc (a ++ codes "\n") (b ++ codes "\n") (lines_text cs ++ lines_text ds)
    ∙ ap (λ t. a ++ codes "\n" ++ (b ++ codes "\n" ++ t)) (sym (lines_text-append cs ds))
