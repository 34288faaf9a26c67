-- What is assumed of better values at a level reads the values up to that level alone.
use Rattle.std.proofs.Common.{◌≡◌, ℕ, zero, suc, List, [], ◌∷◌, ◌++◌, take, refl, ap, ◌∙◌}
use Rattle.merge_encoding.specs.declared.frame.Frame.{Frame}
use Rattle.merge_encoding.specs.Frames.{roots_in}
use Rattle.merge_encoding.specs.Claims.{NoBetter}
use Rattle.merge_encoding.specs.Assumptions.{at_most_lits, better_lits, assumed_in}

lits_before : (j : ℕ) (ls : List (List ℕ)) (values others : List ℕ) → take (suc j) values ≡ take (suc j) others → better_lits j ls values ≡ better_lits j ls others
lits_before j [] values others e = refl
lits_before j (l ∷ ls) [] [] e = refl
lits_before j (l ∷ ls) [] (o ∷ others) e = absurd (cc)
lits_before j (l ∷ ls) (x ∷ values) [] e = absurd (cc)
lits_before zero (l ∷ ls) (x ∷ values) (o ∷ others) e = let same : x ≡ o = cc in ap (λ (y : ℕ). better_lits zero (l ∷ ls) (y ∷ values)) same
lits_before (suc j) (l ∷ ls) (x ∷ values) (o ∷ others) e =
    let same : x ≡ o = cc in
    let rest : take (suc j) values ≡ take (suc j) others = cc in
    ap (λ (y : ℕ). at_most_lits l y ++ better_lits j ls values) same ∙ ap (λ ms. at_most_lits l o ++ ms) (lits_before j ls values others rest)

pub assumed_before : (f : Frame) (j : ℕ) (values others : List ℕ) → take (suc j) values ≡ take (suc j) others → assumed_in f (NoBetter j values) ≡ assumed_in f (NoBetter j others)
assumed_before f j values others e = ap (λ ms. roots_in f ++ ms) (lits_before j f.levels values others e)
