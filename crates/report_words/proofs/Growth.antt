-- Texts that are written piece by piece.
use Rattle.std.proofs.Common.{◌≡◌, ℕ, ◌+◌, ◌<◌, ◌≤◌, suc, List, [], ◌∷◌, ◌++◌, map, length, get_or, take, drop, sym, ap, subst, ◌∙◌, append_assoc, append-nil, arith}
use Rattle.std.specs.Prelude.{Result, Ok, Err}
use Rattle.std.specs.Result.{IsErr}
use Rattle.std.specs.List.{flat_map}
use Rattle.std.proofs.lemmas.List.Folds.{flat_map-map}
use Rattle.std.proofs.lemmas.List.{take-append-drop, take_all}
use Rattle.std.proofs.lemmas.List.Concat.{flat_map-append, flat_map-cons}
use Rattle.std.proofs.Math.Seq.{drop-cons, take-suc}
use Rattle.report_words.specs.Words.{later_text}
use Rattle.report_words.specs.Writing.{GrowsWithin, Writes}

-- a part of the first piece is written
pub part_of_first : (old new first rest : List ℕ) → GrowsWithin old new first → GrowsWithin old new (first ++ rest)
part_of_first old new first rest g = record {
  part = g.part;
  rest = g.rest ++ rest;
  grown = g.grown;
  begins = ap (λ t. t ++ rest) g.begins ∙ append_assoc g.part g.rest rest;
}

-- the first piece is written, and a part of the rest
pub part_of_rest : (old mid new first rest : List ℕ) → mid ≡ old ++ first → GrowsWithin mid new rest → GrowsWithin old new (first ++ rest)
part_of_rest old mid new first rest is g = record {
  part = first ++ g.part;
  rest = g.rest;
  grown = g.grown ∙ ap (λ t. t ++ g.part) is ∙ append_assoc old first g.part;
  begins = ap (λ t. first ++ t) g.begins ∙ sym (append_assoc first g.part g.rest);
}

-- a writer that was refused has written a part of its text
pub stopped : {T E : Type 0} (result : Result T E) (old new text : List ℕ) → IsErr result → GrowsWithin old new text → Writes result old new text
stopped (Ok x) old new text refused g = absurd (cc)
stopped (Err e) old new text refused g = g

-- the first piece is written, and the rest by a writer whose result is handed on
pub rest_written : {T E : Type 0} (result : Result T E) (old mid new first rest : List ℕ) → mid ≡ old ++ first → Writes result mid new rest → Writes result old new (first ++ rest)
rest_written (Ok x) old mid new first rest is w = w ∙ ap (λ t. t ++ rest) is ∙ append_assoc old first rest
rest_written (Err e) old mid new first rest is w = part_of_rest old mid new first rest is w

-- pieces that are written one after the other: the next one, of which a part is written
pub part_of_next : {X : Type 0} (piece : X → List ℕ) (xs : List X) (k : ℕ) (x d : X) (old mid new : List ℕ) → k < length xs → x ≡ get_or xs k d
    → mid ≡ old ++ flat_map piece (take k xs) → GrowsWithin mid new (piece x) → GrowsWithin old new (flat_map piece xs)
part_of_next piece xs k x d old mid new within is so_far g =
    let left : drop k xs ≡ x ∷ drop (suc k) xs = drop-cons xs k d within ∙ ap (λ y. y ∷ drop (suc k) xs) (sym is) in
    let whole : flat_map piece xs ≡ flat_map piece (take k xs) ++ (piece x ++ flat_map piece (drop (suc k) xs)) =
    ap (flat_map piece) (sym (take-append-drop k xs) ∙ ap (λ ys. take k xs ++ ys) left)
    ∙ flat_map-append piece (take k xs) (x ∷ drop (suc k) xs)
    ∙ ap (λ t. flat_map piece (take k xs) ++ t) (flat_map-cons piece x (drop (suc k) xs)) in
    let part = part_of_rest old mid new (flat_map piece (take k xs)) (piece x ++ flat_map piece (drop (suc k) xs)) so_far
    (part_of_first mid new (piece x) (flat_map piece (drop (suc k) xs)) g) in
    record { part = part.part; rest = part.rest; grown = part.grown; begins = whole ∙ part.begins }

-- the next piece is written whole
pub next_written : {X : Type 0} (piece : X → List ℕ) (xs : List X) (k : ℕ) (x d : X) (old mid new : List ℕ) → k < length xs → x ≡ get_or xs k d
    → mid ≡ old ++ flat_map piece (take k xs) → new ≡ mid ++ piece x → new ≡ old ++ flat_map piece (take (k + 1) xs)
next_written piece xs k x d old mid new within is so_far more =
    let next : k + 1 ≡ suc k = omega arith in
    let taken : take (k + 1) xs ≡ take k xs ++ (x ∷ []) =
    ap (λ j. take j xs) next ∙ take-suc xs k d within ∙ ap (λ y. take k xs ++ (y ∷ [])) (sym is) in
    let last : flat_map piece (x ∷ []) ≡ piece x = append-nil (piece x) in
    more ∙ ap (λ t. t ++ piece x) so_far ∙ append_assoc old (flat_map piece (take k xs)) (piece x)
    ∙ ap (λ t. old ++ t) (sym (ap (flat_map piece) taken ∙ flat_map-append piece (take k xs) (x ∷ []) ∙ ap (λ t. flat_map piece (take k xs) ++ t) last))

-- all pieces are written
pub all_written : {X : Type 0} (piece : X → List ℕ) (xs : List X) (k : ℕ) (old new : List ℕ) → length xs ≤ k
    → new ≡ old ++ flat_map piece (take k xs) → new ≡ old ++ flat_map piece xs
all_written piece xs k old new over so_far = so_far ∙ ap (λ ys. old ++ flat_map piece ys) (take_all k xs over)

-- a writer of another spelling of its text
pub same_text : {T E : Type 0} (result : Result T E) (old new text other : List ℕ) → text ≡ other → Writes result old new text → Writes result old new other
same_text result old new text other same w = subst (λ t. Writes result old new t) same w

-- words that are written one after the other, each behind a blank
pub part_of_words : {X : Type 0} (word : X → List ℕ) (xs : List X) (k : ℕ) (x d : X) (old mid new : List ℕ) → k < length xs → x ≡ get_or xs k d
    → mid ≡ old ++ flat_map (λ y. 32 ∷ word y) (take k xs) → GrowsWithin mid new (32 ∷ word x) → GrowsWithin old new (later_text (map word xs))
part_of_words word xs k x d old mid new within is so_far g =
    let part = part_of_next (λ y. 32 ∷ word y) xs k x d old mid new within is so_far g in
    record { part = part.part; rest = part.rest; grown = part.grown; begins = flat_map-map (λ w. 32 ∷ w) word xs ∙ part.begins }

pub all_words_written : {X : Type 0} (word : X → List ℕ) (xs : List X) (k : ℕ) (old new : List ℕ) → length xs ≤ k
    → new ≡ old ++ flat_map (λ y. 32 ∷ word y) (take k xs) → new ≡ old ++ later_text (map word xs)
all_words_written word xs k old new over so_far =
    all_written (λ y. 32 ∷ word y) xs k old new over so_far ∙ ap (λ t. old ++ t) (sym (flat_map-map (λ w. 32 ∷ w) word xs))
