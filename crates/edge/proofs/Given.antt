-- Reads and writes one after the other.
use Rattle.std.proofs.Common.{◌≡◌, ℕ, ◌+◌, ◌≤◌, List, ◌++◌, length, take, drop, arith, length-append, subst, sym, length-take, length-drop, ◌∙◌, ap}
use Rattle.std.specs.Prelude.{Option}
use Rattle.std.specs.Io.KnownBytes.{Appends, Consumes}
use Rattle.std.proofs.KnownBytes.{Appends-trans, Consumes-trans}
use Rattle.std.proofs.Math.Seq.{take-add}
use Rattle.std.proofs.lemmas.List.{take-append-le, take_all, take-append-drop, drop-drop}
use Rattle.edge.specs.Streams.{Gave}

pub Gave-more : (a b c : Option (List ℕ)) (r s t : ℕ) (xs ys : List ℕ) → Gave a b r s xs → Consumes b c ys → length ys + t ≡ s → Gave a c r t (xs ++ ys)
Gave-more a b c r s t xs ys gave more spent = record {
  known = Consumes-trans a b c xs ys gave.known more;
  count = omega (arith, length-append xs ys, gave.count);
}

pub Appends-more : (a b c : Option (List ℕ)) (text : List ℕ) (n m : ℕ) → Appends a b (take n text) → Appends b c (take m (drop n text)) → Appends a c (take (n + m) text)
Appends-more a b c text n m first second =
    subst (λ t. Appends a c t) (sym (take-add n m text)) (Appends-trans a b c (take n text) (take m (drop n text)) first second)

-- what was copied from a place on, and what is left behind it
pub copied_is_front : (bytes into : List ℕ) (at n : ℕ) → at + n ≤ length bytes → drop at bytes ≡ take n (take n (drop at bytes) ++ drop n into) ++ drop (at + n) bytes
copied_is_front bytes into at n le =
    let long : length (take n (drop at bytes)) ≡ n = simp (length-take, length-drop) (omega arith) in
    let front : take n (take n (drop at bytes) ++ drop n into) ≡ take n (drop at bytes) =
    take-append-le n (take n (drop at bytes)) (drop n into) (omega arith) ∙ take_all n (take n (drop at bytes)) (omega arith) in
    sym (take-append-drop n (drop at bytes))
    ∙ ap (λ (l : List ℕ). l ++ drop n (drop at bytes)) (sym front)
    ∙ ap (λ (l : List ℕ). take n (take n (drop at bytes) ++ drop n into) ++ l) (drop-drop n at bytes)
