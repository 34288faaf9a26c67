-- What claims assume, said of what is due in place of its frame.
use Rattle.std.proofs.Common.{◌≡◌, ℕ, zero, suc, ◌-◌, ◌<◌, ◌≤◌, List, [], ◌∷◌, ◌++◌, length, map, refl, sym, ap, ◌∙◌, subst, arith}
use Rattle.std.specs.Prelude.{slice_index, slice_index_or}
use Rattle.std.proofs.lemmas.List.{length-map}
use Rattle.clause_store.specs.declared.lit.Lit.{Lit}
use Rattle.clause_store.specs.Lits.{positive_lit, negative_lit, negated}
use Rattle.agent_copies.specs.declared.copy.AgentCopy.{AgentCopy}
use Rattle.agent_copies.specs.Copy.{CopyDue}
use Rattle.aggregators.specs.Levels.{FitLevels}
use Rattle.merge_encoding.specs.MainDues.{MainDue}
use Rattle.merge_encoding.specs.Frames.{copy_of, copy_in}
use Rattle.merge_encoding.specs.Claims.{Assertion, NoModelOfConstraint, NoModelOfBase, NoNearer, NoBetter, NoBreaker, NoModelWith}
use Rattle.merge_encoding.specs.Assumptions.{signed, each_at_most, better_lits, assumed, IsProper}

abbrev pub no_copy : CopyDue
no_copy = record { clauses = []; vars = 0; own = []; root = 0; away = [] }

abbrev pub copy_at : MainDue → ℕ → CopyDue
copy_at main i = slice_index_or main.copies i no_copy

abbrev pub all_roots : MainDue → List Lit
all_roots main = positive_lit main.constraint ∷ map (λ (c : CopyDue). positive_lit c.root) main.copies

abbrev pub assumed_of : MainDue → Assertion → List Lit
assumed_of main NoModelOfConstraint = positive_lit main.constraint ∷ []
assumed_of main (NoModelOfBase i) = positive_lit (copy_at main i).root ∷ []
assumed_of main (NoNearer i v k) = signed main.shared v ++ (positive_lit (copy_at main i).root ∷ negative_lit (slice_index (copy_at main i).away (k - 1)) ∷ [])
assumed_of main (NoBetter j values) = all_roots main ++ better_lits j main.levels values
assumed_of main (NoBreaker q values) = all_roots main ++ (each_at_most main.levels values ++ negative_lit (slice_index main.asks q) ∷ [])
assumed_of main (NoModelWith values prefix) = all_roots main ++ (each_at_most main.levels values ++ signed main.shared prefix)

abbrev pub IsProperOf : MainDue → ℕ → Assertion → Type 0
IsProperOf main n NoModelOfConstraint = Unit {0}
IsProperOf main n (NoModelOfBase i) = i < length main.copies
IsProperOf main n (NoNearer i v k) = (i < length main.copies) × (length v ≡ n) × (1 ≤ k) × (k ≤ length (copy_at main i).away)
IsProperOf main n (NoBetter j values) = (j < length main.levels) × FitLevels values main.levels × (1 ≤ slice_index values j)
IsProperOf main n (NoBreaker q values) = (q < length main.asks) × FitLevels values main.levels
IsProperOf main n (NoModelWith values prefix) = FitLevels values main.levels × (length prefix ≤ n)

copy_same_at : (cs : List CopyDue) (i : ℕ) → copy_in (map copy_of cs) i ≡ copy_of (slice_index_or cs i no_copy)
copy_same_at [] zero = refl
copy_same_at [] (suc i) = refl
copy_same_at (c ∷ cs) zero = refl
copy_same_at (c ∷ cs) (suc i) = copy_same_at cs i

roots_same : (cs : List CopyDue) → map (λ (c : AgentCopy). c.root) (map copy_of cs) ≡ map (λ (c : CopyDue). positive_lit c.root) cs
roots_same [] = refl
roots_same (c ∷ cs) = ap (λ x. positive_lit c.root ∷ x) (roots_same cs)

ask_same : (asks : List ℕ) (q : ℕ) → slice_index_or (map positive_lit asks) q (positive_lit 0) ≡ positive_lit (slice_index asks q)
ask_same [] zero = refl
ask_same [] (suc q) = refl
ask_same (a ∷ asks) zero = refl
ask_same (a ∷ asks) (suc q) = ask_same asks q

pub assumed_same : (main : MainDue) (a : Assertion) → assumed main a ≡ assumed_of main a
assumed_same main NoModelOfConstraint = refl
assumed_same main (NoModelOfBase i) = ap (λ (c : AgentCopy). c.root ∷ []) (copy_same_at main.copies i)
assumed_same main (NoNearer i v k) = ap (λ (c : AgentCopy). signed main.shared v ++ (c.root ∷ negative_lit (slice_index c.away (k - 1)) ∷ [])) (copy_same_at main.copies i)
assumed_same main (NoBetter j values) = ap (λ x. positive_lit main.constraint ∷ x ++ better_lits j main.levels values) (roots_same main.copies)
assumed_same main (NoBreaker q values) =
    ap (λ x. positive_lit main.constraint ∷ x ++ (each_at_most main.levels values ++ negated (slice_index_or (map positive_lit main.asks) q (positive_lit 0)) ∷ [])) (roots_same main.copies)
    ∙ ap (λ x. all_roots main ++ (each_at_most main.levels values ++ negated x ∷ [])) (ask_same main.asks q)
assumed_same main (NoModelWith values prefix) = ap (λ x. positive_lit main.constraint ∷ x ++ (each_at_most main.levels values ++ signed main.shared prefix)) (roots_same main.copies)

pub proper_same : (main : MainDue) (n : ℕ) (a : Assertion) → length main.shared ≡ n → IsProper main a → IsProperOf main n a
proper_same main n NoModelOfConstraint e h = tt
proper_same main n (NoModelOfBase i) e h = omega (arith, h, length-map main.copies copy_of)
proper_same main n (NoNearer i v k) e h = (omega (arith, h.0, length-map main.copies copy_of), h.1 ∙ e, h.2, subst (λ (c : AgentCopy). k ≤ length c.away) (copy_same_at main.copies i) h.3)
proper_same main n (NoBetter j values) e h = h
proper_same main n (NoBreaker q values) e h = (omega (arith, h.0, length-map main.asks positive_lit), h.1)
proper_same main n (NoModelWith values prefix) e h = (h.0, omega (arith, h.1, e))

pub proper_in : (main : MainDue) (n : ℕ) (a : Assertion) → length main.shared ≡ n → IsProperOf main n a → IsProper main a
proper_in main n NoModelOfConstraint e h = tt
proper_in main n (NoModelOfBase i) e h = omega (arith, h, length-map main.copies copy_of)
proper_in main n (NoNearer i v k) e h = (omega (arith, h.0, length-map main.copies copy_of), h.1 ∙ sym e, h.2, subst (λ (c : AgentCopy). k ≤ length c.away) (sym (copy_same_at main.copies i)) h.3)
proper_in main n (NoBetter j values) e h = h
proper_in main n (NoBreaker q values) e h = (omega (arith, h.0, length-map main.asks positive_lit), h.1)
proper_in main n (NoModelWith values prefix) e h = (h.0, omega (arith, h.1, e))
