-- Clauses that are new, one after another.
use Rattle.std.proofs.Common.{◌≡◌, ℕ, zero, suc, ◌+◌, ◌<◌, ◌≤◌, Bool, true, false, cond, not, ◌&&◌, List, [], ◌∷◌, ◌++◌, length, take, drop, Some, refl, ap, sym, ◌∙◌, append_assoc, append-nil, arith}
use Rattle.std.specs.Prelude.{slice_get, Option, unwrap_or}
use Rattle.std.specs.List.{list_any}
use Rattle.std.proofs.lemmas.Grind.{common_steps}
use Rattle.std.proofs.lemmas.List.{length-drop}
use Rattle.clause_store.specs.declared.lit.Lit.{Lit}
use Rattle.clause_store.specs.Clauses.{clause_at}
use Rattle.clause_store.proofs.Truths.{and_left}
use Rattle.derivation_log.specs.declared.step.StepKind.{StepKind}
use Rattle.derivation_log.specs.Logs.{is_learned}
use Rattle.log_lines.specs.Spending.{Noted, noted_of, includes, learned_clauses, is_new_at, are_new, earlier}
use Rattle.report_words.proofs.Numerals.{some_same}

pub and_is : (a b : Bool) → a ≡ true → (a && b) ≡ b
and_is true b e = refl
and_is false b e = absurd (cc)

pub and_not : (a b : Bool) → a ≡ false → (a && b) ≡ false
and_not true b e = absurd (cc)
and_not false b e = refl

pub get_drop : {A : Type 0} (xs : List A) (m k : ℕ) → slice_get (drop m xs) k ≡ slice_get xs (m + k)
get_drop xs zero k = let e : zero + k ≡ k = omega arith in ap (slice_get xs) (sym e)
get_drop [] (suc m) k = grind (arith, common_steps)
get_drop (x ∷ xs) (suc m) k = let e : suc m + k ≡ suc (m + k) = omega arith in get_drop xs m k ∙ ap (slice_get (x ∷ xs)) (sym e)

-- one more element
pub more_of : {A : Type 0} (xs : List A) (k : ℕ) (x : A) → slice_get xs k ≡ Some x → take (k + 1) xs ≡ take k xs ++ x ∷ []
more_of [] k x e = absurd (cc)
more_of (y ∷ xs) zero x e = ap (λ z. z ∷ []) (some_same e)
more_of (y ∷ xs) (suc k) x e = let n : suc k + 1 ≡ suc (k + 1) = omega arith in ap (λ i. take i (y ∷ xs)) n ∙ ap (λ zs. y ∷ zs) (more_of xs k x e)

pub rest_of : {A : Type 0} (xs : List A) (k : ℕ) (x : A) → slice_get xs k ≡ Some x → drop k xs ≡ x ∷ drop (k + 1) xs
rest_of [] k x e = absurd (cc)
rest_of (y ∷ xs) zero x e = ap (λ z. z ∷ xs) (some_same e)
rest_of (y ∷ xs) (suc k) x e = let n : suc k + 1 ≡ suc (k + 1) = omega arith in rest_of xs k x e ∙ ap (λ i. x ∷ drop i (y ∷ xs)) (sym n)

-- the clauses of learned steps

learned_one : (b : Bool) (s : Noted) → s.learned ≡ b → learned_clauses (s ∷ []) ≡ cond b (s.clause ∷ []) []
learned_one b s e = ap (λ (t : Bool). cond t (s.clause ∷ []) []) e

front_of : (b : Bool) (c : List Lit) (xs ys zs : List (List Lit)) → zs ≡ xs ++ ys → cond b (c ∷ zs) zs ≡ cond b (c ∷ xs) xs ++ ys
front_of true c xs ys zs e = ap (λ cs. c ∷ cs) e
front_of false c xs ys zs e = e

pub learned-append : (ns ms : List Noted) → learned_clauses (ns ++ ms) ≡ learned_clauses ns ++ learned_clauses ms
learned-append [] ms = refl
learned-append (n ∷ ns) ms = front_of n.learned n.clause (learned_clauses ns) (learned_clauses ms) (learned_clauses (ns ++ ms)) (learned-append ns ms)

-- the kind and the clause of the step of a place
pub noted_kind : (kinds : List StepKind) (cs : List (List Lit)) (k : ℕ) (s : Noted) (kind : StepKind) → slice_get (noted_of kinds cs) k ≡ Some s → slice_get kinds k ≡ Some kind → s.learned ≡ is_learned kind
noted_kind [] cs k s kind e f = absurd (cc)
noted_kind (x ∷ kinds) [] k s kind e f = absurd (cc)
noted_kind (x ∷ kinds) (d ∷ cs) zero s kind e f = ap (λ (n : Noted). n.learned) (sym (some_same e)) ∙ ap is_learned (some_same f)
noted_kind (x ∷ kinds) (d ∷ cs) (suc k) s kind e f = noted_kind kinds cs k s kind e f

pub noted_clause : (kinds : List StepKind) (cs : List (List Lit)) (k : ℕ) (s : Noted) (c : List Lit) → slice_get (noted_of kinds cs) k ≡ Some s → slice_get cs k ≡ Some c → s.clause ≡ c
noted_clause [] cs k s c e f = absurd (cc)
noted_clause (x ∷ kinds) [] k s c e f = absurd (cc)
noted_clause (x ∷ kinds) (d ∷ cs) zero s c e f = ap (λ (n : Noted). n.clause) (sym (some_same e)) ∙ some_same f
noted_clause (x ∷ kinds) (d ∷ cs) (suc k) s c e f = noted_clause kinds cs k s c e f

pub some_at : {A : Type 0} (xs : List A) (k : ℕ) → k < length xs → (x : A) × (slice_get xs k ≡ Some x)
some_at [] k h = absurd (omega arith)
some_at (x ∷ xs) zero h = (x, refl)
some_at (x ∷ xs) (suc k) h = some_at xs k (omega arith)

pub length-noted : (kinds : List StepKind) (cs : List (List Lit)) → length kinds ≡ length cs → length (noted_of kinds cs) ≡ length kinds
length-noted [] cs e = refl
length-noted (x ∷ kinds) [] e = absurd (omega arith)
length-noted (x ∷ kinds) (d ∷ cs) e = ap suc (length-noted kinds cs (omega arith))

-- the clauses of steps are those behind the main ones
pub length-steps : (kinds : List StepKind) (list : List (List Lit)) (main : ℕ) → main + length kinds ≡ length list → length (noted_of kinds (drop main list)) ≡ length kinds
length-steps kinds list main e = length-noted kinds (drop main list) (let d = length-drop main list in omega arith)

pub step_clause : (kinds : List StepKind) (list : List (List Lit)) (main k : ℕ) (s : Noted) (c : List Lit) → slice_get (noted_of kinds (drop main list)) k ≡ Some s → slice_get list (main + k) ≡ Some c → s.clause ≡ c
step_clause kinds list main k s c e f = noted_clause kinds (drop main list) k s c e (get_drop list main k ∙ f)

-- whether a step is new, by its parts

pub not_learned : (main : List (List Lit)) (ns : List Noted) (k : ℕ) (s : Noted) → s.learned ≡ false → is_new_at main ns k s ≡ false
not_learned main ns k s e = and_not s.learned (not (list_any (includes s.clause) (main ++ learned_clauses (take k ns)))) e

-- the last steps, from place k on

abbrev pub new_from : List (List Lit) → List Noted → ℕ → Bool
new_from main ns k = are_new (main ++ learned_clauses (take k ns)) (drop k ns)

learned_grown : (ns : List Noted) (k : ℕ) (s : Noted) → slice_get ns k ≡ Some s → s.learned ≡ true → learned_clauses (take (k + 1) ns) ≡ learned_clauses (take k ns) ++ s.clause ∷ []
learned_grown ns k s e l =
    ap learned_clauses (more_of ns k s e) ∙ (learned-append (take k ns) (s ∷ []) ∙ ap (λ cs. learned_clauses (take k ns) ++ cs) (learned_one true s l))

new_cut : (main : List (List Lit)) (ns : List Noted) (k : ℕ) (s : Noted) → slice_get ns k ≡ Some s →
    new_from main ns k ≡ (is_new_at main ns k s && are_new ((main ++ learned_clauses (take k ns)) ++ s.clause ∷ []) (drop (k + 1) ns))
new_cut main ns k s e = ap (are_new (main ++ learned_clauses (take k ns))) (rest_of ns k s e)

pub new_step : (main : List (List Lit)) (ns : List Noted) (k : ℕ) (s : Noted) → slice_get ns k ≡ Some s → is_new_at main ns k s ≡ true → new_from main ns (k + 1) ≡ new_from main ns k
new_step main ns k s e h =
    let learned : s.learned ≡ true = and_left s.learned (not (list_any (includes s.clause) (main ++ learned_clauses (take k ns)))) h in
    let before : (main ++ learned_clauses (take k ns)) ++ s.clause ∷ [] ≡ main ++ learned_clauses (take (k + 1) ns) =
    append_assoc main (learned_clauses (take k ns)) (s.clause ∷ []) ∙ ap (λ cs. main ++ cs) (sym (learned_grown ns k s e learned)) in
    ap (λ cs. are_new cs (drop (k + 1) ns)) (sym before)
    ∙ (sym (and_is (is_new_at main ns k s) (are_new ((main ++ learned_clauses (take k ns)) ++ s.clause ∷ []) (drop (k + 1) ns)) h)
    ∙ sym (new_cut main ns k s e))

pub new_stop : (main : List (List Lit)) (ns : List Noted) (k : ℕ) (s : Noted) → slice_get ns k ≡ Some s → is_new_at main ns k s ≡ false → new_from main ns k ≡ false
new_stop main ns k s e h = new_cut main ns k s e ∙ and_not (is_new_at main ns k s) (are_new ((main ++ learned_clauses (take k ns)) ++ s.clause ∷ []) (drop (k + 1) ns)) h

pub drop_past : {A : Type 0} (xs : List A) (k : ℕ) → length xs ≤ k → drop k xs ≡ []
drop_past xs k h = grind (arith, common_steps)

pub new_end : (main : List (List Lit)) (ns : List Noted) (k : ℕ) → length ns ≤ k → new_from main ns k ≡ true
new_end main ns k h = ap (are_new (main ++ learned_clauses (take k ns))) (drop_past ns k h)

-- the clauses before a step

step_at : (kinds : List StepKind) (list : List (List Lit)) (main k : ℕ) (kind : StepKind) → main + length kinds ≡ length list → k < length kinds → slice_get kinds k ≡ Some kind →
    (s : Noted) × (slice_get (noted_of kinds (drop main list)) k ≡ Some s) × (s.learned ≡ is_learned kind) × (s.clause ≡ clause_at list (main + k))
step_at kinds list main k kind size lt is =
    let ns = noted_of kinds (drop main list) in
    let s = some_at ns k (let n = length-steps kinds list main size in omega arith) in
    let c = some_at list (main + k) (omega arith) in
    (s.0, s.1, noted_kind kinds (drop main list) k s.0 kind s.1 is, step_clause kinds list main k s.0 c.0 s.1 c.1 ∙ ap (λ (o : Option (List Lit)). unwrap_or o []) (sym c.1))

pub earlier_none : (main : ℕ) (kinds : List StepKind) (list : List (List Lit)) → earlier main kinds list 0 ≡ take main list
earlier_none main kinds list = append-nil (take main list)

pub earlier_more : (kinds : List StepKind) (list : List (List Lit)) (main k : ℕ) (kind : StepKind) → main + length kinds ≡ length list → k < length kinds → slice_get kinds k ≡ Some kind → is_learned kind ≡ true →
    earlier main kinds list k ++ clause_at list (main + k) ∷ [] ≡ earlier main kinds list (k + 1)
earlier_more kinds list main k kind size lt is learned =
    let ns = noted_of kinds (drop main list) in
    let s = step_at kinds list main k kind size lt is in
    append_assoc (take main list) (learned_clauses (take k ns)) (clause_at list (main + k) ∷ [])
    ∙ ap (λ cs. take main list ++ cs) (ap (λ (c : List Lit). learned_clauses (take k ns) ++ c ∷ []) (sym s.3) ∙ sym (learned_grown ns k s.0 s.1 (s.2 ∙ learned)))

pub earlier_same : (kinds : List StepKind) (list : List (List Lit)) (main k : ℕ) (kind : StepKind) → main + length kinds ≡ length list → k < length kinds → slice_get kinds k ≡ Some kind → is_learned kind ≡ false →
    earlier main kinds list k ≡ earlier main kinds list (k + 1)
earlier_same kinds list main k kind size lt is other =
    let ns = noted_of kinds (drop main list) in
    let s = step_at kinds list main k kind size lt is in
    ap (λ cs. take main list ++ cs) (sym (ap learned_clauses (more_of ns k s.0 s.1) ∙ (learned-append (take k ns) (s.0 ∷ [])
    ∙ (ap (λ cs. learned_clauses (take k ns) ++ cs) (learned_one false s.0 (s.2 ∙ other)) ∙ append-nil (learned_clauses (take k ns))))))

-- whether a step is new, by what is known of its clause
pub new_is : (kinds : List StepKind) (list : List (List Lit)) (main k : ℕ) (kind : StepKind) (b : Bool) (s : Noted) → main + length kinds ≡ length list → k < length kinds → slice_get kinds k ≡ Some kind → is_learned kind ≡ true →
    list_any (includes (clause_at list (main + k))) (earlier main kinds list k) ≡ b → slice_get (noted_of kinds (drop main list)) k ≡ Some s →
    is_new_at (take main list) (noted_of kinds (drop main list)) k s ≡ not b
new_is kinds list main k kind b s size lt is learned any at =
    let ns = noted_of kinds (drop main list) in
    let t = step_at kinds list main k kind size lt is in
    let one : t.0 ≡ s = some_same (sym t.1 ∙ at) in
    let own : s.learned ≡ true = ap (λ (n : Noted). n.learned) (sym one) ∙ (t.2 ∙ learned) in
    let value : s.clause ≡ clause_at list (main + k) = ap (λ (n : Noted). n.clause) (sym one) ∙ t.3 in
    and_is s.learned (not (list_any (includes s.clause) (earlier main kinds list k))) own
    ∙ ap not (ap (λ (d : List Lit). list_any (includes d) (earlier main kinds list k)) value ∙ any)

-- one clause more
pub take_more : (list : List (List Lit)) (k : ℕ) → k < length list → take k list ++ clause_at list k ∷ [] ≡ take (k + 1) list
take_more list k lt =
    let c = some_at list k lt in
    let value : clause_at list k ≡ c.0 = ap (λ (o : Option (List Lit)). unwrap_or o []) c.1 in
    ap (λ (x : List Lit). take k list ++ x ∷ []) value ∙ sym (more_of list k c.0 c.1)
