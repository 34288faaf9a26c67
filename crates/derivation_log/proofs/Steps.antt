-- Lemmas on logs.
use Rattle.std.proofs.Common.{◌≡◌, ℕ, ◌+◌, ◌-◌, ◌<◌, ◌≤◌, true, false, List, [], ◌∷◌, ◌++◌, length, refl, ap, sym, ◌∙◌, rules, arith, cond, inl, inr, subst, zero, suc, Some, map, take, drop, append_assoc, length-drop, get_or}
use Rattle.std.proofs.lemmas.List.{take-append-drop, take-append-le, drop-append-le, length-take-le}
use Rattle.std.specs.Prelude.{slice_get}
use Rattle.std.proofs.lemmas.Option.{slice_get_past}
use Rattle.std.specs.List.{AllByRecursion}
use Rattle.std.proofs.lemmas.Bool.{cases_Bool}
use Rattle.clause_store.specs.declared.lit.Lit.{Lit}
use Rattle.clause_store.specs.Lits.{negated, resolvent, has, Includes}
use Rattle.derivation_log.specs.declared.step.Link.{Link}
use Rattle.derivation_log.specs.declared.step.Step.{Step}
use Rattle.derivation_log.specs.declared.derivations.Row.{Row}
use Rattle.derivation_log.specs.Logs.{Log, clauses_of, known_of, Comes, Follows, IsSound, is_learned, learned_of, IsNew}
use Rattle.derivation_log.specs.Rows.{steps_of}

pub clauses-steps : (cs : List (List Lit)) (rows : List Row) → length cs ≡ length rows → clauses_of (steps_of cs rows) ≡ cs
clauses-steps [] rows h = refl
clauses-steps (c ∷ cs) [] h = absurd (omega arith)
clauses-steps (c ∷ cs) (r ∷ rows) h = ap (λ (ds : List (List Lit)). c ∷ ds) (clauses-steps cs rows (omega arith))

pub steps-push : (cs : List (List Lit)) (rows : List Row) (c : List Lit) (r : Row) → length cs ≡ length rows → steps_of (cs ++ c ∷ []) (rows ++ r ∷ []) ≡ steps_of cs rows ++ record { kind = r.kind; clause = c; first = r.first; chain = r.chain } ∷ []
steps-push [] [] c r h = refl
steps-push [] (x ∷ xs) c r h = absurd (omega arith)
steps-push (d ∷ ds) [] c r h = absurd (omega arith)
steps-push (d ∷ ds) (x ∷ xs) c r h = ap (λ (ss : List Step). record { kind = x.kind; clause = d; first = x.first; chain = x.chain } ∷ ss) (steps-push ds xs c r (omega arith))

-- one more link
pub comes_more : (known : List (List Lit)) (c d o : List Lit) (links : List Link) (p : Lit) (n : ℕ) → Comes known c links d → slice_get known n ≡ Some o → has p d ≡ true → has (negated p) o ≡ true →
    Comes known c (links ++ record { pivot = p; number = n } ∷ []) (resolvent p d o)
comes_more known c d o [] p n h g a b = (o, g, subst (λ (x : List Lit). has p x ≡ true) (sym h) a, b, ap (λ (x : List Lit). resolvent p x o) h)
comes_more known c d o (l ∷ links) p n h g a b = (h.0, h.1, h.2, h.3, comes_more known (resolvent l.pivot c h.0) d o links p n h.4 g a b)

pub sound_push : (known : List (List Lit)) (steps : List Step) (s : Step) → IsSound known steps → Follows (known ++ clauses_of steps) s → IsSound known (steps ++ s ∷ [])
sound_push known [] s h f = (subst (λ (ks : List (List Lit)). Follows ks s) (search rules) f, tt)
sound_push known (x ∷ xs) s h f = (h.0, sound_push (known ++ x.clause ∷ []) xs s h.1 (subst (λ (ks : List (List Lit)). Follows ks s) (sym (append_assoc known (x.clause ∷ []) (clauses_of xs))) f))

pub new_push : (before : List (List Lit)) (steps : List Step) (s : Step) → IsNew before steps → (is_learned s.kind ≡ true → AllByRecursion (λ c. Includes s.clause c → ⊥) (before ++ learned_of steps)) → IsNew before (steps ++ s ∷ [])
new_push before [] s h f = ((λ e. subst (λ (ks : List (List Lit)). AllByRecursion (λ c. Includes s.clause c → ⊥) ks) (search rules) (f e)), tt)
new_push before (x ∷ xs) s h f =
    elim (cases_Bool (is_learned x.kind)) [
      | inl t ↦ (h.0, rw t (new_push (before ++ x.clause ∷ []) xs s (rw t at h.1) (λ e. subst (λ (ks : List (List Lit)). AllByRecursion (λ c. Includes s.clause c → ⊥) ks) (sym (append_assoc before (x.clause ∷ []) (learned_of xs))) (rw t at (f e)))))
      | inr t ↦ (h.0, rw t (new_push before xs s (rw t at h.1) (λ e. rw t at (f e))))
    ]

pub learned_push : (steps : List Step) (s : Step) → is_learned s.kind ≡ true → learned_of (steps ++ s ∷ []) ≡ learned_of steps ++ s.clause ∷ []
learned_push [] s t = rw t refl
learned_push (x ∷ xs) s t = elim (is_learned x.kind) as (λ b. cond b (x.clause ∷ learned_of (xs ++ s ∷ [])) (learned_of (xs ++ s ∷ [])) ≡ cond b (x.clause ∷ learned_of xs) (learned_of xs) ++ s.clause ∷ []) [ true ↦ ap (λ (ds : List (List Lit)). x.clause ∷ ds) (learned_push xs s t) | false ↦ learned_push xs s t ]

pub clauses_append : (xs ys : List Step) → clauses_of (xs ++ ys) ≡ clauses_of xs ++ clauses_of ys
clauses_append [] ys = refl
clauses_append (x ∷ xs) ys = ap (λ (ds : List (List Lit)). x.clause ∷ ds) (clauses_append xs ys)

-- the clauses of a longer log
pub known_front : (a b : Log) (more : List Step) → b.main ≡ a.main → b.steps ≡ a.steps ++ more → known_of b ≡ known_of a ++ clauses_of more
known_front a b more e f =
    ap (λ cs. cs ++ clauses_of b.steps) e ∙ ap (λ ss. a.main ++ clauses_of ss) f ∙ ap (λ cs. a.main ++ cs) (clauses_append a.steps more)
    ∙ sym (append_assoc a.main (clauses_of a.steps) (clauses_of more))

-- how the main list and the steps come from the whole list
pub view_known : (all : List (List Lit)) (m : ℕ) (rows : List Row) → length all ≡ m + length rows → take m all ++ clauses_of (steps_of (drop m all) rows) ≡ all
view_known all m rows h =
    ap (λ (ds : List (List Lit)). take m all ++ ds) (clauses-steps (drop m all) rows (omega (arith, length-drop m all))) ∙ take-append-drop m all

pub log_eq : {m n : List (List Lit)} {v w : ℕ} {ss ts : List Step} → m ≡ n → v ≡ w → ss ≡ ts → let a : Log = record { main = m; vars = v; steps = ss } in let b : Log = record { main = n; vars = w; steps = ts } in a ≡ b
log_eq p q r = simp (p, q, r)

pub view_push : (all : List (List Lit)) (m v : ℕ) (rows : List Row) (c : List Lit) (r : Row) → length all ≡ m + length rows →
    let a : Log = record { main = take m (all ++ c ∷ []); vars = v; steps = steps_of (drop m (all ++ c ∷ [])) (rows ++ r ∷ []) } in
    let b : Log = record { main = take m all; vars = v; steps = steps_of (drop m all) rows ++ record { kind = r.kind; clause = c; first = r.first; chain = r.chain } ∷ [] } in a ≡ b
view_push all m v rows c r h =
    let le : m ≤ length all = omega arith in
    log_eq (take-append-le m all (c ∷ []) le) refl
    (ap (λ (ds : List (List Lit)). steps_of ds (rows ++ r ∷ [])) (drop-append-le m all (c ∷ []) le) ∙ steps-push (drop m all) rows c r (omega (arith, length-drop m all)))

-- the step of a place
pub step_at : (cs : List (List Lit)) (rows : List Row) (k : ℕ) (c : List Lit) (r : Row) → k < length rows → slice_get cs k ≡ Some c → r ≡ get_or rows k r →
    let step : Step = record { kind = r.kind; clause = c; first = r.first; chain = r.chain } in slice_get (steps_of cs rows) k ≡ Some step
step_at cs [] k c r lt e f = absurd (omega arith)
step_at [] (x ∷ xs) k c r lt e f = absurd (cc)
step_at (d ∷ ds) (x ∷ xs) zero c r lt e f = let g : d ≡ c = cc in let h : x ≡ r = sym f in cc
step_at (d ∷ ds) (x ∷ xs) (suc k) c r lt e f = step_at ds xs k c r (omega arith) e f

pub kind_at : (cs : List (List Lit)) (rows : List Row) (k : ℕ) (r : Row) → length cs ≡ length rows → k < length rows → r ≡ get_or rows k r → slice_get (map (λ (s : Step). s.kind) (steps_of cs rows)) k ≡ Some r.kind
kind_at cs [] k r h lt f = absurd (omega arith)
kind_at [] (x ∷ xs) k r h lt f = absurd (omega arith)
kind_at (d ∷ ds) (x ∷ xs) zero r h lt f = ap (λ (y : Row). Some y.kind) (sym f)
kind_at (d ∷ ds) (x ∷ xs) (suc k) r h lt f = kind_at ds xs k r (omega arith) (omega arith) f

get_dropped : (m : ℕ) (all : List (List Lit)) (n : ℕ) → m ≤ n → slice_get (drop m all) (n - m) ≡ slice_get all n
get_dropped zero all n le = let e : n - 0 ≡ n = omega arith in ap (slice_get all) e
get_dropped (suc m) [] n le = slice_get_past [] (n - suc m) (omega arith) ∙ sym (slice_get_past [] n (omega arith))
get_dropped (suc m) (x ∷ xs) zero le = absurd (omega arith)
get_dropped (suc m) (x ∷ xs) (suc n) le = let e : suc n - suc m ≡ n - m = omega arith in rw e (get_dropped m xs n (omega arith))

-- what the view of a log in memory says of its numbers
pub record Stands (g : Log) (all : List (List Lit)) (m : ℕ) (rows : List Row) : Type 0 where
  pub main : length g.main ≡ m
  pub known : length (known_of g) ≡ length all
  pub steps : g.steps ≡ steps_of (drop m all) rows

pub stands : (g : Log) (all : List (List Lit)) (m v : ℕ) (rows : List Row) → length all ≡ m + length rows → (let a : Log = record { main = take m all; vars = v; steps = steps_of (drop m all) rows } in a ≡ g) → Stands g all m rows
stands g all m v rows h e = record {
  main = sym (ap (λ (x : Log). length x.main) e) ∙ length-take-le m all (omega arith);
  known = sym (ap (λ (x : Log). length (known_of x)) e) ∙ ap (λ (zs : List (List Lit)). length zs) (view_known all m rows h);
  steps = sym (ap (λ (x : Log). x.steps) e);
}

-- the step and the kind of a number
pub step_of_number : (g : Log) (all : List (List Lit)) (m : ℕ) (rows : List Row) (n : ℕ) (c : List Lit) (r : Row) → Stands g all m rows → length all ≡ m + length rows → length g.main ≤ n → n < length (known_of g) →
    slice_get all n ≡ Some c → r ≡ get_or rows (n - m) r →
    let step : Step = record { kind = r.kind; clause = c; first = r.first; chain = r.chain } in slice_get g.steps (n - length g.main) ≡ Some step
step_of_number g all m rows n c r s h lo hi e f =
    let p = s.main in let q = s.known in
    ap (λ (k : ℕ). slice_get g.steps (n - k)) s.main ∙ ap (λ (ss : List Step). slice_get ss (n - m)) s.steps
    ∙ step_at (drop m all) rows (n - m) c r (omega arith) (get_dropped m all n (omega arith) ∙ e) f

pub kind_of_number : (g : Log) (all : List (List Lit)) (m : ℕ) (rows : List Row) (n : ℕ) (r : Row) → Stands g all m rows → length all ≡ m + length rows → length g.main ≤ n → n < length (known_of g) → r ≡ get_or rows (n - m) r →
    slice_get (map (λ (s : Step). s.kind) g.steps) (n - length g.main) ≡ Some r.kind
kind_of_number g all m rows n r s h lo hi f =
    let p = s.main in let q = s.known in
    ap (λ (k : ℕ). slice_get (map (λ (s : Step). s.kind) g.steps) (n - k)) s.main ∙ ap (λ (ss : List Step). slice_get (map (λ (s : Step). s.kind) ss) (n - m)) s.steps
    ∙ kind_at (drop m all) rows (n - m) r (omega (arith, length-drop m all)) (omega arith) f
