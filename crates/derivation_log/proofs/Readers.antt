-- The two laws of reading a step's words: what is read is spelled so, and what is spelled so is read.
use Rattle.std.proofs.Common.{◌≡◌, ℕ, Bool, true, false, cond, List, [], ◌∷◌, ◌++◌, map, codes, decimal, Option, None, Some, refl, ap, sym, subst, ◌∙◌, append_assoc}
use Rattle.std.specs.List.{flat_map, AllByRecursion}
use Rattle.std.specs.Str.{bytes_eq}
use Rattle.std.proofs.lemmas.Slice.Eq.{bytes_eq-Decides}
use Rattle.std.proofs.lemmas.List.Concat.{flat_map-cons}
use Rattle.report_words.specs.declared.numbers.WideLit.{WideLit}
use Rattle.report_words.specs.Numbers.{number_at, literal_at, literal_word, IsLiteral, HasNumeral}
use Rattle.report_words.proofs.Numerals.{number_found, number_again, literal_found, literal_again}
use Rattle.derivation_log.specs.declared.wide.WideLink.{WideLink}
use Rattle.derivation_log.specs.declared.step.StepKind.{StepKind}
use Rattle.derivation_log.specs.declared.step.StepKind.TheVariants.{Learned, Claimed}
use Rattle.derivation_log.specs.StepLines.{IsLink, kind_word, link_words}
use Rattle.derivation_log.specs.StepReading.{◌>>=◌, number_then, word_then, kind_at, kind_then, lits_then, links_at, after_lits, after_links}

links_regroup : (front : List WideLink) (l : WideLink) (read : Option (List WideLink)) → after_links front (after_links (l ∷ []) read) ≡ after_links (front ++ l ∷ []) read
links_regroup front l None = refl
links_regroup front l (Some ls) = ap Some (sym (append_assoc front (l ∷ []) ls))

pub links_step : (front items : List WideLink) (ws ws1 ws2 : List (List ℕ)) (p k : List ℕ) (l : WideLit) (n : ℕ) (total : Option (List WideLink)) → items ≡ front ++ record { pivot = l; number = n } ∷ []
    → ws ≡ p ∷ ws1 → ws1 ≡ k ∷ ws2 → Some l ≡ literal_at p → Some n ≡ number_at k → after_links front (links_at ws) ≡ total → after_links items (links_at ws2) ≡ total
unfolding links_at
links_step front items ws ws1 ws2 p k l n total push e f g h so_far =
    let whole : ws ≡ p ∷ k ∷ ws2 = e ∙ ap (λ (x : List (List ℕ)). p ∷ x) f in
    let one : links_at ws ≡ after_links (record { pivot = l; number = n } ∷ []) (links_at ws2) = rw (whole, ← g, ← h) refl in
    let moved : after_links front (links_at ws) ≡ after_links items (links_at ws2) = rw (one, push) (links_regroup front (record { pivot = l; number = n }) (links_at ws2)) in
    sym moved ∙ so_far

pub bind_some : {A B : Type 0} (o : Option A) (f : A → Option B) (y : B) → (o >>= f) ≡ Some y → (x : A) × (o ≡ Some x) × (f x ≡ Some y)
bind_some None f y e = absurd (cc)
bind_some (Some x) f y e = (x, refl, e)

pub some_is : {A : Type 0} (x y : A) → Some x ≡ Some y → x ≡ y
some_is x y e = cc

pub guard_is : {A : Type 0} (b : Bool) (o : Option A) (y : A) → cond b o None ≡ Some y → (b ≡ true) × (o ≡ Some y)
guard_is true o y e = (refl, e)
guard_is false o y e = absurd (cc)

pub number_then_found : (ws : List (List ℕ)) (n : ℕ) (rest : List (List ℕ)) → number_then ws ≡ Some (n, rest) → (ws ≡ decimal n ∷ rest) × HasNumeral n
unfolding number_then
number_then_found [] n rest e = absurd (cc)
number_then_found (w ∷ ws) n rest e =
    let a = bind_some (number_at w) (λ k. Some (k, ws)) (n, rest) e in
    let same : (a.0, ws) ≡ (n, rest) = some_is (a.0, ws) (n, rest) a.2 in
    let num : a.0 ≡ n = ap (λ (x : ℕ × List (List ℕ)). x.0) same in
    let left : ws ≡ rest = ap (λ (x : ℕ × List (List ℕ)). x.1) same in
    let f = number_found w a.0 a.1 in
    (rw (f.0, num, left) refl, subst HasNumeral num f.1)

pub number_then_again : (n : ℕ) (rest : List (List ℕ)) → HasNumeral n → number_then (decimal n ∷ rest) ≡ Some (n, rest)
unfolding number_then
number_then_again n rest h = rw (number_again n h) refl

pub eq_is : (v w : List ℕ) → bytes_eq v w ≡ true → v ≡ w
eq_is v w e = (bytes_eq-Decides v w).0 e

pub eq_again : (w : List ℕ) → bytes_eq w w ≡ true
eq_again w = (bytes_eq-Decides w w).1 refl

pub eq_not : (b : Bool) (v w : List ℕ) → bytes_eq v w ≡ b → (v ≡ w → ⊥) → b ≡ false
eq_not false v w e h = refl
eq_not true v w e h = absurd (h (eq_is v w e))

pub word_then_found : (word : List ℕ) (ws rest : List (List ℕ)) → word_then word ws ≡ Some rest → ws ≡ word ∷ rest
unfolding word_then
word_then_found word [] rest e = absurd (cc)
word_then_found word (w ∷ ws) rest e =
    let g = guard_is (bytes_eq w word) (Some ws) rest e in
    rw (eq_is w word g.0) (ap (λ (later : List (List ℕ)). word ∷ later) (some_is ws rest g.1))

pub word_then_again : (word : List ℕ) (ws : List (List ℕ)) → word_then word (word ∷ ws) ≡ Some ws
unfolding word_then
word_then_again word ws = rw (eq_again word) refl

kind_by : (a b : Bool) (w : List ℕ) (k : StepKind) → bytes_eq w (codes "learned") ≡ a → bytes_eq w (codes "claimed") ≡ b → cond a (Some Learned) (cond b (Some Claimed) None) ≡ Some k → w ≡ kind_word k
kind_by true b w k e f g = eq_is w (codes "learned") e ∙ ap kind_word (some_is Learned k g)
kind_by false true w k e f g = eq_is w (codes "claimed") f ∙ ap kind_word (some_is Claimed k g)
kind_by false false w k e f g = absurd (cc)

pub kind_then_found : (ws : List (List ℕ)) (x : StepKind × List (List ℕ)) → kind_then ws ≡ Some x → ws ≡ kind_word x.0 ∷ x.1
unfolding kind_then
kind_then_found [] x e = absurd (cc)
kind_then_found (w ∷ ws) x e =
    let a = bind_some (kind_at w) (λ k. Some (k, ws)) x e in
    let f : w ≡ kind_word a.0 = kind_by (bytes_eq w (codes "learned")) (bytes_eq w (codes "claimed")) w a.0 refl refl a.1 in
    rw f (ap (λ (y : StepKind × List (List ℕ)). kind_word y.0 ∷ y.1) (some_is (a.0, ws) x a.2))

pub kind_then_again : (k : StepKind) (ws : List (List ℕ)) → kind_then (kind_word k ∷ ws) ≡ Some (k, ws)
unfolding kind_then
kind_then_again Learned ws = refl
kind_then_again Claimed ws = refl

pub zero_is_none : literal_at (codes "0") ≡ None
unfolding literal_at number_at
zero_is_none = refl

pub no_zero : (l : WideLit) → IsLiteral l → bytes_eq (literal_word l) (codes "0") ≡ false
no_zero l h = eq_not (bytes_eq (literal_word l) (codes "0")) (literal_word l) (codes "0") refl (λ e.
    let a : literal_at (codes "0") ≡ Some l = sym (ap literal_at e) ∙ literal_again l h in
    let b : None ≡ Some l = sym zero_is_none ∙ a in cc)

pub cons_is : (v w : List ℕ) (vs ws : List (List ℕ)) → v ≡ w → vs ≡ ws → v ∷ vs ≡ w ∷ ws
cons_is v w vs ws e f = cc

lits_by : (b : Bool) (w : List ℕ) (ws : List (List ℕ)) (x : List WideLit × List (List ℕ)) → bytes_eq w (codes "0") ≡ b
    → cond b (Some ([], ws)) (literal_at w >>= λ l. after_lits (l ∷ []) (lits_then ws)) ≡ Some x
    → ((y : List WideLit × List (List ℕ)) → lits_then ws ≡ Some y → (ws ≡ map literal_word y.0 ++ codes "0" ∷ y.1) × AllByRecursion IsLiteral y.0)
    → (w ∷ ws ≡ map literal_word x.0 ++ codes "0" ∷ x.1) × AllByRecursion IsLiteral x.0
lits_by true w ws x z e again =
    subst (λ (y : List WideLit × List (List ℕ)). (w ∷ ws ≡ map literal_word y.0 ++ codes "0" ∷ y.1) × AllByRecursion IsLiteral y.0) (some_is ([], ws) x e) (ap (λ (v : List ℕ). v ∷ ws) (eq_is w (codes "0") z), tt)
lits_by false w ws x z e again =
    let a = bind_some (literal_at w) (λ l. after_lits (l ∷ []) (lits_then ws)) x e in
    let b = bind_some (lits_then ws) (λ y. Some (a.0 ∷ y.0, y.1)) x a.2 in
    let r = again b.0 b.1 in
    let f = literal_found w a.0 a.1 in
    subst (λ (y : List WideLit × List (List ℕ)). (w ∷ ws ≡ map literal_word y.0 ++ codes "0" ∷ y.1) × AllByRecursion IsLiteral y.0) (some_is (a.0 ∷ b.0.0, b.0.1) x b.2)
    (cons_is w (literal_word a.0) ws (map literal_word b.0.0 ++ codes "0" ∷ b.0.1) f.0 r.0, (f.1, r.1))

pub lits_then_found : (ws : List (List ℕ)) (x : List WideLit × List (List ℕ)) → lits_then ws ≡ Some x → (ws ≡ map literal_word x.0 ++ codes "0" ∷ x.1) × AllByRecursion IsLiteral x.0
unfolding lits_then
lits_then_found [] x e = absurd (cc)
lits_then_found (w ∷ ws) x e = lits_by (bytes_eq w (codes "0")) w ws x refl e (lits_then_found ws)

pub lits_then_again : (ls : List WideLit) (ws : List (List ℕ)) → AllByRecursion IsLiteral ls → lits_then (map literal_word ls ++ codes "0" ∷ ws) ≡ Some (ls, ws)
unfolding lits_then
lits_then_again [] ws h = refl
lits_then_again (l ∷ ls) ws h = rw (no_zero l h.0, literal_again l h.0, lits_then_again ls ws h.1) refl

pub links_found : (ws : List (List ℕ)) (ls : List WideLink) → links_at ws ≡ Some ls → (ws ≡ flat_map link_words ls) × AllByRecursion IsLink ls
unfolding links_at
links_found [] ls e = subst (λ (x : List WideLink). ([] ≡ flat_map link_words x) × AllByRecursion IsLink x) (some_is [] ls e) (refl, tt)
links_found (p ∷ []) ls e = absurd (cc)
links_found (p ∷ k ∷ ws) ls e =
    let a = bind_some (literal_at p) (λ l. number_at k >>= λ n. after_links (record { pivot = l; number = n } ∷ []) (links_at ws)) ls e in
    let b = bind_some (number_at k) (λ n. after_links (record { pivot = a.0; number = n } ∷ []) (links_at ws)) ls a.2 in
    let c = bind_some (links_at ws) (λ x. Some (record { pivot = a.0; number = b.0 } ∷ x)) ls b.2 in
    let r = links_found ws c.0 c.1 in
    let f = literal_found p a.0 a.1 in
    let g = number_found k b.0 b.1 in
    subst (λ (x : List WideLink). (p ∷ k ∷ ws ≡ flat_map link_words x) × AllByRecursion IsLink x) (some_is (record { pivot = a.0; number = b.0 } ∷ c.0) ls c.2)
    (cons_is p (literal_word a.0) (k ∷ ws) (decimal b.0 ∷ flat_map link_words c.0) f.0 (cons_is k (decimal b.0) ws (flat_map link_words c.0) g.0 r.0) ∙ sym (flat_map-cons link_words (record { pivot = a.0; number = b.0 }) c.0), (record { pivot = f.1; number = g.1 }, r.1))

pub links_again : (ls : List WideLink) → AllByRecursion IsLink ls → links_at (flat_map link_words ls) ≡ Some ls
unfolding links_at
links_again [] h = refl
links_again (l ∷ ls) h = ap links_at (flat_map-cons link_words l ls) ∙ rw (literal_again l.pivot h.0.pivot, number_again l.number h.0.number, links_again ls h.1) refl
