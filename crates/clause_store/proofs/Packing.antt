-- Lemmas on packing a list of clauses in place.
use Rattle.std.proofs.Common.{◌≡◌, ℕ, ◌+◌, ◌-◌, ◌<◌, ◌≤◌, Bool, true, false, List, [], ◌∷◌, ◌++◌, length, refl, ap, sym, ◌∙◌, arith, get_or, zero, suc, take, drop, append_assoc, length-drop, set, subst}
use Rattle.std.specs.Prelude.{slice_range, slice_get, Some}
use Rattle.std.specs.List.{copy_within, AllByRecursion}
use Rattle.std.proofs.lemmas.List.{take_all, take-append-drop, length-take-le, take_more_set, drop-drop, drop-set-lt, get_or-drop, append-nil, length-set, get_or_read}
use Rattle.std.proofs.lemmas.List.Edits.{drop-paste, take-paste, length-paste}
use Rattle.clause_store.specs.declared.lit.Lit.{Lit}
use Rattle.clause_store.specs.Clauses.{cut, Rise, start_at}
use Rattle.clause_store.specs.Keeping.{kept_of}
use Rattle.clause_store.proofs.Cuts.{get-cut, start_at-pred, Rise-end, Rise-bounds, range-front, cut-push, Rise-push}

-- one more member that is marked, or that is not
pub kept_more : {X : Type 0} (marks : List Bool) (xs : List X) (k : ℕ) (x : X) → k < length marks → get_or marks k false ≡ true → slice_get xs k ≡ Some x → kept_of (take (suc k) marks) xs ≡ kept_of (take k marks) xs ++ x ∷ []
kept_more [] xs k x lt m e = absurd (omega arith)
kept_more (b ∷ bs) [] k x lt m e = absurd (cc)
kept_more (true ∷ bs) (y ∷ ys) zero x lt m e = let f : y ≡ x = cc in ap (λ z. z ∷ []) f
kept_more (false ∷ bs) (y ∷ ys) zero x lt m e = absurd (cc)
kept_more (true ∷ bs) (y ∷ ys) (suc k) x lt m e = ap (λ zs. y ∷ zs) (kept_more bs ys k x (omega arith) m e)
kept_more (false ∷ bs) (y ∷ ys) (suc k) x lt m e = kept_more bs ys k x (omega arith) m e

pub kept_less : {X : Type 0} (marks : List Bool) (xs : List X) (k : ℕ) → k < length marks → get_or marks k false ≡ false → kept_of (take (suc k) marks) xs ≡ kept_of (take k marks) xs
kept_less [] xs k lt m = absurd (omega arith)
kept_less (b ∷ bs) [] zero lt m = refl
kept_less (b ∷ bs) [] (suc k) lt m = refl
kept_less (true ∷ bs) (y ∷ ys) zero lt m = absurd (cc)
kept_less (false ∷ bs) (y ∷ ys) zero lt m = refl
kept_less (true ∷ bs) (y ∷ ys) (suc k) lt m = ap (λ zs. y ∷ zs) (kept_less bs ys k (omega arith) m)
kept_less (false ∷ bs) (y ∷ ys) (suc k) lt m = kept_less bs ys k (omega arith) m

pub each_take : {X : Type 0} (P : X → Type 0) (n : ℕ) (xs : List X) → AllByRecursion P xs → AllByRecursion P (take n xs)
each_take P zero xs h = tt
each_take P (suc n) [] h = tt
each_take P (suc n) (x ∷ xs) h = (h.0, each_take P n xs h.1)

pub each_drop : {X : Type 0} (P : X → Type 0) (n : ℕ) (xs : List X) → AllByRecursion P xs → AllByRecursion P (drop n xs)
each_drop P zero xs h = h
each_drop P (suc n) [] h = tt
each_drop P (suc n) (x ∷ xs) h = each_drop P n xs h.1

pub each_kept : {X : Type 0} (P : X → Type 0) (marks : List Bool) (xs : List X) → AllByRecursion P xs → AllByRecursion P (kept_of marks xs)
each_kept P [] xs h = tt
each_kept P (m ∷ ms) [] h = tt
each_kept P (true ∷ ms) (x ∷ xs) h = (h.0, each_kept P ms xs h.1)
each_kept P (false ∷ ms) (x ∷ xs) h = each_kept P ms xs h.1

-- after k marks: the first literals and ends are those of the clauses that are kept, and what is still to be read
-- stands where it was
pub record Packed (all : List Lit) (old : List ℕ) (from : ℕ) (marks : List Bool) (k count end begin : ℕ) (lits : List Lit) (ends : List ℕ) : Type 0 where
  pub turns : k ≤ length marks
  pub whole : from + length marks ≡ length old
  pub rises : Rise 0 old (length all)
  pub lits_count : length lits ≡ length all
  pub ends_count : length ends ≡ length old
  pub few : count ≤ from + k
  pub at : begin ≡ start_at 0 old (from + k)
  pub behind : end ≤ begin
  pub within : begin ≤ length all
  pub rise : Rise 0 (take count ends) end
  pub kept : cut 0 (take count ends) (take end lits) ≡ take from (cut 0 old all) ++ kept_of (take k marks) (drop from (cut 0 old all))
  pub lits_left : drop begin lits ≡ drop begin all
  pub ends_left : drop (from + k) ends ≡ drop (from + k) old

cut-take : (from n : ℕ) (ends : List ℕ) (lits : List Lit) → cut from (take n ends) lits ≡ take n (cut from ends lits)
cut-take from zero ends lits = refl
cut-take from (suc n) [] lits = refl
cut-take from (suc n) (e ∷ es) lits = ap (λ zs. slice_range lits from e ∷ zs) (cut-take e n es lits)

-- clauses that end within the front are those of the front
cut-front : (from : ℕ) (ends : List ℕ) (xs ys : List Lit) → Rise from ends (length xs) → cut from ends (xs ++ ys) ≡ cut from ends xs
cut-front from [] xs ys r = refl
cut-front from (e ∷ es) xs ys r =
    let one = range-front xs ys from e r.0 (Rise-end e es (length xs) r.1) in
    let rest = cut-front e es xs ys r.1 in cc

rise-take : (from : ℕ) (ends : List ℕ) (all k : ℕ) → Rise from ends all → k ≤ length ends → Rise from (take k ends) (start_at from ends k)
rise-take from ends all zero r h = refl
rise-take from [] all (suc k) r h = absurd (omega arith)
rise-take from (e ∷ es) all (suc k) r h = (r.0, rise-take e es all k r.1 (omega arith))

start-within : (from : ℕ) (ends : List ℕ) (all k : ℕ) → Rise from ends all → start_at from ends k ≤ all
start-within from ends all zero r = Rise-end from ends all r
start-within from [] all (suc k) r = Rise-end from [] all r
start-within from (e ∷ es) all (suc k) r = start-within e es all k r.1

pub get-drop : {X : Type 0} (n : ℕ) (xs : List X) (k : ℕ) → slice_get (drop n xs) k ≡ slice_get xs (n + k)
get-drop zero xs k = let e : k ≡ 0 + k = omega arith in ap (slice_get xs) e
get-drop (suc n) [] k = refl
get-drop (suc n) (x ∷ xs) k = let e : suc n + k ≡ suc (n + k) = omega arith in rw e (get-drop n xs k)

pub packed_start : (all : List Lit) (old : List ℕ) (from : ℕ) (marks : List Bool) (b : ℕ) → Rise 0 old (length all) → from + length marks ≡ length old → b ≡ start_at 0 old from → Packed all old from marks 0 from b b all old
packed_start all old from marks b r w e =
    let rise : Rise 0 (take from old) b = subst (λ (n : ℕ). Rise 0 (take from old) n) (sym e) (rise-take 0 old (length all) from r (omega arith)) in
    let le : b ≤ length all = subst (λ (n : ℕ). n ≤ length all) (sym e) (start-within 0 old (length all) from r) in
    let size : length (take b all) ≡ b = length-take-le b all le in
    let same : cut 0 (take from old) (take b all ++ drop b all) ≡ cut 0 (take from old) (take b all) = cut-front 0 (take from old) (take b all) (drop b all) (subst (λ (n : ℕ). Rise 0 (take from old) n) (sym size) rise) in
    let whole : cut 0 (take from old) (take b all ++ drop b all) ≡ cut 0 (take from old) all = ap (λ (zs : List Lit). cut 0 (take from old) zs) (take-append-drop b all) in
    let zero_more : from ≡ from + 0 = omega arith in record {
      turns = omega arith;
      whole = w;
      rises = r;
      lits_count = refl;
      ends_count = refl;
      few = omega arith;
      at = e ∙ ap (λ (n : ℕ). start_at 0 old n) zero_more;
      behind = omega arith;
      within = le;
      rise = rise;
      kept = sym same ∙ whole ∙ cut-take 0 from old all ∙ sym (append-nil (take from (cut 0 old all)));
      lits_left = refl;
      ends_left = refl;
    }

-- where the next clause ends
pub record Next (all : List Lit) (old : List ℕ) (place begin next : ℕ) : Type 0 where
  pub end : next ≡ get_or old place 0
  pub rises : begin ≤ next
  pub within : next ≤ length all
  pub then : next ≡ start_at 0 old (place + 1)

pub next_of : (all : List Lit) (old : List ℕ) (place begin next : ℕ) (ends : List ℕ) → Rise 0 old (length all) → place < length old → begin ≡ start_at 0 old place → drop place ends ≡ drop place old → next ≡ get_or ends place 0 → Next all old place begin next
next_of all old place begin next ends r lt at left e =
    let b = Rise-bounds 0 old (length all) place r lt in
    let z : place + 0 ≡ place = omega arith in
    let own : get_or ends place 0 ≡ get_or old place 0 = ap (λ (n : ℕ). get_or ends n 0) (sym z) ∙ sym (get_or-drop place ends 0 0) ∙ ap (λ (zs : List ℕ). get_or zs 0 0) left ∙ get_or-drop place old 0 0 ∙ ap (λ (n : ℕ). get_or old n 0) z in
    let end : next ≡ get_or old place 0 = e ∙ own in
    let s : place + 1 ≡ suc place = omega arith in record {
      end = end;
      rises = omega (arith, b.start, at, end);
      within = omega (arith, b.end, end);
      then = end ∙ sym (start_at-pred 0 old place lt) ∙ ap (λ (n : ℕ). start_at 0 old n) (sym s);
    }

drop_on : {X : Type 0} (xs ys : List X) (m n : ℕ) → m ≤ n → drop m xs ≡ drop m ys → drop n xs ≡ drop n ys
drop_on xs ys m n le e =
    let s : m + (n - m) ≡ n = omega arith in
    ap (λ k. drop k xs) (sym s) ∙ sym (drop-drop (n - m) m xs) ∙ ap (λ zs. drop (n - m) zs) e ∙ drop-drop (n - m) m ys ∙ ap (λ k. drop k ys) s

-- what the next end says of places
pub record Turn (all : List Lit) (begin end next : ℕ) : Type 0 where
  pub ordered : begin ≤ next
  pub within : next ≤ length all
  pub room : end + (next - begin) ≤ next

pub turn : (all : List Lit) (old : List ℕ) (from : ℕ) (marks : List Bool) (k count end begin : ℕ) (lits : List Lit) (ends : List ℕ) (next : ℕ) → Packed all old from marks k count end begin lits ends → k < length marks → next ≡ get_or ends (from + k) next → Turn all begin end next
turn all old from marks k count end begin lits ends next p lt e =
    let w = p.whole in let ec = p.ends_count in let behind = p.behind in
    let x = next_of all old (from + k) begin next ends p.rises (omega arith) p.at p.ends_left (get_or_read ends (from + k) next (omega arith) e 0) in
    let r = x.rises in record { ordered = x.rises; within = x.within; room = omega arith }

pub packed_skip : (all : List Lit) (old : List ℕ) (from : ℕ) (marks : List Bool) (k count end begin : ℕ) (lits : List Lit) (ends : List ℕ) (next : ℕ) → Packed all old from marks k count end begin lits ends → k < length marks → get_or marks k false ≡ false → next ≡ get_or ends (from + k) next →
    Packed all old from marks (k + 1) count end next lits ends
packed_skip all old from marks k count end begin lits ends next p lt m e =
    let w = p.whole in let ec = p.ends_count in
    let x = next_of all old (from + k) begin next ends p.rises (omega arith) p.at p.ends_left (get_or_read ends (from + k) next (omega arith) e 0) in
    let xr = x.rises in let behind = p.behind in
    let more : k + 1 ≡ suc k = omega arith in
    let s : from + k + 1 ≡ from + (k + 1) = omega arith in record {
      turns = omega arith;
      whole = p.whole;
      rises = p.rises;
      lits_count = p.lits_count;
      ends_count = p.ends_count;
      few = (let f = p.few in omega arith);
      at = x.then ∙ ap (λ (n : ℕ). start_at 0 old n) s;
      behind = omega arith;
      within = x.within;
      rise = p.rise;
      kept = p.kept ∙ ap (λ (zs : List (List Lit)). take from (cut 0 old all) ++ zs) (sym (ap (λ (i : ℕ). kept_of (take i marks) (drop from (cut 0 old all))) more ∙ kept_less marks (drop from (cut 0 old all)) k lt m));
      lits_left = drop_on lits all begin next x.rises p.lits_left;
      ends_left = drop_on ends old (from + k) (from + (k + 1)) (omega arith) p.ends_left;
    }

pub packed_keep : (all : List Lit) (old : List ℕ) (from : ℕ) (marks : List Bool) (k count end begin : ℕ) (lits : List Lit) (ends : List ℕ) (next v : ℕ) → Packed all old from marks k count end begin lits ends → k < length marks → get_or marks k false ≡ true → next ≡ get_or ends (from + k) next → v ≡ end + (next - begin) →
    Packed all old from marks (k + 1) (count + 1) v next (copy_within lits begin next end) (set ends count v)
packed_keep all old from marks k count end begin lits ends next v p lt m e f =
    let w = p.whole in let few = p.few in let behind = p.behind in let inside = p.within in let lc = p.lits_count in let ec = p.ends_count in
    let x = next_of all old (from + k) begin next ends p.rises (omega arith) p.at p.ends_left (get_or_read ends (from + k) next (omega arith) e 0) in
    let xr = x.rises in let xw = x.within in
    let n : ℕ = next - begin in
    let place : from + k < length old = omega arith in
    let left : length (drop begin lits) ≡ length lits - begin = length-drop begin lits in
    let left_all : length (drop begin all) ≡ length all - begin = length-drop begin all in
    let size : next - begin ≤ length (drop begin lits) = omega arith in
    let ys : List Lit = slice_range all begin next in
    let front : take (end + (next - begin)) (copy_within lits begin next end) ≡ take end lits ++ take (next - begin) (drop begin lits) = take-paste lits end (drop begin lits) (next - begin) (omega arith) size in
    let front_own : take v (copy_within lits begin next end) ≡ take end lits ++ slice_range all begin next = ap (λ (i : ℕ). take i (copy_within lits begin next end)) f ∙ front ∙ ap (λ (zs : List Lit). take end lits ++ take (next - begin) zs) p.lits_left in
    let size_front : length (take end lits) ≡ end = length-take-le end lits (omega arith) in
    let size_piece : length (slice_range all begin next) ≡ next - begin = length-take-le (next - begin) (drop begin all) (omega arith) in
    let pushed : take (count + 1) (set ends count v) ≡ take count ends ++ v ∷ [] = take_more_set ends count v (omega arith) in
    let ends_own : take (count + 1) (set ends count v) ≡ take count ends ++ (length (take end lits) + length (slice_range all begin next)) ∷ [] = pushed ∙ ap (λ (i : ℕ). take count ends ++ i ∷ []) (omega arith) in
    let cuts : cut 0 (take (count + 1) (set ends count v)) (take v (copy_within lits begin next end)) ≡ cut 0 (take count ends) (take end lits) ++ slice_range all begin next ∷ [] =
    ap (λ (is : List ℕ). cut 0 is (take v (copy_within lits begin next end))) ends_own
    ∙ ap (λ (zs : List Lit). cut 0 (take count ends ++ (length (take end lits) + length (slice_range all begin next)) ∷ []) zs) front_own
    ∙ cut-push 0 (take count ends) (take end lits) (slice_range all begin next) (subst (λ (i : ℕ). Rise 0 (take count ends) i) (sym size_front) p.rise) in
    let member : slice_get (drop from (cut 0 old all)) k ≡ Some (slice_range all begin next) =
    get-drop from (cut 0 old all) k ∙ get-cut 0 old all (from + k) place
    ∙ ap (λ (i : ℕ). Some (slice_range all i (get_or old (from + k) 0))) (sym p.at) ∙ ap (λ (i : ℕ). Some (slice_range all begin i)) (sym x.end) in
    let more : k + 1 ≡ suc k = omega arith in
    let s : from + k + 1 ≡ from + (k + 1) = omega arith in
    let far : end + (next - begin) ≤ next = omega arith in record {
      turns = omega arith;
      whole = p.whole;
      rises = p.rises;
      lits_count = length-paste lits end (drop begin lits) (next - begin) (omega arith) size ∙ p.lits_count;
      ends_count = length-set ends count v ∙ p.ends_count;
      few = omega arith;
      at = x.then ∙ ap (λ (i : ℕ). start_at 0 old i) s;
      behind = omega arith;
      within = x.within;
      rise = subst (λ (is : List ℕ). Rise 0 is v) (sym pushed) (subst (λ (i : ℕ). Rise 0 (take count ends ++ i ∷ []) i) (sym f) (Rise-push 0 (take count ends) end (next - begin) p.rise));
      kept = cuts ∙ ap (λ (zs : List (List Lit)). zs ++ slice_range all begin next ∷ []) p.kept
          ∙ append_assoc (take from (cut 0 old all)) (kept_of (take k marks) (drop from (cut 0 old all))) (slice_range all begin next ∷ [])
          ∙ ap (λ (zs : List (List Lit)). take from (cut 0 old all) ++ zs) (sym (ap (λ (i : ℕ). kept_of (take i marks) (drop from (cut 0 old all))) more ∙ kept_more marks (drop from (cut 0 old all)) k (slice_range all begin next) lt m member));
      lits_left = drop_on (copy_within lits begin next end) lits (end + (next - begin)) next far (drop-paste lits end (drop begin lits) (next - begin) (omega arith) size) ∙ drop_on lits all begin next x.rises p.lits_left;
      ends_left = drop-set-lt (from + (k + 1)) ends count v (omega arith) ∙ drop_on ends old (from + k) (from + (k + 1)) (omega arith) p.ends_left;
    }

-- the same places under other names
pub packed_at : (all : List Lit) (old : List ℕ) (from : ℕ) (marks : List Bool) (k count end begin : ℕ) (lits : List Lit) (ends : List ℕ) (i j b : ℕ) (ls : List Lit) (es : List ℕ) → Packed all old from marks k count end begin lits ends → i ≡ count → j ≡ end → b ≡ begin → ls ≡ lits → es ≡ ends → Packed all old from marks k i j b ls es
packed_at all old from marks k count end begin lits ends i j b ls es p e f g h q = rw (e, f, g, h, q) p

-- where nothing stands after the first ones
pub kept_whole : (from : ℕ) (marks : List Bool) (xs : List (List Lit)) → length marks ≡ 0 → from + length marks ≡ length xs → xs ≡ take from xs ++ kept_of marks (drop from xs)
kept_whole from [] xs z w = sym (take_all from xs (omega arith)) ∙ sym (append-nil (take from xs))
kept_whole from (m ∷ ms) xs z w = absurd (omega arith)
