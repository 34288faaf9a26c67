-- Each literal of main clauses is one of their variables.
use Rattle.std.proofs.Common.{◌≡◌, ℕ, zero, suc, ◌+◌, ◌-◌, ◌<◌, ◌≤◌, ◌/◌, ◌==◌, Bool, true, false, ◌&&◌, cond, List, [], ◌∷◌, ◌++◌, length, map, take, drop, replicate, refl, sym, subst, arith}
use Rattle.std.specs.Prelude.{nat_lt, nat_le, if◌then◌else◌, slice_index}
use Rattle.std.specs.List.{AllByRecursion}
use Rattle.std.proofs.lemmas.Bool.Decides.{nat_tests}
use Rattle.ranks.specs.Ranks.{downs}
use Rattle.formulas.specs.declared.formula.Formula.{Formula}
use Rattle.formulas.specs.declared.formula.Formula as formula
use Rattle.formulas.proofs.Equations.{fold_top, fold_bottom, fold_atom, fold_not, fold_and, fold_or, fold_implies, fold_iff, formula_induction}
use Rattle.clause_store.specs.declared.lit.Lit.{Lit}
use Rattle.clause_store.specs.Lits.{positive_lit, negative_lit, rank_of, same_lit, with_lit, sorted_onto, sorted_clause}
use Rattle.clause_store.specs.Fresh.{fresh_vars, fresh_lits}
use Rattle.clause_store.proofs.Each.{each_append}
use Rattle.clause_store.proofs.Packing.{each_drop, each_take}
use Rattle.clause_translation.specs.Definition.{Definition, definition, definition_step, leaf_node, over_one, over_two, atom_lit, top_clauses, bottom_clauses, atom_clauses, not_clauses, and_clauses, or_clauses, implies_clauses, iff_clauses}
use Rattle.totalizer.specs.Counter.{Due, leaves}
use Rattle.totalizer.specs.Either.{lifts, either_due}
use Rattle.totalizer.specs.Joined.{joined_blocks}
use Rattle.totalizer.specs.Plus.{under, over, up_clauses, down_clauses, pair_clauses, row_clauses, plus_due}
use Rattle.totalizer.specs.Total.{both_due, first_of, alone_due, total_by, total_due}
use Rattle.agent_copies.specs.Copy.{CopyDue, copy_due}
use Rattle.agent_copies.specs.Differences.{difference_at, after_differences}
use Rattle.aggregators.specs.Levels.{LevelsDue, column, top_of, output_clauses, totals_due}
use Rattle.merge_model.specs.declared.operator.AggregatorName.{AggregatorName}
use Rattle.merge_model.specs.declared.operator.AggregatorName.TheVariants.{Sum, Max, Leximax}
use Rattle.merge_model.specs.declared.operator.DistanceName.{DistanceName}
use Rattle.merge_model.specs.declared.operator.DistanceName.TheVariants.{Drastic, Hamming}
use Rattle.merge_model.specs.Merging.{Profile, repeated}
use Rattle.merge_encoding.specs.MainDues.{DueCounter, DefinedAll, CopiesDue, definitions, copies_due, aways_of, main_due}
use Rattle.merge_encoding.specs.Named.{counter_named, levels_named}

-- each literal's variable is at most v
abbrev pub UpTo : ℕ → List Lit → Type 0
UpTo v ls = AllByRecursion (λ (l : Lit). l.var ≤ v) ls

abbrev pub AreUpTo : ℕ → List (List Lit) → Type 0
AreUpTo v cs = AllByRecursion (UpTo v) cs

abbrev VarsUpTo : ℕ → List ℕ → Type 0
VarsUpTo v xs = AllByRecursion (λ (x : ℕ). x ≤ v) xs

abbrev AllVarsUpTo : ℕ → List (List ℕ) → Type 0
AllVarsUpTo v xss = AllByRecursion (VarsUpTo v) xss

each_more : {X : Type 0} (P Q : X → Type 0) → ((x : X) → P x → Q x) → (xs : List X) → AllByRecursion P xs → AllByRecursion Q xs
each_more P Q f [] h = tt
each_more P Q f (x ∷ xs) h = (f x h.0, each_more P Q f xs h.1)

up_more : (v w : ℕ) → v ≤ w → (ls : List Lit) → UpTo v ls → UpTo w ls
up_more v w le ls h = each_more (λ (l : Lit). l.var ≤ v) (λ (l : Lit). l.var ≤ w) (λ l x. omega arith) ls h

are_more : (v w : ℕ) → v ≤ w → (cs : List (List Lit)) → AreUpTo v cs → AreUpTo w cs
are_more v w le cs h = each_more (UpTo v) (UpTo w) (up_more v w le) cs h

vars_more : (v w : ℕ) → v ≤ w → (xs : List ℕ) → VarsUpTo v xs → VarsUpTo w xs
vars_more v w le xs h = each_more (λ (x : ℕ). x ≤ v) (λ (x : ℕ). x ≤ w) (λ l x. omega arith) xs h

all_vars_more : (v w : ℕ) → v ≤ w → (xss : List (List ℕ)) → AllVarsUpTo v xss → AllVarsUpTo w xss
all_vars_more v w le xss h = each_more (VarsUpTo v) (VarsUpTo w) (vars_more v w le) xss h

index_up : (w : ℕ) (xs : List ℕ) (k : ℕ) → VarsUpTo w xs → slice_index xs k ≤ w
index_up w [] k h = omega arith
index_up w (x ∷ xs) zero h = h.0
index_up w (x ∷ xs) (suc k) h = index_up w xs k h.1

lit_up : (w : ℕ) (atoms : List Lit) (k : ℕ) → UpTo w atoms → (atom_lit atoms k).var ≤ w
lit_up w [] k h = omega arith
lit_up w (x ∷ xs) zero h = h.0
lit_up w (x ∷ xs) (suc k) h = lit_up w xs k h.1

fresh_up : (v n w : ℕ) → v + n ≤ w → VarsUpTo w (fresh_vars v n)
fresh_up v zero w h = tt
fresh_up v (suc n) w h = (omega arith, fresh_up (v + 1) n w (omega arith))

fresh_lits_up : (v n w : ℕ) → v + n ≤ w → UpTo w (fresh_lits v n)
fresh_lits_up v zero w h = tt
fresh_lits_up v (suc n) w h = (omega arith, fresh_lits_up (v + 1) n w (omega arith))

-- formulas

record IsUp (v : ℕ) (d : Definition) : Type 0 where
  pub grows : v ≤ d.root
  pub up : AreUpTo d.root d.clauses

module _ (atoms : List Lit) where
  abbrev Ranges : Formula → Type 0
  Ranges f = (v : ℕ) → UpTo v atoms → IsUp v (definition atoms f v)

  leaf_up : (f : Formula) (node : Lit → List (List Lit)) → definition atoms f ≡ leaf_node node → ((v : ℕ) → UpTo v atoms → AreUpTo (v + 1) (node (positive_lit (v + 1)))) → Ranges f
  leaf_up f node due within = λ v h. subst (λ (d : ℕ → Definition). IsUp v (d v)) (sym due) (record { grows = omega arith; up = within v h })

  one_up : (f p : Formula) (node : Lit → Lit → List (List Lit)) → definition atoms f ≡ over_one node (definition atoms p) → ((w x : ℕ) → x ≤ w → AreUpTo w (node (positive_lit w) (positive_lit x))) → Ranges p → Ranges f
  one_up f p node due within known = λ v h.
      let d = definition atoms p v in
      let part : IsUp v d = known v h in
      let made : IsUp v (over_one node (definition atoms p) v) = record {
        grows = let x = part.grows in omega arith;
        up = each_append (UpTo (d.root + 1)) d.clauses (node (positive_lit (d.root + 1)) (positive_lit d.root)) (are_more d.root (d.root + 1) (omega arith) d.clauses part.up) (within (d.root + 1) d.root (omega arith));
      } in
      subst (λ (e : ℕ → Definition). IsUp v (e v)) (sym due) made

  two_up : (f l r : Formula) (node : Lit → Lit → Lit → List (List Lit)) → definition atoms f ≡ over_two node (definition atoms l) (definition atoms r) →
      ((w x y : ℕ) → x ≤ w → y ≤ w → AreUpTo w (node (positive_lit w) (positive_lit x) (positive_lit y))) → Ranges l → Ranges r → Ranges f
  two_up f l r node due within known known' = λ v h.
      let d = definition atoms l v in
      let e = definition atoms r d.root in
      let left : IsUp v d = known v h in
      let right : IsUp d.root e = known' d.root (up_more v d.root left.grows atoms h) in
      let x = left.grows in
      let y = right.grows in
      let made : IsUp v (over_two node (definition atoms l) (definition atoms r) v) = record {
        grows = omega arith;
        up = each_append (UpTo (e.root + 1)) d.clauses (e.clauses ++ node (positive_lit (e.root + 1)) (positive_lit d.root) (positive_lit e.root))
            (are_more d.root (e.root + 1) (omega arith) d.clauses left.up)
            (each_append (UpTo (e.root + 1)) e.clauses (node (positive_lit (e.root + 1)) (positive_lit d.root) (positive_lit e.root))
            (are_more e.root (e.root + 1) (omega arith) e.clauses right.up)
            (within (e.root + 1) d.root e.root (omega arith) (omega arith)));
      } in
      subst (λ (z : ℕ → Definition). IsUp v (z v)) (sym due) made

  atom_up : (k : ℕ) → Ranges (formula.Atom k)
  atom_up k = leaf_up (formula.Atom k) (λ v. atom_clauses v (atom_lit atoms k)) (fold_atom (definition_step atoms) k)
      (λ v h. (let x = lit_up v atoms k h in let y : (atom_lit atoms k).var ≤ v + 1 = omega arith in ((omega arith, (y, tt)), ((omega arith, (y, tt)), tt))))

  formula_up : (f : Formula) → Ranges f
  formula_up = formula_induction Ranges
      (leaf_up formula.Top top_clauses (fold_top (definition_step atoms)) (λ v h. ((omega arith, tt), tt)))
      (leaf_up formula.Bottom bottom_clauses (fold_bottom (definition_step atoms)) (λ v h. ((omega arith, tt), tt)))
      atom_up
      (λ p h. one_up (formula.Not p) p not_clauses (fold_not (definition_step atoms) p) (λ w x le. ((omega arith, (le, tt)), ((omega arith, (le, tt)), tt))) h)
      (λ l r h k. two_up (formula.And l r) l r and_clauses (fold_and (definition_step atoms) l r) (λ w x y a b. ((omega arith, (a, tt)), ((omega arith, (b, tt)), ((omega arith, (a, (b, tt))), tt)))) h k)
      (λ l r h k. two_up (formula.Or l r) l r or_clauses (fold_or (definition_step atoms) l r) (λ w x y a b. ((omega arith, (a, tt)), ((omega arith, (b, tt)), ((omega arith, (a, (b, tt))), tt)))) h k)
      (λ l r h k. two_up (formula.Implies l r) l r implies_clauses (fold_implies (definition_step atoms) l r) (λ w x y a b. ((omega arith, (a, tt)), ((omega arith, (b, tt)), ((omega arith, (a, (b, tt))), tt)))) h k)
      (λ l r h k. two_up (formula.Iff l r) l r iff_clauses (fold_iff (definition_step atoms) l r)
      (λ w x y a b. (let c : UpTo w (positive_lit w ∷ positive_lit x ∷ positive_lit y ∷ []) = (omega arith, (a, (b, tt))) in (c, (c, (c, (c, tt)))))) h k)

record AreUp (v : ℕ) (d : DefinedAll) : Type 0 where
  pub grows : v ≤ d.vars
  pub up : AreUpTo d.vars d.clauses

definitions_up : (atoms : List Lit) (v : ℕ) (fs : List Formula) → UpTo v atoms → AreUp v (definitions atoms v fs)
definitions_up atoms v [] h = record { grows = omega arith; up = tt }
definitions_up atoms v (f ∷ fs) h =
    let d = definition atoms f v in
    let first : IsUp v d = formula_up atoms f v h in
    let x = first.grows in
    let rest = definitions_up atoms d.root fs (up_more v d.root first.grows atoms h) in
    let y = rest.grows in
    let more = definitions atoms d.root fs in
    record { grows = omega arith; up = each_append (UpTo more.vars) d.clauses more.clauses (are_more d.root more.vars y d.clauses first.up) rest.up }

-- counters

record DueUp (v : ℕ) (d : Due) : Type 0 where
  pub grows : v ≤ d.vars
  pub up : AreUpTo d.vars d.clauses
  pub outputs : VarsUpTo d.vars d.outputs

lifts_up : (w r : ℕ) (xs : List ℕ) → r ≤ w → VarsUpTo w xs → AreUpTo w (map (lifts r) xs)
lifts_up w r [] le h = tt
lifts_up w r (x ∷ xs) le h = ((h.0, (le, tt)), lifts_up w r xs le h.1)

positives_up : (w : ℕ) (xs : List ℕ) → VarsUpTo w xs → UpTo w (map positive_lit xs)
positives_up w [] h = tt
positives_up w (x ∷ xs) h = (h.0, positives_up w xs h.1)

either_up : (v : ℕ) (xs : List ℕ) → VarsUpTo v xs → DueUp v (either_due v xs)
either_up v xs h =
    let more : VarsUpTo (v + 1) xs = vars_more v (v + 1) (omega arith) xs h in
    record {
      grows = omega arith;
      up = each_append (UpTo (v + 1)) (map (lifts (v + 1)) xs) ((negative_lit (v + 1) ∷ map positive_lit xs) ∷ []) (lifts_up (v + 1) (v + 1) xs (omega arith) more) ((omega arith, positives_up (v + 1) xs more), tt);
      outputs = (omega arith, tt);
    }

joined_up : (w : ℕ) (f : ℕ → List (List Lit)) (n : ℕ) → ((k : ℕ) → k < n → AreUpTo w (f k)) → AreUpTo w (joined_blocks f n)
joined_up w f zero h = tt
joined_up w f (suc n) h = each_append (UpTo w) (joined_blocks f n) (f n) (joined_up w f n (λ k lt. h k (omega arith))) (h n (omega arith))

under_up : (w : ℕ) (xs : List ℕ) (i : ℕ) → VarsUpTo w xs → UpTo w (under xs i)
under_up w xs i h = elim (i == 0) as (λ (t : Bool). UpTo w (if t then [] else negative_lit (slice_index xs (i - 1)) ∷ [])) [ true ↦ tt | false ↦ (index_up w xs (i - 1) h, tt) ]

over_up : (w : ℕ) (xs : List ℕ) (i : ℕ) → VarsUpTo w xs → UpTo w (over xs i)
over_up w xs i h = elim (i == length xs) as (λ (t : Bool). UpTo w (if t then [] else positive_lit (slice_index xs i) ∷ [])) [ true ↦ tt | false ↦ (index_up w xs i h, tt) ]

module _ (v : ℕ) (xs ys : List ℕ) (h : VarsUpTo v xs) (k : VarsUpTo v ys) where
  abbrev top : ℕ
  top = v + (length xs + length ys)

  front : VarsUpTo top xs
  front = vars_more v top (omega arith) xs h

  back : VarsUpTo top ys
  back = vars_more v top (omega arith) ys k

  ups : (i j : ℕ) → i ≤ length xs → j ≤ length ys → AreUpTo top (up_clauses xs ys v i j)
  ups i j a b =
      elim (i == 0 && (j == 0)) as (λ (t : Bool). AreUpTo top (if t then [] else (under xs i ++ (under ys j ++ positive_lit (v + i + j) ∷ [])) ∷ [])) [
        | true ↦ tt
        | false ↦ (each_append (λ (l : Lit). l.var ≤ top) (under xs i) (under ys j ++ positive_lit (v + i + j) ∷ []) (under_up top xs i front) (each_append (λ (l : Lit). l.var ≤ top) (under ys j) (positive_lit (v + i + j) ∷ []) (under_up top ys j back) (omega arith, tt)), tt)
      ]

  last_not : (i j : ℕ) → i ≤ length xs → j ≤ length ys → (i == length xs && (j == length ys)) ≡ false → v + i + j + 1 ≤ top
  last_not i j a b e = grind (arith, nat_tests)

  downs_up : (i j : ℕ) → i ≤ length xs → j ≤ length ys → AreUpTo top (down_clauses xs ys v i j)
  downs_up i j a b =
      elim (i == length xs && (j == length ys)) as (λ (t : Bool). (i == length xs && (j == length ys)) ≡ t → AreUpTo top (if t then [] else (over xs i ++ (over ys j ++ negative_lit (v + i + j + 1) ∷ [])) ∷ [])) [
        | true ↦ λ e. tt
        | false ↦ λ e. (each_append (λ (l : Lit). l.var ≤ top) (over xs i) (over ys j ++ negative_lit (v + i + j + 1) ∷ []) (over_up top xs i front) (each_append (λ (l : Lit). l.var ≤ top) (over ys j) (negative_lit (v + i + j + 1) ∷ []) (over_up top ys j back) (last_not i j a b e, tt)), tt)
      ] refl

  pairs_up : (i j : ℕ) → i ≤ length xs → j ≤ length ys → AreUpTo top (pair_clauses xs ys v i j)
  pairs_up i j a b = each_append (UpTo top) (up_clauses xs ys v i j) (down_clauses xs ys v i j) (ups i j a b) (downs_up i j a b)

  plus_up : DueUp v (plus_due v xs ys)
  plus_up = record {
    grows = omega arith;
    up = joined_up top (row_clauses xs ys v) (length xs + 1) (λ i a. joined_up top (pair_clauses xs ys v i) (length ys + 1) (λ j b. pairs_up i j (omega arith) (omega arith)));
    outputs = fresh_up v (length xs + length ys) top (omega arith);
  }

first_up : (v : ℕ) (parts : List (List ℕ)) → AllVarsUpTo v parts → VarsUpTo v (first_of parts)
first_up v [] h = tt
first_up v (p ∷ ps) h = h.0

alone_up : (v : ℕ) (parts : List (List ℕ)) → AllVarsUpTo v parts → DueUp v (alone_due v parts)
alone_up v parts h = record { grows = omega arith; up = tt; outputs = first_up v parts h }

both_up : (v : ℕ) (d e : Due) → DueUp v d → DueUp d.vars e → DueUp v (both_due d e)
both_up v d e h k =
    let a = h.grows in
    let b = k.grows in
    let both = plus_up e.vars d.outputs e.outputs (vars_more d.vars e.vars b d.outputs h.outputs) k.outputs in
    let sum = plus_due e.vars d.outputs e.outputs in
    let c : e.vars ≤ sum.vars = both.grows in
    record {
      grows = omega arith;
      up = each_append (UpTo sum.vars) (d.clauses ++ e.clauses) sum.clauses (each_append (UpTo sum.vars) d.clauses e.clauses (are_more d.vars sum.vars (omega arith) d.clauses h.up) (are_more e.vars sum.vars c e.clauses k.up)) both.up;
      outputs = both.outputs;
    }

total_by_up : (fuel v : ℕ) (parts : List (List ℕ)) → AllVarsUpTo v parts → DueUp v (total_by fuel v parts)
total_by_up zero v parts h = alone_up v parts h
total_by_up (suc fuel) v parts h =
    let n : ℕ = length parts / 2 in
    let front = total_by fuel v (take n parts) in
    let first : DueUp v front = total_by_up fuel v (take n parts) (each_take (VarsUpTo v) n parts h) in
    let second : DueUp front.vars (total_by fuel front.vars (drop n parts)) = total_by_up fuel front.vars (drop n parts) (all_vars_more v front.vars first.grows (drop n parts) (each_drop (VarsUpTo v) n parts h)) in
    elim (nat_le (length parts) 1) as (λ (t : Bool). DueUp v (if t then alone_due v parts else both_due front (total_by fuel front.vars (drop n parts)))) [
      | true ↦ alone_up v parts h
      | false ↦ both_up v front (total_by fuel front.vars (drop n parts)) first second
    ]

total_up : (v : ℕ) (parts : List (List ℕ)) → AllVarsUpTo v parts → DueUp v (total_due v parts)
total_up v parts h = total_by_up (length parts) v parts h

leaves_up : (w : ℕ) (xs : List ℕ) → VarsUpTo w xs → AllVarsUpTo w (leaves xs)
leaves_up w [] h = tt
leaves_up w (x ∷ xs) h = ((h.0, tt), leaves_up w xs h.1)

-- distances

difference_up : (v w : ℕ) (xs ys : List Lit) (i : ℕ) → v + i + 1 ≤ w → UpTo w xs → UpTo w ys → AreUpTo w (difference_at v xs ys i)
difference_up v w xs ys i le h k =
    let c : UpTo w (positive_lit (v + i + 1) ∷ atom_lit xs i ∷ atom_lit ys i ∷ []) = (le, (lit_up w xs i h, (lit_up w ys i k, tt))) in
    (c, (c, (c, (c, tt))))

differences_up : (v : ℕ) (xs ys : List Lit) (d : Due) → UpTo v xs → UpTo v ys → DueUp (v + length xs) d → DueUp v (after_differences v xs ys d)
differences_up v xs ys d h k due =
    let g = due.grows in
    record {
      grows = omega arith;
      up = each_append (UpTo d.vars) (joined_blocks (difference_at v xs ys) (length xs)) d.clauses
          (joined_up d.vars (difference_at v xs ys) (length xs) (λ i lt. difference_up v d.vars xs ys i (omega arith) (up_more v d.vars (omega arith) xs h) (up_more v d.vars (omega arith) ys k)))
          due.up;
      outputs = due.outputs;
    }

abbrev CountsUp : DueCounter → Type 0
CountsUp due = (v : ℕ) (xs ys : List Lit) → UpTo v xs → UpTo v ys → DueUp v (due v xs ys)

counter_up : (d : DistanceName) → CountsUp (counter_named d)
counter_up Drastic v xs ys h k = differences_up v xs ys (either_due (v + length xs) (fresh_vars v (length xs))) h k (either_up (v + length xs) (fresh_vars v (length xs)) (fresh_up v (length xs) (v + length xs) (omega arith)))
counter_up Hamming v xs ys h k = differences_up v xs ys (total_due (v + length xs) (leaves (fresh_vars v (length xs)))) h k (total_up (v + length xs) (leaves (fresh_vars v (length xs))) (leaves_up (v + length xs) (fresh_vars v (length xs)) (fresh_up v (length xs) (v + length xs) (omega arith))))

record CopiesUp (v : ℕ) (d : CopiesDue) : Type 0 where
  pub grows : v ≤ d.vars
  pub up : AreUpTo d.vars d.clauses
  pub aways : AllVarsUpTo d.vars (aways_of d.copies)

record CopyUp (v : ℕ) (d : CopyDue) : Type 0 where
  pub grows : v ≤ d.vars
  pub up : AreUpTo d.vars d.clauses
  pub away : VarsUpTo d.vars d.away

module _ (due : DueCounter) (law : CountsUp due) (shared : List Lit) where
  copy_up : (v : ℕ) (base : Formula) → UpTo v shared → CopyUp v (copy_due due v shared base)
  copy_up v base h =
      let own = fresh_lits v (length shared) in
      let n : ℕ = v + length shared in
      let d = definition own base n in
      let own_up : UpTo n own = fresh_lits_up v (length shared) n (omega arith) in
      let first : IsUp n d = formula_up own base n own_up in
      let x = first.grows in
      let c = due d.root shared own in
      let second : DueUp d.root c = law d.root shared own (up_more v d.root (omega arith) shared h) (up_more n d.root x own own_up) in
      let y = second.grows in
      record {
        grows = omega arith;
        up = each_append (UpTo c.vars) d.clauses c.clauses (are_more d.root c.vars y d.clauses first.up) second.up;
        away = second.outputs;
      }

  copies_up : (v : ℕ) (bases : List Formula) → UpTo v shared → CopiesUp v (copies_due due shared v bases)
  copies_up v [] h = record { grows = omega arith; up = tt; aways = tt }
  copies_up v (base ∷ bases) h =
      let c = copy_due due v shared base in
      let first : CopyUp v c = copy_up v base h in
      let x = first.grows in
      let more = copies_due due shared c.vars bases in
      let rest : CopiesUp c.vars more = copies_up c.vars bases (up_more v c.vars x shared h) in
      let y = rest.grows in
      record {
        grows = omega arith;
        up = each_append (UpTo more.vars) c.clauses more.clauses (are_more c.vars more.vars y c.clauses first.up) rest.up;
        aways = (vars_more c.vars more.vars y c.away first.away, rest.aways);
      }

-- levels

record LevelsUp (v : ℕ) (d : LevelsDue) : Type 0 where
  pub grows : v ≤ d.vars
  pub up : AreUpTo d.vars d.clauses

replicate_up : {X : Type 0} (P : X → Type 0) (n : ℕ) (x : X) → P x → AllByRecursion P (replicate n x)
replicate_up P zero x h = tt
replicate_up P (suc n) x h = (h, replicate_up P n x h)

repeated_up : {X : Type 0} (P : X → Type 0) (times : List ℕ) (xs : List X) → AllByRecursion P xs → AllByRecursion P (repeated times xs)
repeated_up P [] xs h = tt
repeated_up P (t ∷ ts) [] h = tt
repeated_up P (t ∷ ts) (x ∷ xs) h = each_append P (replicate t x) (repeated ts xs) (replicate_up P t x h.0) (repeated_up P ts xs h.1)

column_up : (w k : ℕ) (cs : List (List ℕ)) → AllVarsUpTo w cs → VarsUpTo w (column k cs)
column_up w k [] h = tt
column_up w k (c ∷ cs) h = (index_up w c k h.0, column_up w k cs h.1)

totals_up : (ks : List ℕ) (v : ℕ) (parts : List (List ℕ)) → AllVarsUpTo v parts → LevelsUp v (totals_due ks v parts)
totals_up [] v parts h = record { grows = omega arith; up = tt }
totals_up (k ∷ ks) v parts h =
    let xs = leaves (column (k - 1) parts) in
    let d = total_due v xs in
    let first : DueUp v d = total_up v xs (leaves_up v (column (k - 1) parts) (column_up v (k - 1) parts h)) in
    let x = first.grows in
    let more = totals_due ks d.vars parts in
    let rest : LevelsUp d.vars more = totals_up ks d.vars parts (all_vars_more v d.vars x parts h) in
    let y = rest.grows in
    record { grows = omega arith; up = each_append (UpTo more.vars) d.clauses more.clauses (are_more d.vars more.vars y d.clauses first.up) rest.up }

column_clauses_up : (v w k : ℕ) (aways : List (List ℕ)) → v + k + 1 ≤ w → AllVarsUpTo v aways → AreUpTo w (output_clauses v aways k)
column_clauses_up v w k aways le h =
    let d = either_up (v + k) (column k aways) (vars_more v (v + k) (omega arith) (column k aways) (column_up v k aways h)) in
    are_more (v + k + 1) w le (output_clauses v aways k) d.up

level_up : (a : AggregatorName) (v : ℕ) (aways : List (List ℕ)) (times : List ℕ) → AllVarsUpTo v aways → LevelsUp v (levels_named a v aways times)
level_up Sum v aways times h =
    let d = total_up v (repeated times aways) (repeated_up (VarsUpTo v) times aways h) in record { grows = d.grows; up = d.up }
level_up Max v aways times h = record {
  grows = omega arith;
  up = joined_up (v + top_of aways) (output_clauses v aways) (top_of aways) (λ k lt. column_clauses_up v (v + top_of aways) k aways (omega arith) h);
}
level_up Leximax v aways times h = totals_up (downs (top_of aways)) v (repeated times aways) (repeated_up (VarsUpTo v) times aways h)

-- the main clauses

pub main_up : (d : DistanceName) (a : AggregatorName) (p : Profile) (asks : List Formula) → let main = main_due (counter_named d) (levels_named a) p asks in AreUpTo main.vars main.clauses
main_up d a p asks =
    let shared = fresh_lits 0 p.atoms in
    let shared_up : UpTo p.atoms shared = fresh_lits_up 0 p.atoms p.atoms (omega arith) in
    let constraint = definition shared p.constraint p.atoms in
    let one : IsUp p.atoms constraint = formula_up shared p.constraint p.atoms shared_up in
    let g1 = one.grows in
    let asked = definitions shared constraint.root asks in
    let two : AreUp constraint.root asked = definitions_up shared constraint.root asks (up_more p.atoms constraint.root g1 shared shared_up) in
    let g2 = two.grows in
    let copied = copies_due (counter_named d) shared asked.vars p.bases in
    let three : CopiesUp asked.vars copied = copies_up (counter_named d) (counter_up d) shared asked.vars p.bases (up_more p.atoms asked.vars (omega arith) shared shared_up) in
    let g3 = three.grows in
    let leveled = levels_named a copied.vars (aways_of copied.copies) p.times in
    let four : LevelsUp copied.vars leveled = level_up a copied.vars (aways_of copied.copies) p.times three.aways in
    let g4 = four.grows in
    each_append (UpTo leveled.vars) ((constraint.clauses ++ asked.clauses) ++ copied.clauses) leveled.clauses
    (each_append (UpTo leveled.vars) (constraint.clauses ++ asked.clauses) copied.clauses
    (each_append (UpTo leveled.vars) constraint.clauses asked.clauses
    (are_more constraint.root leveled.vars (omega arith) constraint.clauses one.up)
    (are_more asked.vars leveled.vars (omega arith) asked.clauses two.up))
    (are_more copied.vars leveled.vars (omega arith) copied.clauses three.up))
    four.up

-- sorted

pub with_up : (v : ℕ) (l : Lit) (ms : List Lit) → l.var ≤ v → UpTo v ms → UpTo v (with_lit l ms)
with_up v l [] w h = (w, tt)
with_up v l (m ∷ ms) w h =
    elim (nat_lt (rank_of l) (rank_of m)) as (λ t. UpTo v (cond t (l ∷ m ∷ ms) (cond (same_lit l m) (m ∷ ms) (m ∷ with_lit l ms)))) [
      | true ↦ (w, h)
      | false ↦ elim (same_lit l m) as (λ t. UpTo v (cond t (m ∷ ms) (m ∷ with_lit l ms))) [ true ↦ h | false ↦ (h.0, with_up v l ms w h.1) ]
    ]

onto_up : (v : ℕ) (done ls : List Lit) → UpTo v done → UpTo v ls → UpTo v (sorted_onto done ls)
onto_up v done [] h k = h
onto_up v done (l ∷ ls) h k = onto_up v (with_lit l done) ls (with_up v l done k.0 h) k.1

pub stored_up : (v : ℕ) (cs : List (List Lit)) → AreUpTo v cs → AreUpTo v (map sorted_clause cs)
stored_up v [] h = tt
stored_up v (c ∷ cs) h = (onto_up v [] c tt h.0, stored_up v cs h.1)
