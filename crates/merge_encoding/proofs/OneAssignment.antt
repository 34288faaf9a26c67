-- Given valuations, exactly one assignment satisfies the main clauses.
use Rattle.std.proofs.Common.{◌≡◌, ℕ, ◌+◌, [], ◌≤◌, Bool, List, ◌∷◌, ◌++◌, length, refl, sym, ap, ◌∙◌, subst, arith, All}
use Rattle.std.specs.Prelude.{sum_by}
use Rattle.std.proofs.lemmas.List.{length-map}
use Rattle.std.proofs.lemmas.List.Elements.{All-head}
use Rattle.clause_store.specs.declared.lit.Lit.{Lit}
use Rattle.clause_store.specs.Lits.{InRange}
use Rattle.clause_store.specs.Extends.{Extends, Always}
use Rattle.clause_store.specs.Truth.{AreTrue}
use Rattle.clause_store.proofs.Truths.{within_more, both_true, true_both}
use Rattle.clause_store.proofs.Blocks.{next, weaker}
use Rattle.formulas.specs.declared.formula.Formula.{Formula}
use Rattle.formulas.specs.Formulas.{nodes_of, width_of}
use Rattle.clause_translation.specs.Definition.{Definition, definition}
use Rattle.clause_translation.proofs.Defines.{defines}
use Rattle.clause_translation.proofs.Parts.{root_is}
use Rattle.totalizer.specs.Counter.{AllUnary}
use Rattle.merge_model.specs.Merging.{Profile, repeated}
use Rattle.agent_copies.specs.Counter.{truth_of}
use Rattle.formulas.specs.Limits.{valuation_limit}
use Rattle.agent_copies.proofs.Truths.{free}
use Rattle.ranks.specs.Limits.{distance_limit}
use Rattle.agent_copies.specs.Copy.{CopyDue}
use Rattle.clause_store.specs.Fresh.{fresh_lits}
use Rattle.agent_copies.proofs.Copies.{Counts}
use Rattle.clause_store.proofs.Fresh.{length-fresh_lits, fresh_lits_in}
use Rattle.aggregators.specs.Levels.{LevelsDue, FitLevels, top_of, HaveLevels, AreLevels}
use Rattle.merge_encoding.specs.MainDues.{DueCounter, DueLevels, DefinedAll, definitions, CopiesDue, copies_due, aways_of, owns_of, main_due, distances_in, IsLimited, IsMain}
use Rattle.merge_encoding.proofs.Defined.{definitions_are, roots_size, definitions_room}
use Rattle.merge_encoding.proofs.Copied.{AreCopies, copies_are}

-- what the laws of an aggregator say of its levels
abbrev pub Levels : (List ℕ → ℕ → List ℕ) → DueLevels → Type 0
Levels values_of levels_due = (v : ℕ) (aways : List (List ℕ)) (times : List ℕ) → HaveLevels v aways times → AreLevels v aways times values_of (levels_due v aways times)

-- what the laws of a distance and of an aggregator say that the main clauses stand on
pub record AreLaws (dist : List Bool → List Bool → ℕ) (most : ℕ → ℕ) (due : DueCounter) (values_of : List ℕ → ℕ → List ℕ) (levels_due : DueLevels) : Type 0 where
  pub counts : Counts dist most due
  pub levels : Levels values_of levels_due
  pub bounded : (n : ℕ) → 1 ≤ n → n ≤ valuation_limit → most n ≤ distance_limit

-- the parts of the main clauses
abbrev pub shared_of : Profile → List Lit
shared_of p = fresh_lits 0 p.atoms

abbrev pub constraint_of : Profile → Definition
constraint_of p = definition (shared_of p) p.constraint p.atoms

abbrev pub asked_of : Profile → List Formula → DefinedAll
asked_of p asks = definitions (shared_of p) (constraint_of p).root asks

abbrev pub copied_of : DueCounter → Profile → List Formula → CopiesDue
copied_of due p asks = copies_due due (shared_of p) (asked_of p asks).vars p.bases

abbrev pub leveled_of : DueCounter → DueLevels → Profile → List Formula → LevelsDue
leveled_of due levels_due p asks = levels_due (copied_of due p asks).vars (aways_of (copied_of due p asks).copies) p.times

pub shared_long : (p : Profile) → length (shared_of p) ≡ p.atoms
shared_long p = length-fresh_lits 0 p.atoms

pub shared_within : (p : Profile) (v : ℕ) → p.atoms ≤ v → InRange v (shared_of p)
shared_within p v le = fresh_lits_in 0 p.atoms v (omega arith)

-- each node of the constraint and of the queries takes one variable
pub constraint_room : (p : Profile) → (constraint_of p).root ≡ p.atoms + nodes_of p.constraint
constraint_room p = root_is p.constraint (shared_of p) p.atoms

pub asked_room : (p : Profile) (asks : List Formula) → (asked_of p asks).vars ≡ p.atoms + nodes_of p.constraint + sum_by nodes_of asks
asked_room p asks = omega (arith, constraint_room p, definitions_room (shared_of p) (constraint_of p).root asks)

top_by : (top : ℕ) (cs : List (List ℕ)) → 1 ≤ length cs → All (λ c. length c ≡ top) cs → top_of cs ≡ top
top_by top [] some h = absurd (omega arith)
top_by top (c ∷ cs) some h = All-head (λ x. length x ≡ top) c cs h

main_one : (n cv av kv lv : ℕ) (shared : List Lit) (c a k l : List (List Lit)) (copies : List CopyDue) (P : (ℕ → Bool) → Type 0) (v : List Bool) (ws : List (List Bool)) →
    Extends Always (λ b. truth_of b shared ≡ v) 0 n → Extends Always (AreTrue c) n cv → Extends Always (AreTrue a) cv av → Extends Always (λ b. (owns_of b copies ≡ ws) × AreTrue k b) av kv → Extends P (AreTrue l) kv lv → ((b : ℕ → Bool) → AreTrue k b → P b) →
    Extends Always (λ b. ((truth_of b shared ≡ v) × (owns_of b copies ≡ ws)) × AreTrue (((c ++ a) ++ k) ++ l) b) 0 lv
main_one n cv av kv lv shared c a k l copies P v ws first second third fourth fifth leads =
    let R : (ℕ → Bool) → Type 0 = λ b. ((truth_of b shared ≡ v) × AreTrue c b) × AreTrue a b in
    let S : (ℕ → Bool) → Type 0 = λ b. R b × ((owns_of b copies ≡ ws) × AreTrue k b) in
    let U : (ℕ → Bool) → Type 0 = λ b. S b × AreTrue l b in
    let T : (ℕ → Bool) → Type 0 = λ b. ((truth_of b shared ≡ v) × (owns_of b copies ≡ ws)) × AreTrue (((c ++ a) ++ k) ++ l) b in
    let one = next Always Always (λ b. truth_of b shared ≡ v) (AreTrue c) 0 n cv first second (λ b p r. tt) in
    let two : Extends Always R 0 av = next Always Always (λ b. (truth_of b shared ≡ v) × AreTrue c b) (AreTrue a) 0 cv av one third (λ b p r. tt) in
    let three : Extends Always S 0 kv = next Always Always R (λ b. (owns_of b copies ≡ ws) × AreTrue k b) 0 av kv two fourth (λ b p r. tt) in
    let four : Extends Always U 0 lv = next Always P S (AreTrue l) 0 kv lv three fifth (λ b p r. leads b r.1.1) in
    let to : (b : ℕ → Bool) → T b → U b = λ b r.
    let x = both_true b ((c ++ a) ++ k) l r.1 in
    let y = both_true b (c ++ a) k x.0 in
    let z = both_true b c a y.0 in
    ((((r.0.0, z.0), z.1), (r.0.1, y.1)), x.1) in
    let from : (b : ℕ → Bool) → U b → T b = λ b r.
    ((r.0.0.0.0, r.0.1.0), true_both b ((c ++ a) ++ k) l (true_both b (c ++ a) k (true_both b c a r.0.0.0.1 r.0.0.1) r.0.1.1) r.1) in
    weaker Always Always T U 0 lv four (λ a b h p. tt) (λ a b h r. from b (four.within a b h (to a r))) (λ b p. p) (λ b p r. to b r) (λ b p r. from b r)

module _ (dist : List Bool → List Bool → ℕ) (most : ℕ → ℕ) (due : DueCounter) (values_of : List ℕ → ℕ → List ℕ) (levels_due : DueLevels) (laws : AreLaws dist most due values_of levels_due) (p : Profile) (asks : List Formula) (lim : IsLimited p asks) where
  pub copies_made : AreCopies (asked_of p asks).vars (shared_of p) p.bases dist (most p.atoms) (copied_of due p asks)
  copies_made =
      let ln = shared_long p in
      let room = asked_room p asks in
      subst (λ n. AreCopies (asked_of p asks).vars (shared_of p) p.bases dist (most n) (copied_of due p asks)) ln
      (copies_are dist most due laws.counts (shared_of p) (omega (arith, ln, lim.some_atom)) (omega (arith, ln, lim.few_atoms)) (asked_of p asks).vars (shared_within p (asked_of p asks).vars (omega (arith, room))) p.bases
      (subst (λ n. All (λ f. width_of f ≤ n) p.bases) (sym ln) lim.bases_wide))

  pub aways_long : length (aways_of (copied_of due p asks).copies) ≡ length p.bases
  aways_long = length-map (copied_of due p asks).copies (λ (x : CopyDue). x.away) ∙ copies_made.size

  pub top_is : top_of (aways_of (copied_of due p asks).copies) ≡ most p.atoms
  top_is = top_by (most p.atoms) (aways_of (copied_of due p asks).copies) (omega (arith, aways_long, lim.some_base)) copies_made.sized

  -- the counters of the copies have levels
  pub have_levels : HaveLevels (copied_of due p asks).vars (aways_of (copied_of due p asks).copies) p.times
  have_levels = record {
    lengths = aways_long ∙ lim.lengths;
    some = omega (arith, aways_long, lim.some_base);
    positive = lim.each_counts;
    few = lim.few_times;
    sized = subst (λ m. All (λ c. length c ≡ m) (aways_of (copied_of due p asks).copies)) (sym top_is) copies_made.sized;
    small = omega (arith, top_is, laws.bounded p.atoms lim.some_atom lim.few_atoms);
    within = copies_made.within;
  }

  pub levels_made : AreLevels (copied_of due p asks).vars (aways_of (copied_of due p asks).copies) p.times values_of (leveled_of due levels_due p asks)
  levels_made = laws.levels (copied_of due p asks).vars (aways_of (copied_of due p asks).copies) p.times have_levels

  pub main_is : IsMain dist (most p.atoms) values_of p asks (main_due due levels_due p asks)
  main_is =
      let n = p.atoms in
      let shared = shared_of p in
      let ln = shared_long p in
      let c = constraint_of p in
      let a = asked_of p asks in
      let k = copied_of due p asks in
      let l = leveled_of due levels_due p asks in
      let main = main_due due levels_due p asks in
      let in_n = shared_within p n (omega arith) in
      let cd = defines p.constraint n shared in_n (omega (arith, ln, lim.constraint_wide)) in
      let in_c : InRange c.root shared = within_more n c.root shared cd.extends.grows in_n in
      let ad = definitions_are shared c.root asks in_c (subst (λ m. All (λ f. width_of f ≤ m) asks) (sym ln) lim.asks_wide) in
      let kd = copies_made in
      let ld = levels_made in
      let parts : (b : ℕ → Bool) → AreTrue main.clauses b → ((AreTrue c.clauses b × AreTrue a.clauses b) × AreTrue k.clauses b) × AreTrue l.clauses b = λ b r.
      let x = both_true b ((c.clauses ++ a.clauses) ++ k.clauses) l.clauses r in
      let y = both_true b (c.clauses ++ a.clauses) k.clauses x.0 in
      ((both_true b c.clauses a.clauses y.0, y.1), x.1) in
      record {
        shared_are = refl;
        size = kd.size;
        wide = subst (λ m. All (λ (x : CopyDue). length x.own ≡ m) k.copies) ln kd.wide;
        one = λ v ws ev es o. main_one n c.root a.vars k.vars l.vars shared c.clauses a.clauses k.clauses l.clauses k.copies (λ b. AllUnary b (aways_of k.copies)) v ws
            (let z : 0 + n ≡ n = omega arith in subst (λ m. Extends Always (λ b. truth_of b shared ≡ v) 0 m) z (free 0 n v ev))
            cd.extends ad.extends (kd.extends ws es (subst (λ m. All (λ w. length w ≡ m) ws) (sym ln) o)) ld.extends kd.in_order;
        constraint_is = λ b r. cd.value b (parts b r).0.0.0;
        asks_are = λ b r. ad.values b (parts b r).0.0.1;
        roots_are = λ b r. kd.roots b (parts b r).0.1;
        counters_in_order = λ b r. kd.in_order b (parts b r).0.1;
        counters_are = λ b r. kd.values b (parts b r).0.1;
        levels_in_order = λ b r. ld.in_order b (kd.in_order b (parts b r).0.1) (parts b r).1;
        levels_are = λ b r. ld.values b (kd.in_order b (parts b r).0.1) (parts b r).1
            ∙ ap (λ us. values_of (repeated p.times us) (top_of (aways_of k.copies))) (kd.values b (parts b r).0.1)
            ∙ ap (values_of (repeated p.times (distances_in dist b main))) top_is;
        asks_size = roots_size shared c.root asks;
        counters_sized = kd.sized;
        levels_fit = λ us e h. subst (λ t. FitLevels (values_of (repeated p.times us) t) l.levels) top_is (ld.fits us (e ∙ sym aways_long) (subst (λ t. All (λ u. u ≤ t) us) (sym top_is) h));
      }
