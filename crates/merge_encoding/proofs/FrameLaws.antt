-- The frame of the main clauses is over their variables, and its literals are positive and on distinct variables.
use Rattle.std.proofs.Common.{◌≡◌, ℕ, ◌-◌, ◌<◌, ◌≤◌, inl, inr, Bool, true, List, [], ◌∷◌, ◌++◌, length, map, refl, sym, ap, ◌∙◌, arith, All, length-append}
use Rattle.std.specs.Prelude.{slice_index}
use Rattle.std.specs.List.{AllByRecursion, concat}
use Rattle.std.proofs.lemmas.Bool.Decides.{leb_tells}
use Rattle.std.proofs.lemmas.List.Elements.{All-cons, All-nil, All-append, All-map}
use Rattle.clause_store.specs.declared.lit.Lit.{Lit}
use Rattle.clause_store.specs.Lits.{positive_lit}
use Rattle.clause_store.proofs.Truths.{within_more}
use Rattle.clause_store.proofs.Once.{times_in, vars_of, IsOnce, times_append, pairs_apart}
use Rattle.formulas.specs.declared.formula.Formula.{Formula}
use Rattle.clause_translation.proofs.Parts.{some_node}
use Rattle.totalizer.specs.Counter.{AreVarsWithin, AreFresh}
use Rattle.clause_store.specs.Fresh.{fresh_vars}
use Rattle.totalizer.proofs.Distinct.{ShareNone, place_left, place_right, fresh_append, distinct_append, once_of}
use Rattle.totalizer.proofs.FreshVars.{fresh_vars_are}
use Rattle.totalizer.proofs.Law.{more_vars}
use Rattle.totalizer.proofs.Disjunctions.{pos_within}
use Rattle.merge_model.specs.Merging.{Profile}
use Rattle.agent_copies.specs.declared.copy.AgentCopy.{AgentCopy}
use Rattle.agent_copies.specs.Copy.{CopyDue}
use Rattle.agent_copies.proofs.Copies.{fresh_cons}
use Rattle.aggregators.proofs.Outputs.{distinct_before}
use Rattle.merge_encoding.specs.MainDues.{DueCounter, DueLevels, aways_of, main_due, IsLimited}
use Rattle.merge_encoding.specs.Frames.{copy_of, frame_of, IsCopyOver, IsFrameOver, level_lits, distance_lits, FrameIsDistinct}
use Rattle.merge_encoding.proofs.Defined.{definitions_fresh}
use Rattle.merge_encoding.proofs.Copied.{roots_of}
use Rattle.merge_encoding.proofs.Counts.{times_positive, level_times, distance_times}
use Rattle.merge_encoding.proofs.OneAssignment.{AreLaws, shared_of, constraint_of, asked_of, copied_of, leveled_of, shared_long, shared_within, constraint_room, asked_room, copies_made, levels_made}
use Rattle.merge_encoding.proofs.Encoded.{aways_map}

-- more variables
copies_more_over : (v w n : ℕ) (cs : List AgentCopy) → v ≤ w → AllByRecursion (IsCopyOver v n) cs → AllByRecursion (IsCopyOver w n) cs
copies_more_over v w n [] le h = tt
copies_more_over v w n (c ∷ cs) le h =
    let o = h.0 in
    let r = o.root in
    let low = r.0 in
    let high = r.1 in
    (record { size = o.size; own = within_more v w c.own le o.own; root = (low, omega arith); away = more_vars v w c.away le o.away }, copies_more_over v w n cs le h.1)

-- positive literals
abbrev ArePositive : List Lit → Type 0
ArePositive ls = All (λ (l : Lit). l.positive ≡ true) ls

positives : (xs : List ℕ) → ArePositive (map positive_lit xs)
positives xs = All-map (λ (l : Lit). l.positive ≡ true) positive_lit xs (λ k d lt. refl)

roots_positive : (cs : List CopyDue) → ArePositive (map (λ (c : AgentCopy). c.root) (map copy_of cs))
roots_positive [] = All-nil (λ (l : Lit). l.positive ≡ true)
roots_positive (c ∷ cs) = All-cons (λ (l : Lit). l.positive ≡ true) (positive_lit c.root) (map (λ (x : AgentCopy). x.root) (map copy_of cs)) refl (roots_positive cs)

positive_join : (ls ms : List Lit) → ArePositive ls → ArePositive ms → ArePositive (ls ++ ms)
positive_join ls ms h k = All-append (λ (l : Lit). l.positive ≡ true) ls ms h k

-- the frame's literals as variables
root_vars : (cs : List CopyDue) → vars_of (map (λ (c : AgentCopy). c.root) (map copy_of cs)) ≡ roots_of cs
root_vars [] = refl
root_vars (c ∷ cs) = ap (λ x. c.root ∷ x) (root_vars cs)

share_none : (v w : ℕ) (xs roots outputs : List ℕ) → ((k : ℕ) → k < length xs → slice_index xs k ≤ v) → AreFresh v w outputs → ShareNone roots outputs → ShareNone (xs ++ roots) outputs
share_none v w xs roots outputs low f apart j k hj hk e =
    let size = length-append xs roots in
    elim (leb_tells (length xs) j) [
      | inl x ↦ (let far : length xs ≤ j = x.1 in apart (j - length xs) k (omega arith) hk (sym (place_right xs roots j far) ∙ e))
      | inr x ↦ (let near : j < length xs = x.1 in
          let at_j = place_left xs roots j near in
          let lo = low j near in
          let hi = f.above k hk in
          omega arith)
    ]

module _ (dist : List Bool → List Bool → ℕ) (most : ℕ → ℕ) (due : DueCounter) (values_of : List ℕ → ℕ → List ℕ) (levels_due : DueLevels) (laws : AreLaws dist most due values_of levels_due) (p : Profile) (asks : List Formula) (lim : IsLimited p asks) where
  abbrev front : List ℕ
  front = fresh_vars 0 p.atoms ++ (constraint_of p).root ∷ (asked_of p asks).roots

  front_fresh : AreFresh 0 (asked_of p asks).vars front
  front_fresh =
      let n = p.atoms in
      let c = constraint_of p in
      let a = asked_of p asks in
      let is = constraint_room p in
      let some = some_node p.constraint in
      let asked = definitions_fresh (shared_of p) c.root asks in
      let up = asked.0 in
      fresh_append 0 n a.vars (fresh_vars 0 n) (c.root ∷ a.roots) (omega arith) (omega (arith, is, up)) (fresh_vars_are 0 0 n n (omega arith) (omega arith)) (fresh_cons n c.root a.vars c.root a.roots (omega (arith, is, some)) (omega arith) up asked.1)

  shared_fresh : AreFresh 0 (asked_of p asks).vars (fresh_vars 0 p.atoms)
  shared_fresh = let room = asked_room p asks in fresh_vars_are 0 0 (asked_of p asks).vars p.atoms (omega arith) (omega (arith, room))

  level_vars : IsOnce ((front ++ roots_of (copied_of due p asks).copies) ++ concat (leveled_of due levels_due p asks).levels)
  level_vars =
      let a = asked_of p asks in
      let k = copied_of due p asks in
      let kd = copies_made dist most due values_of levels_due laws p asks lim in
      let ld = levels_made dist most due values_of levels_due laws p asks lim in
      let f = front_fresh in
      let outs = kd.outputs_fresh in
      let all : AreFresh 0 k.vars (front ++ roots_of k.copies) = fresh_append 0 a.vars k.vars front (roots_of k.copies) (omega arith) kd.grows f kd.roots_fresh in
      let within : AreVarsWithin k.vars (front ++ roots_of k.copies) = λ i lt. (let x = all.above i lt in omega arith, all.within i lt) in
      once_of _ (distinct_before k.vars (front ++ roots_of k.copies) (concat (aways_of k.copies)) _ within all.distinct
      (share_none a.vars k.vars front (roots_of k.copies) (concat (aways_of k.copies)) f.within outs kd.apart) ld.origin (ld.distinct outs.distinct))

  distance_vars : IsOnce ((fresh_vars 0 p.atoms ++ roots_of (copied_of due p asks).copies) ++ concat (aways_of (copied_of due p asks).copies))
  distance_vars =
      let a = asked_of p asks in
      let k = copied_of due p asks in
      let kd = copies_made dist most due values_of levels_due laws p asks lim in
      let g = shared_fresh in
      let outs = kd.outputs_fresh in
      let both : AreFresh 0 k.vars (fresh_vars 0 p.atoms ++ roots_of k.copies) = fresh_append 0 a.vars k.vars (fresh_vars 0 p.atoms) (roots_of k.copies) (omega arith) kd.grows g kd.roots_fresh in
      once_of _ (distinct_append (fresh_vars 0 p.atoms ++ roots_of k.copies) (concat (aways_of k.copies)) both.distinct outs.distinct
      (share_none a.vars k.vars (fresh_vars 0 p.atoms) (roots_of k.copies) (concat (aways_of k.copies)) g.within outs kd.apart))

  levels_once : IsOnce (vars_of (level_lits (frame_of (main_due due levels_due p asks))))
  levels_once z =
      let n = p.atoms in
      let c = constraint_of p in
      let a = asked_of p asks in
      let k = copied_of due p asks in
      let l = leveled_of due levels_due p asks in
      let roots = ap (times_in z) (root_vars k.copies) in
      omega (
        arith,
        level_vars z,
        level_times z (frame_of (main_due due levels_due p asks)),
        times_positive z (fresh_vars 0 n),
        times_positive z a.roots,
        roots,
        times_append z (front ++ roots_of k.copies) (concat l.levels),
        times_append z front (roots_of k.copies),
        times_append z (fresh_vars 0 n) (c.root ∷ a.roots),
      )

  distances_once : IsOnce (vars_of (distance_lits (frame_of (main_due due levels_due p asks))))
  distances_once z =
      let n = p.atoms in
      let k = copied_of due p asks in
      let roots = ap (times_in z) (root_vars k.copies) in
      let outputs = ap (λ xs. times_in z (concat xs)) (aways_map k.copies) in
      omega (
        arith,
        distance_vars z,
        distance_times z (frame_of (main_due due levels_due p asks)),
        times_positive z (fresh_vars 0 n),
        roots,
        outputs,
        times_append z (fresh_vars 0 n ++ roots_of k.copies) (concat (aways_of k.copies)),
        times_append z (fresh_vars 0 n) (roots_of k.copies),
      )

  pub frame_distinct : FrameIsDistinct (frame_of (main_due due levels_due p asks))
  frame_distinct =
      let f = frame_of (main_due due levels_due p asks) in
      let k = copied_of due p asks in
      let a = asked_of p asks in
      let shared : ArePositive f.shared = positives (fresh_vars 0 p.atoms) in
      let roots : ArePositive (map (λ (c : AgentCopy). c.root) f.copies) = roots_positive k.copies in
      record {
        by_levels = record {
          positive = positive_join f.shared _ shared (positive_join (f.constraint ∷ map (λ (c : AgentCopy). c.root) f.copies) _
              (All-cons (λ (l : Lit). l.positive ≡ true) f.constraint (map (λ (c : AgentCopy). c.root) f.copies) refl roots)
              (positive_join f.asks (map positive_lit (concat f.levels)) (positives a.roots) (positives (concat f.levels))));
          distinct = pairs_apart (level_lits f) levels_once;
        };
        by_distances = record {
          positive = positive_join f.shared _ shared (positive_join (map (λ (c : AgentCopy). c.root) f.copies) (map positive_lit (concat (map (λ (c : AgentCopy). c.away) f.copies))) roots (positives (concat (map (λ (c : AgentCopy). c.away) f.copies))));
          distinct = pairs_apart (distance_lits f) distances_once;
        };
      }

  pub frame_over : IsFrameOver (main_due due levels_due p asks).vars (frame_of (main_due due levels_due p asks))
  frame_over =
      let n = p.atoms in
      let ln = shared_long p in
      let c = constraint_of p in
      let a = asked_of p asks in
      let k = copied_of due p asks in
      let l = leveled_of due levels_due p asks in
      let kd = copies_made dist most due values_of levels_due laws p asks lim in
      let ld = levels_made dist most due values_of levels_due laws p asks lim in
      let g : a.vars ≤ k.vars = kd.grows in
      let h : k.vars ≤ l.vars = ld.extends.grows in
      let is = constraint_room p in
      let some = some_node p.constraint in
      let asked = definitions_fresh (shared_of p) c.root asks in
      let up = asked.0 in
      let f = asked.1 in
      record {
        few = omega (arith, ln, lim.few_atoms);
        shared = shared_within p l.vars (omega (arith, is, up));
        constraint = (omega (arith, is, some), omega arith);
        asks = pos_within l.vars a.roots (λ i lt. let x = f.above i lt in let y = f.within i lt in (omega arith, omega arith));
        copies = copies_more_over k.vars l.vars (length (shared_of p)) (map copy_of k.copies) h kd.over;
        levels = ld.within;
      }
