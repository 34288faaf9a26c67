-- What `trim` makes of a log in memory.
use Rattle.std.proofs.Common.{◌≡◌, ℕ, ◌+◌, ◌<◌, ◌≤◌, Bool, true, false, List, [], ◌∷◌, ◌++◌, length, ap, sym, ◌∙◌, subst, arith, get_or, map, take, drop, length-append, length-drop}
use Rattle.std.specs.Prelude.{replicate}
use Rattle.std.specs.List.{AllByRecursion}
use Rattle.std.proofs.lemmas.List.{length-replicate, length-map, length-take-le, take_at, drop_at}
use Rattle.clause_store.specs.declared.lit.Lit.{Lit}
use Rattle.clause_store.specs.Clauses.{Clauses}
use Rattle.clause_store.specs.Keeping.{kept_of}
use Rattle.derivation_log.specs.declared.step.Step.{Step}
use Rattle.derivation_log.specs.declared.derivations.Row.{Row}
use Rattle.derivation_log.specs.Logs.{Log, known_of, IsSound}
use Rattle.derivation_log.specs.Rows.{steps_of}
use Rattle.derivation_log.specs.Trimming.{numbers_in, IsNeeded, number_after, renumbered, IsTrimmed}
use Rattle.derivation_log.specs.Marking.{mark_all, numbers_of, swept, places_from, place_in, placed_row, AreBelow, RowsBelow}
use Rattle.derivation_log.proofs.Marks.{all_length}
use Rattle.derivation_log.proofs.Sweeps.{rows_below, same_uses, swept_length, needed_marks, needed_length, needed_exact}
use Rattle.derivation_log.proofs.Places.{places_after, steps_after, kept_lengths}
use Rattle.derivation_log.proofs.Steps.{stands, log_eq}

pub named_below : (g : Log) (ns : List ℕ) (bound : ℕ) → length (known_of g) ≤ bound → AllByRecursion (λ n. (length g.main ≤ n) × (n < length (known_of g))) ns → AreBelow bound ns
named_below g [] bound le h = tt
named_below g (n ∷ ns) bound le h = let lt = h.0.1 in (omega arith, named_below g ns bound le h.1)

-- the marks are one a row
pub marks_size : (m : ℕ) (rows : List Row) (named : List ℕ) (marks : List Bool) → marks ≡ swept m 0 (map numbers_of rows) (mark_all m named (replicate (length rows) false)) → length marks ≡ length rows
marks_size m rows named marks e =
    ap (λ (ms : List Bool). length ms) e ∙ swept_length m 0 (map numbers_of rows) (mark_all m named (replicate (length rows) false))
    ∙ all_length m named (replicate (length rows) false) ∙ length-replicate (length rows) false

module _ (g : Log) (all : List (List Lit)) (m v : ℕ) (rows : List Row) (inv : length all ≡ m + length rows) (view : (let a : Log = record { main = take m all; vars = v; steps = steps_of (drop m all) rows } in a ≡ g)) where
  left_size : length (drop m all) ≡ length rows
  left_size = let d = length-drop m all in omega arith

  pub rows_fit : IsSound g.main g.steps → RowsBelow (m + length rows) rows
  rows_fit sound =
      let own : IsSound (take m all) (steps_of (drop m all) rows) = subst (λ (x : Log). IsSound x.main x.steps) (sym view) sound in
      let front : length (take m all) ≡ m = length-take-le m all (omega arith) in
      rows_below (take m all) (drop m all) rows (m + length rows) left_size (omega arith) own

  marks_same : (named : List ℕ) → swept m 0 (map numbers_of rows) (mark_all m named (replicate (length rows) false)) ≡ needed_marks g named
  marks_same named =
      let s = stands g all m v rows inv view in
      let uses : map numbers_of rows ≡ map numbers_in g.steps = same_uses (drop m all) rows left_size ∙ ap (λ (ss : List Step). map numbers_in ss) (sym s.steps) in
      let count : length rows ≡ length g.steps = sym (length-map rows numbers_of) ∙ ap (λ (us : List (List ℕ)). length us) uses ∙ length-map g.steps numbers_in in
      ap (λ (us : List (List ℕ)). swept m 0 us (mark_all m named (replicate (length rows) false))) uses
      ∙ ap (λ (n : ℕ). swept m 0 (map numbers_in g.steps) (mark_all m named (replicate n false))) count
      ∙ ap (λ (n : ℕ). swept n 0 (map numbers_in g.steps) (mark_all n named (replicate (length g.steps) false))) (sym s.main)

  pub trim_is : (named : List ℕ) (marks : List Bool) (places numbers : List ℕ) (k : Clauses) (left : List Row) → IsSound g.main g.steps → AllByRecursion (λ n. (length g.main ≤ n) × (n < length (known_of g))) named
      → marks ≡ swept m 0 (map numbers_of rows) (mark_all m named (replicate (length rows) false)) → places ≡ places_from m marks → numbers ≡ map (place_in m places) named
      → k.list ≡ take m all ++ kept_of marks (drop m all) → k.vars ≡ v → left ≡ map (placed_row m places) (kept_of marks rows)
      → IsTrimmed g named (record { main = take m k.list; vars = k.vars; steps = steps_of (drop m k.list) left }) numbers
  trim_is named marks places numbers k left sound range em ep en ek ev er =
      let s = stands g all m v rows inv view in
      let main = s.main in
      let whole = s.known in
      let size : length marks ≡ length rows = marks_size m rows named marks em in
      let needed : marks ≡ needed_marks g named = em ∙ marks_same named in
      let front : length (take m all) ≡ m = length-take-le m all (omega arith) in
      let below : RowsBelow (m + length marks) rows = subst (λ (n : ℕ). RowsBelow (m + n) rows) (sym size) (rows_fit sound) in
      let clauses : drop m k.list ≡ kept_of marks (drop m all) = ap (λ (cs : List (List Lit)). drop m cs) ek ∙ drop_at (take m all) (kept_of marks (drop m all)) m front in
      let placed : left ≡ map (placed_row m (places_from m marks)) (kept_of marks rows) = er ∙ ap (λ (ps : List ℕ). map (placed_row m ps) (kept_of marks rows)) ep in
      let steps : steps_of (drop m k.list) left ≡ map (renumbered (number_after (length g.main) marks)) (kept_of marks g.steps) =
      ap (λ (cs : List (List Lit)). steps_of cs left) clauses ∙ ap (λ (rs : List Row). steps_of (kept_of marks (drop m all)) rs) placed
      ∙ steps_after m marks marks (drop m all) rows left_size below
      ∙ ap (λ (n : ℕ). map (renumbered (number_after n marks)) (kept_of marks (steps_of (drop m all) rows))) (sym s.main)
      ∙ ap (λ (ss : List Step). map (renumbered (number_after (length g.main) marks)) (kept_of marks ss)) (sym s.steps) in
      record {
        marks = marks;
        each = ap (λ (ms : List Bool). length ms) needed ∙ needed_length g named;
        exact = λ i lt. subst (λ (ms : List Bool). (get_or ms i false ≡ true → IsNeeded g named (length g.main + i)) × (IsNeeded g named (length g.main + i) → get_or ms i false ≡ true)) (sym needed) (needed_exact g named sound i lt);
        left = log_eq (ap (λ (cs : List (List Lit)). take m cs) ek ∙ take_at (take m all) (kept_of marks (drop m all)) m front ∙ ap (λ (x : Log). x.main) view) (ev ∙ ap (λ (x : Log). x.vars) view) steps;
        numbered = en ∙ ap (λ (ps : List ℕ). map (place_in m ps) named) ep ∙ places_after m marks named (named_below g named (m + length marks) (omega arith) range)
            ∙ ap (λ (n : ℕ). map (number_after n marks) named) (sym s.main);
      }

  pub trim_whole : (marks : List Bool) (places : List ℕ) (k : Clauses) (left : List Row) → k.list ≡ take m all ++ kept_of marks (drop m all) → left ≡ map (placed_row m places) (kept_of marks rows) → length k.list ≡ m + length left
  trim_whole marks places k left ek er =
      let front : length (take m all) ≡ m = length-take-le m all (omega arith) in
      let both = length-append (take m all) (kept_of marks (drop m all)) in
      let same = kept_lengths marks (drop m all) rows left_size in
      let one = length-map (kept_of marks rows) (placed_row m places) in
      let a = ap (λ (cs : List (List Lit)). length cs) ek in
      let b = ap (λ (rs : List Row). length rs) er in omega arith
