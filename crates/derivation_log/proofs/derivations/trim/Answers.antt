use Rattle.std.proofs.Common.{◌≡◌, ◌+◌, ◌++◌, ◌∙◌, ℕ, Bool, false, List, length, map, take, drop, ap, sym, subst, arith}
use Rattle.std.specs.Prelude.{replicate}
use Rattle.clause_store.specs.Clauses.{Clauses}
use Rattle.clause_store.specs.Keeping.{kept_of}
use Rattle.derivation_log.specs.declared.derivations.Row.{Row}
use Rattle.derivation_log.specs.Marking.{mark_all, numbers_of, swept, places_from, place_in, placed_row, RowsBelow}
use Rattle.derivation_log.proofs.Steps.{stands}
use Rattle.derivation_log.proofs.Places.{length-places}
use Rattle.derivation_log.proofs.Trims.{left_sound, left_named}
use Rattle.derivation_log.proofs.Uses.{left_used}
use Rattle.derivation_log.proofs.Trimmed.{named_below, marks_size, rows_fit, trim_is, trim_whole}
use Rattle.derivation_log.proofs.derivations.trim.Goals as goal

pub marks_of-requires-clause-named : goal.marks_of-requires-clause-named
marks_of-requires-clause-named c =
    let d = c.derivations.inside in
    let s = stands c.args.derivations d.known.list d.main d.known.vars d.rows.items c.derivations.invariant c.derivations.view_is in
    let rows = ap (λ (rs : List Row). length rs) c.deref.ensures.value in
    named_below c.args.derivations c.args.needed.now (d.main + length c.deref.result.now) (omega (arith, s.known, c.derivations.invariant, rows)) c.requires.steps

pub marks_of-requires-clause-rows : goal.marks_of-requires-clause-rows
marks_of-requires-clause-rows c =
    let d = c.derivations.inside in
    subst (λ (rs : List Row). RowsBelow (d.main + length rs) rs) (sym c.deref.ensures.value) (rows_fit c.args.derivations d.known.list d.main d.known.vars d.rows.items c.derivations.invariant c.derivations.view_is c.requires.sound)

-- one mark and one new number a row
marks_count : (m : ℕ) (rows seen : List Row) (named : List ℕ) (marks : List Bool) → seen ≡ rows → marks ≡ swept m 0 (map numbers_of seen) (mark_all m named (replicate (length seen) false)) → length marks ≡ length rows
marks_count m rows seen named marks e h = marks_size m seen named marks h ∙ ap (λ (rs : List Row). length rs) e

places_count : (m : ℕ) (marks seen : List Bool) (places : List ℕ) → seen ≡ marks → places ≡ places_from m seen → length places ≡ length marks
places_count m marks seen places e h = ap (λ (ns : List ℕ). length ns) h ∙ length-places m seen ∙ ap (λ (ms : List Bool). length ms) e

pub new_numbers-requires : goal.new_numbers-requires
new_numbers-requires c =
    let d = c.derivations.inside in
    let s = stands c.args.derivations d.known.list d.main d.known.vars d.rows.items c.derivations.invariant c.derivations.view_is in
    let marks = marks_count d.main d.rows.items c.deref.result.now c.args.needed.now c.in_ok-marks.marks.items c.deref.ensures.value c.in_ok-marks.ensures in
    let places = places_count d.main c.in_ok-marks.marks.items c.deref-2.result.now c.in_ok-places.places.items c.deref-2.ensures.value c.in_ok-places.ensures in
    let seen = ap (λ (ns : List ℕ). length ns) c.deref-3.ensures.value in
    named_below c.args.derivations c.args.needed.now (d.main + length c.deref-3.result.now) (omega (arith, s.known, c.derivations.invariant, marks, places, seen)) c.requires.steps

pub keep-requires : goal.keep-requires
keep-requires c =
    let d = c.derivations.inside in
    let marks = marks_count d.main d.rows.items c.deref.result.now c.args.needed.now c.in_ok-marks.marks.items c.deref.ensures.value c.in_ok-marks.ensures in
    let seen = ap (λ (ms : List Bool). length ms) c.deref-4.ensures.value in
    omega (arith, c.derivations.invariant, marks, seen)

pub keep_rows-requires-clause-each : goal.keep_rows-requires-clause-each
keep_rows-requires-clause-each c =
    let d = c.derivations.inside in
    ap (λ (ms : List Bool). length ms) c.deref-5.ensures.value ∙ marks_count d.main d.rows.items c.deref.result.now c.args.needed.now c.in_ok-marks.marks.items c.deref.ensures.value c.in_ok-marks.ensures

pub keep_rows-requires-clause-rows : goal.keep_rows-requires-clause-rows
keep_rows-requires-clause-rows c =
    let d = c.derivations.inside in
    let marks = marks_count d.main d.rows.items c.deref.result.now c.args.needed.now c.in_ok-marks.marks.items c.deref.ensures.value c.in_ok-marks.ensures in
    let places = places_count d.main c.in_ok-marks.marks.items c.deref-2.result.now c.in_ok-places.places.items c.deref-2.ensures.value c.in_ok-places.ensures in
    let seen = ap (λ (ns : List ℕ). length ns) c.deref-6.ensures.value in
    let count : length c.deref-6.result.now ≡ length d.rows.items = omega (arith, marks, places, seen) in
    subst (λ (n : ℕ). RowsBelow (d.main + n) d.rows.items) (sym count) (rows_fit c.args.derivations d.known.list d.main d.known.vars d.rows.items c.derivations.invariant c.derivations.view_is c.requires.sound)

pub invariant_of-result : goal.invariant_of-result
invariant_of-result c =
    let d = c.derivations.inside in
    trim_whole c.args.derivations d.known.list d.main d.known.vars d.rows.items c.derivations.invariant c.derivations.view_is c.in_ok-marks.marks.items c.in_ok-places.places.items c.keep.new.self c.keep_rows.new.rows.items
    (ap (λ (k : Clauses). k.list) c.keep.ensures ∙ ap (λ (ms : List Bool). take d.main d.known.list ++ kept_of ms (drop d.main d.known.list)) c.deref-4.ensures.value)
    (c.keep_rows.ensures ∙ ap (λ (ms : List Bool). map (placed_row d.main c.deref-6.result.now) (kept_of ms d.rows.items)) c.deref-5.ensures.value ∙ ap (λ (ps : List ℕ). map (placed_row d.main ps) (kept_of c.in_ok-marks.marks.items d.rows.items)) c.deref-6.ensures.value)

pub returns-clause-trimmed : goal.returns-clause-trimmed
returns-clause-trimmed c =
    let d = c.derivations.inside in
    trim_is c.args.derivations d.known.list d.main d.known.vars d.rows.items c.derivations.invariant c.derivations.view_is c.args.needed.now c.in_ok-marks.marks.items c.in_ok-places.places.items c.in_ok-numbers.numbers.items c.keep.new.self c.keep_rows.new.rows.items c.requires.sound c.requires.steps
    (subst (λ (rs : List Row). c.in_ok-marks.marks.items ≡ swept d.main 0 (map numbers_of rs) (mark_all d.main c.args.needed.now (replicate (length rs) false))) c.deref.ensures.value c.in_ok-marks.ensures)
    (c.in_ok-places.ensures ∙ ap (λ (ms : List Bool). places_from d.main ms) c.deref-2.ensures.value)
    (c.in_ok-numbers.ensures ∙ ap (λ (ps : List ℕ). map (place_in d.main ps) c.args.needed.now) c.deref-3.ensures.value)
    (ap (λ (k : Clauses). k.list) c.keep.ensures ∙ ap (λ (ms : List Bool). take d.main d.known.list ++ kept_of ms (drop d.main d.known.list)) c.deref-4.ensures.value)
    (ap (λ (k : Clauses). k.vars) c.keep.ensures)
    (c.keep_rows.ensures ∙ ap (λ (ms : List Bool). map (placed_row d.main c.deref-6.result.now) (kept_of ms d.rows.items)) c.deref-5.ensures.value ∙ ap (λ (ps : List ℕ). map (placed_row d.main ps) (kept_of c.in_ok-marks.marks.items d.rows.items)) c.deref-6.ensures.value)

pub returns-clause-sound : goal.returns-clause-sound
returns-clause-sound c = left_sound c.args.derivations _ c.args.needed.now c.in_ok-numbers.numbers.items (returns-clause-trimmed c) c.requires.sound

pub returns-clause-named : goal.returns-clause-named
returns-clause-named c = left_named c.args.derivations _ c.args.needed.now c.in_ok-numbers.numbers.items (returns-clause-trimmed c) c.requires.steps

pub returns-clause-used : goal.returns-clause-used
returns-clause-used c = left_used c.args.derivations _ c.args.needed.now c.in_ok-numbers.numbers.items (returns-clause-trimmed c) c.requires.sound
