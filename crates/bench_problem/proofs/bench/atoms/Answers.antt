use Rattle.std.proofs.Common.{◌≡◌, ◌+◌, ◌++◌, ◌∷◌, [], length, map, ap, sym, ◌∙◌, arith}
use Rattle.std.specs.List.{range_with_len, list_any}
use Rattle.std.specs.Str.{bytes_eq}
use Rattle.std.proofs.lemmas.List.FromFn.{map-range_with_len_more, length-map-range_with_len}
use Rattle.formulas.specs.Names.{is_name}
use Rattle.bench_problem.specs.Bench.{atom_name}
use Rattle.bench_problem.proofs.BenchLaws.{atom_legal, atom_new}
use Rattle.bench_problem.proofs.bench.atoms.Goals as goal

pub add-requires-clause-name : goal.add-requires-clause-name
add-requires-clause-name c =
    let k = c.loop-number.number-counter in
    let name : c.as_str.result.now ≡ atom_name k = c.as_str.ensures.value ∙ c.in_ok-name.ensures.ok in
    ap is_name name ∙ atom_legal k c.loop-number-test.true

pub add-requires-clause-few : goal.add-requires-clause-few
add-requires-clause-few c =
    omega (arith, ap length c.loop-number.invariant, length-map-range_with_len atom_name 0 c.loop-number.number-counter, c.loop-number-test.true)

pub add-requires-clause-absent : goal.add-requires-clause-absent
add-requires-clause-absent c =
    let k = c.loop-number.number-counter in
    let name : c.as_str.result.now ≡ atom_name k = c.as_str.ensures.value ∙ c.in_ok-name.ensures.ok in
    ap (λ n. list_any (bytes_eq n) c.loop-number.atoms) name ∙ ap (list_any (bytes_eq (atom_name k))) c.loop-number.invariant ∙ atom_new k c.loop-number-test.true

pub loop-number-preserved : goal.loop-number-preserved
loop-number-preserved c =
    let k = c.loop-number.number-counter in
    let place : 0 + k ≡ k = omega arith in
    let name : c.as_str.result.now ≡ atom_name k = c.as_str.ensures.value ∙ c.in_ok-name.ensures.ok in
    c.in_ok-add.ensures.added ∙ ap (λ atoms. atoms ++ c.as_str.result.now ∷ []) c.loop-number.invariant
    ∙ ap (λ n. map atom_name (range_with_len 0 k) ++ n ∷ []) name ∙ sym (map-range_with_len_more atom_name 0 k k place)
