use Rattle.std.proofs.Common.{◌≡◌, [], Some, None, length, map, sym, ap, ◌∙◌, subst, arith, inl, inr}
use Rattle.std.specs.List.{list_any}
use Rattle.line_tokens.specs.Lexemes.{lexeme_of}
use Rattle.formula_grammar.specs.Machine.{operand, run}
use Rattle.formula_grammar.specs.Makers.{formula_of, capped_depth}
use Rattle.formula_grammar.specs.Readings.{IsRead}
use Rattle.formula_grammar.specs.Symbols.{symbols_of, is_past}
use Rattle.formula_grammar.proofs.Measures.{width_spelled, nodes_spelled}
use Rattle.formula_grammar.proofs.Names.{past_unknown, nodes_of_symbols}
use Rattle.formula_grammar.proofs.Outcomes.{form_of, no_form}
use Rattle.formula_grammar.proofs.read.read_tokens.Goals as goal

pub returns-in_default-clause-stop : goal.returns-in_default-clause-stop
returns-in_default-clause-stop c =
    let symbols = c.deref.ensures.value ∙ c.in_ok-symbols.ensures in
    let found = c.in_ok-depth.ensures ∙ ap (λ ts. run capped_depth ts (operand [])) symbols in
    no_form (symbols_of c.args.atoms.now (map lexeme_of c.args.tokens.now)) (sym found ∙ c.in_default.is)

pub returns-then-has_past-clause-stop : goal.returns-then-has_past-clause-stop
returns-then-has_past-clause-stop c =
    let atoms = c.args.atoms.now in
    let ts = map lexeme_of c.args.tokens.now in
    let symbols = c.deref.ensures.value ∙ c.in_ok-symbols.ensures in
    let found = c.in_ok-depth.ensures ∙ ap (λ ss. run capped_depth ss (operand [])) symbols in
    let form = form_of (symbols_of atoms ts) c.in-Some.depth (sym c.in-Some.is ∙ found) in
    let past = c.if-has_past.ensures ∙ ap (λ n. list_any (is_past n) c.deref-2.result.now) c.len.ensures.number
    ∙ ap (list_any (is_past (length atoms))) (c.deref-2.ensures.value ∙ c.in_ok-symbols.ensures) ∙ past_unknown atoms ts in
    (form.0, form.1, sym past)

pub returns-then-depth-gt-DEPTH_LIMIT-clause-stop : goal.returns-then-depth-gt-DEPTH_LIMIT-clause-stop
returns-then-depth-gt-DEPTH_LIMIT-clause-stop c =
    let atoms = c.args.atoms.now in
    let ts = map lexeme_of c.args.tokens.now in
    let symbols = c.deref.ensures.value ∙ c.in_ok-symbols.ensures in
    let found = c.in_ok-depth.ensures ∙ ap (λ ss. run capped_depth ss (operand [])) symbols in
    let form = form_of (symbols_of atoms ts) c.in-Some.depth (sym c.in-Some.is ∙ found) in
    let past = c.if-has_past.ensures ∙ ap (λ n. list_any (is_past n) c.deref-2.result.now) c.len.ensures.number
    ∙ ap (list_any (is_past (length atoms))) (c.deref-2.ensures.value ∙ c.in_ok-symbols.ensures) ∙ past_unknown atoms ts in
    (form.0, form.1, sym past, inl (omega (arith, form.2, c.if-depth-gt-DEPTH_LIMIT.true)))

pub returns-then-most_open-gt-OPEN_LIMIT-clause-stop : goal.returns-then-most_open-gt-OPEN_LIMIT-clause-stop
returns-then-most_open-gt-OPEN_LIMIT-clause-stop c =
    let atoms = c.args.atoms.now in
    let ts = map lexeme_of c.args.tokens.now in
    let symbols = c.deref.ensures.value ∙ c.in_ok-symbols.ensures in
    let found = c.in_ok-depth.ensures ∙ ap (λ ss. run capped_depth ss (operand [])) symbols in
    let form = form_of (symbols_of atoms ts) c.in-Some.depth (sym c.in-Some.is ∙ found) in
    let past = c.if-has_past.ensures ∙ ap (λ n. list_any (is_past n) c.deref-2.result.now) c.len.ensures.number
    ∙ ap (list_any (is_past (length atoms))) (c.deref-2.ensures.value ∙ c.in_ok-symbols.ensures) ∙ past_unknown atoms ts in
    (form.0, form.1, sym past, inr (omega (arith, c.most_open.ensures, c.if-most_open-gt-OPEN_LIMIT.true)))

pub unreachable-requires : goal.unreachable-requires
unreachable-requires c =
    let symbols = c.deref.ensures.value ∙ c.in_ok-symbols.ensures in
    let found = c.in_ok-depth.ensures ∙ ap (λ ss. run capped_depth ss (operand [])) symbols in
    let form = form_of (symbols_of c.args.atoms.now (map lexeme_of c.args.tokens.now)) c.in-Some.depth (sym c.in-Some.is ∙ found) in
    let built : Some form.0 ≡ None = sym form.3 ∙ ap (λ ss. run formula_of ss (operand [])) (sym (c.deref-3.ensures.value ∙ c.in_ok-symbols.ensures))
    ∙ sym c.in_ok-formula.ensures ∙ c.in-None.is in
    cc

pub returns-clause-read : goal.returns-clause-read
returns-clause-read c =
    let atoms = c.args.atoms.now in
    let ts = map lexeme_of c.args.tokens.now in
    let symbols = c.deref.ensures.value ∙ c.in_ok-symbols.ensures in
    let found = c.in_ok-depth.ensures ∙ ap (λ ss. run capped_depth ss (operand [])) symbols in
    let form = form_of (symbols_of atoms ts) c.in-Some.depth (sym c.in-Some.is ∙ found) in
    let past = c.if-has_past.ensures ∙ ap (λ n. list_any (is_past n) c.deref-2.result.now) c.len.ensures.number
    ∙ ap (list_any (is_past (length atoms))) (c.deref-2.ensures.value ∙ c.in_ok-symbols.ensures) ∙ past_unknown atoms ts in
    let built : Some c.in-Some-2.formula ≡ Some form.0 = sym c.in-Some-2.is ∙ c.in_ok-formula.ensures
    ∙ ap (λ ss. run formula_of ss (operand [])) (c.deref-3.ensures.value ∙ c.in_ok-symbols.ensures) ∙ form.3 in
    let same : form.0 ≡ c.in-Some-2.formula = cc in
    subst (IsRead atoms ts) same (record {
      spelled = form.1;
      known = sym past;
      depth = omega (arith, form.2, c.if-depth-gt-DEPTH_LIMIT.false);
      brackets = omega (arith, c.most_open.ensures, c.if-most_open-gt-OPEN_LIMIT.false);
    })

pub returns-clause-width : goal.returns-clause-width
returns-clause-width c =
    let read = returns-clause-read c in
    let atoms = c.args.atoms.now in
    let ts = map lexeme_of c.args.tokens.now in
    width_spelled (length atoms) read.spelled (past_unknown atoms ts ∙ read.known)

pub returns-clause-nodes : goal.returns-clause-nodes
returns-clause-nodes c = nodes_spelled (returns-clause-read c).spelled ∙ nodes_of_symbols c.args.atoms.now (map lexeme_of c.args.tokens.now)
