use Rattle.std.proofs.Common.{◌≡◌, Bool, true, false, map, count_by, IsTrue, IsNone, IfSome, refl, ap, subst, ◌∙◌, arith}
use Rattle.std.specs.List.{list_any}
use Rattle.std.proofs.lemmas.List.Sums.{count_by-le-length}
use Rattle.std.proofs.lemmas.Result.{IfOk-weaker, IfErr-weaker}
use Rattle.line_tokens.specs.Bytes.{is_bad}
use Rattle.line_tokens.specs.Lexemes.{lexeme_of, lexemes_of}
use Rattle.formula_grammar.specs.Symbols.{is_node}
use Rattle.formula_grammar.proofs.Choice.{text_stop}
use Rattle.formula_grammar.proofs.TokenSizes.{token_count}
use Rattle.formula_grammar.proofs.read.read_formula.Goals as goal

not_true : (b : Bool) → (IsTrue b → ⊥) → b ≡ false
not_true true h = absurd (h refl)
not_true false h = refl

pub returns-in-Some-clause-nodes : goal.returns-in-Some-clause-nodes
returns-in-Some-clause-nodes c =
    let text = c.args.text.now in
    let cut = ap (map lexeme_of) c.deref.ensures.value ∙ subst (λ o. IfSome o (λ ts. map lexeme_of ts.items ≡ lexemes_of text)) c.in-Some.is c.in_ok-tokens.ensures.cut in
    IfOk-weaker c.read_tokens.result _ _
    (λ f same. omega (arith, same, ap (count_by is_node) cut, count_by-le-length is_node (lexemes_of text), token_count text)) c.read_tokens.ensures.nodes

pub returns-in-Some-clause-stop : goal.returns-in-Some-clause-stop
returns-in-Some-clause-stop c =
    let text = c.args.text.now in
    let cut = ap (map lexeme_of) c.deref.ensures.value ∙ subst (λ o. IfSome o (λ ts. map lexeme_of ts.items ≡ lexemes_of text)) c.in-Some.is c.in_ok-tokens.ensures.cut in
    let good = not_true (list_any is_bad text) (λ bad. let none = subst IsNone c.in-Some.is (c.in_ok-tokens.ensures.bad.1 bad) in cc) in
    IfErr-weaker c.read_tokens.result _ _ (text_stop c.args.atoms.now text (map lexeme_of c.deref.result.now) cut good) c.read_tokens.ensures.stop
