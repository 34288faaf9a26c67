use Rattle.std.proofs.Common.{◌≡◌, ◌≢◌, ℕ, List, true, false, refl, sym, ◌∙◌, subst}
use Rattle.formulas.specs.declared.formula.Formula.{Formula}
use Rattle.line_tokens.specs.Lexemes.{lexemes_of}
use Rattle.formula_grammar.specs.declared.read.FormulaStop.{FormulaStop}
use Rattle.formula_grammar.specs.declared.read.FormulaStop.TheVariants.{BadByte, BadForm, UnknownAtom, TooDeep, NoMemory}
use Rattle.formula_grammar.specs.Readings.{IsTextRead, IsTextStop, IsTooDeep}
use Rattle.formula_grammar.proofs.Choice.{text_choice, not_deep}
use Rattle.formula_grammar.proofs.Complete.{one_formula}
use Rattle.formula_grammar.proofs.laws.each_text_has_one_outcome.Goals as goal

stopped : (atoms : List (List ℕ)) (text : List ℕ) (f : Formula) (stop : FormulaStop) → IsTextRead atoms text f → IsTextStop atoms text stop → stop ≡ NoMemory
stopped atoms text f BadByte is h = let both : true ≡ false = sym h ∙ is.good in absurd (cc)
stopped atoms text f BadForm is h = absurd (h.1 f is.read.spelled)
stopped atoms text f UnknownAtom is h = let both : true ≡ false = sym h.1.2 ∙ is.read.known in absurd (cc)
stopped atoms text f TooDeep is h =
    let same = one_formula h.1.1 is.read.spelled in
    absurd (not_deep (lexemes_of text) f is.read.depth is.read.brackets (subst (IsTooDeep (lexemes_of text)) same h.1.3))
stopped atoms text f NoMemory is h = refl

one_stop : (atoms : List (List ℕ)) (text : List ℕ) (s t : FormulaStop) → IsTextStop atoms text s → IsTextStop atoms text t →
    s ≢ NoMemory → t ≢ NoMemory → s ≡ t
one_stop atoms text NoMemory t h i x y = absurd (x refl)
one_stop atoms text BadByte NoMemory h i x y = absurd (y refl)
one_stop atoms text BadByte BadByte h i x y = refl
one_stop atoms text BadByte BadForm h i x y = let both : true ≡ false = sym h ∙ i.0 in absurd (cc)
one_stop atoms text BadByte UnknownAtom h i x y = let both : true ≡ false = sym h ∙ i.0 in absurd (cc)
one_stop atoms text BadByte TooDeep h i x y = let both : true ≡ false = sym h ∙ i.0 in absurd (cc)
one_stop atoms text BadForm NoMemory h i x y = absurd (y refl)
one_stop atoms text BadForm BadByte h i x y = let both : true ≡ false = sym i ∙ h.0 in absurd (cc)
one_stop atoms text BadForm BadForm h i x y = refl
one_stop atoms text BadForm UnknownAtom h i x y = absurd (h.1 i.1.0 i.1.1)
one_stop atoms text BadForm TooDeep h i x y = absurd (h.1 i.1.0 i.1.1)
one_stop atoms text UnknownAtom NoMemory h i x y = absurd (y refl)
one_stop atoms text UnknownAtom BadByte h i x y = let both : true ≡ false = sym i ∙ h.0 in absurd (cc)
one_stop atoms text UnknownAtom BadForm h i x y = absurd (i.1 h.1.0 h.1.1)
one_stop atoms text UnknownAtom UnknownAtom h i x y = refl
one_stop atoms text UnknownAtom TooDeep h i x y = let both : true ≡ false = sym h.1.2 ∙ i.1.2 in absurd (cc)
one_stop atoms text TooDeep NoMemory h i x y = absurd (y refl)
one_stop atoms text TooDeep BadByte h i x y = let both : true ≡ false = sym i ∙ h.0 in absurd (cc)
one_stop atoms text TooDeep BadForm h i x y = absurd (i.1 h.1.0 h.1.1)
one_stop atoms text TooDeep UnknownAtom h i x y = let both : true ≡ false = sym i.1.2 ∙ h.1.2 in absurd (cc)
one_stop atoms text TooDeep TooDeep h i x y = refl

pub returns-clause-has_outcome : goal.returns-clause-has_outcome
returns-clause-has_outcome c = text_choice c.args.atoms.now c.args.text.now

pub returns-clause-one_formula : goal.returns-clause-one_formula
returns-clause-one_formula c f g h i = one_formula h.read.spelled i.read.spelled

pub returns-clause-read_or_stopped : goal.returns-clause-read_or_stopped
returns-clause-read_or_stopped c f stop h i = stopped c.args.atoms.now c.args.text.now f stop h i

pub returns-clause-one_stop : goal.returns-clause-one_stop
returns-clause-one_stop c s t h i x y = one_stop c.args.atoms.now c.args.text.now s t h i x y
