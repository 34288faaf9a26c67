use Rattle.std.proofs.Common.{◌≡◌, Bool, true, false, ℕ, List, map, IsTrue, IsNone, IfSome, IfErr, refl, sym, ap, subst, ◌∙◌}
use Rattle.std.specs.List.{list_any}
use Rattle.std.proofs.lemmas.Result.{IfErr-weaker}
use Rattle.line_tokens.specs.Bytes.{is_bad}
use Rattle.line_tokens.specs.Lexemes.{lexeme_of, lexemes_of}
use Rattle.problem_lines.specs.Forms.{form_of}
use Rattle.problem_lines.specs.Lines.{content_of}
use Rattle.problem_reading.specs.declared.stop.LineStop.{LineStop}
use Rattle.problem_reading.specs.declared.stop.LineStop.TheVariants.{Fault, NoMemory}
use Rattle.problem_reading.specs.Drafts.{Draft}
use Rattle.problem_reading.specs.Faults.{line_form}
use Rattle.problem_reading.specs.Stops.{IsFormStop, IsLineStop}
use Rattle.problem_reading.specs.Views.{draft_of}
use Rattle.problem_reading.proofs.LineFaults.{fault_of_form}
use Rattle.problem_reading.proofs.judging.judge.Goals as goal

not_true : (b : Bool) → (IsTrue b → ⊥) → b ≡ false
not_true true h = absurd (h refl)
not_true false h = refl

-- what stops a line's form stops the line, which has no bad byte
line_stop : (d : Draft) (line : List ℕ) → list_any is_bad (content_of line) ≡ false → (stop : LineStop) →
    IsFormStop d (line_form line) stop → IsLineStop d line stop
line_stop d line good NoMemory h = tt
line_stop d line good (Fault kind) h = fault_of_form d line kind good h

pub returns-in-Some-clause-stop : goal.returns-in-Some-clause-stop
returns-in-Some-clause-stop c =
    let line = c.args.line.now in
    let d = draft_of c.args.declared.now in
    let text = c.content.result.now in
    let cut = ap (map lexeme_of) c.deref.ensures.value ∙ subst (λ o. IfSome o (λ ts. map lexeme_of ts.items ≡ lexemes_of text)) c.in-Some.is c.in_ok-tokens.ensures.cut
    ∙ ap lexemes_of c.content.ensures in
    let bytes_good = not_true (list_any is_bad text) (λ bad. let none = subst IsNone c.in-Some.is (c.in_ok-tokens.ensures.bad.1 bad) in cc) in
    let good = sym (ap (list_any is_bad) c.content.ensures) ∙ bytes_good in
    let stop = c.judge_form.ensures.stop (form_of (map lexeme_of c.deref.result.now)) c.form_of.ensures in
    IfErr-weaker c.judge_form.result _ _ (line_stop d line good) (subst (λ f. IfErr c.judge_form.result (IsFormStop d f)) (ap form_of cut) stop)
