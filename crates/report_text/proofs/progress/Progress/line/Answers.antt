use Rattle.std.proofs.Common.{◌≡◌, List, ℕ, ◌++◌, Ok, Err, subst, rules}
use Rattle.report_text.specs.Checker.{IsOver, IsNext}
use Rattle.report_text.proofs.AcceptingFacts.{line_late, line_right, line_stop}
use Rattle.report_text.proofs.progress.Progress.line.Goals as goal

pub advance-requires-clause-over : goal.advance-requires-clause-over
advance-requires-clause-over c = λ over. let t = c.is_over.ensures.1 over in cc (t, c.if-is_over.false)

pub advance-requires-clause-fit : goal.advance-requires-clause-fit
advance-requires-clause-fit c = c.requires

pub returns-then-is_over : goal.returns-then-is_over
returns-then-is_over c = λ text next h none.
    rw c.stopped.ensures (line_late c.args.self.now c.args.line.now text next h none (c.is_over.ensures.0 c.if-is_over.true))

pub returns-in-Err : goal.returns-in-Err
returns-in-Err c = λ text next h none.
    let s = c.args.self.now in
    let whole : c.as_slice.result.now ≡ s.held.items ++ c.args.line.now = search rules in
    let open_still : IsOver s.checker → ⊥ = λ over. let t = c.is_over.ensures.1 over in cc (t, c.if-is_over.false) in
    let wrong = subst (λ (l : List ℕ). IsNext h.place l (Err c.in-Err.stop)) whole (c.in-Err.ensures h.place h.stands) in
    rw c.stopped-in-Err.ensures (line_stop s c.args.line.now text next h none c.in-Err.stop open_still wrong)

pub returns : goal.returns
returns c = λ text next h none.
    let s = c.args.self.now in
    let whole : c.as_slice.result.now ≡ s.held.items ++ c.args.line.now = search rules in
    let right = subst (λ (l : List ℕ). IsNext h.place l (Ok c.advance.new.checker)) whole (c.in_default.ensures h.place h.stands) in
    line_right s c.args.line.now text next h none (record { checker = c.advance.new.checker; held = c.clear.new.self; number = c.in-Some.number }) right c.clear.ensures.items (search rules)
