use Rattle.std.proofs.Common.{◌≡◌, ◌≢◌, ◌==◌, true, List, ℕ, [], ◌∷◌, ◌++◌, length, vec_len, rules, refl, sym, subst, ◌∙◌, arith}
use Rattle.std.proofs.lemmas.Bool.Decides.{nat_tests}
use Rattle.report_text.specs.Checker.{IsOver}
use Rattle.report_text.proofs.AcceptingFacts.{hold_late, hold_more}
use Rattle.report_text.proofs.progress.Progress.hold.Goals.{else-is_over-via-then-is_over+else-not-is_empty, else-is_over-via-else-is_over}
use Rattle.report_text.proofs.progress.Progress.hold.Goals as goal

zero_is : (n : ℕ) → (n == 0) ≡ true → n ≡ 0
zero_is n e = grind (arith, nat_tests)

no_bytes : (bytes : List ℕ) → length bytes ≡ 0 → bytes ≡ []
no_bytes [] e = refl
no_bytes (b ∷ bs) e = absurd (omega arith)

pub returns-then-is_err : goal.returns-then-is_err
returns-then-is_err c = λ text h none more. tt

pub returns-then-not-is_empty : goal.returns-then-not-is_empty
returns-then-not-is_empty c = λ text h none.
    let s = c.args.self.now in
    let held : c.extend_from_slice.new.self.items ≡ s.held.items ++ c.args.rest.now = search rules in
    let filled : c.extend_from_slice.new.self.items ≢ [] = search rules in
    rw c.stopped.ensures (hold_late s c.args.rest.now text h none (c.is_over.ensures.0 c.if-is_over.true) (subst (λ (l : List ℕ). l ≢ []) held filled))

pub returns : goal.returns
returns c = λ text h none.
    let s = c.args.self.now in
    let bytes = c.extend_from_slice.new.self in
    let held : bytes.items ≡ s.held.items ++ c.args.rest.now = search rules in
    let late : IsOver s.checker → bytes.items ≡ [] = λ over.
    let t = c.is_over.ensures.1 over in
    elim c.else-is_over.branch [
      | else-is_over-via-then-is_over+else-not-is_empty w ↦
          let size : vec_len bytes ≡ 0 = zero_is (vec_len bytes) (sym w.is_empty.ensures ∙ w.if-not-is_empty.false) in
          no_bytes bytes.items (omega (arith, bytes.ok.0, size))
      | else-is_over-via-else-is_over w ↦ absurd (cc (t, w.if-is_over.false))
    ] in
    hold_more s c.args.rest.now text h none (record { checker = s.checker; held = bytes; number = s.number }) refl held refl late
