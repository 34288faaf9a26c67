use Rattle.std.proofs.Common.{rules, ◌≡◌, List, ℕ, ◌∷◌, ◌++◌, subst}
use Rattle.std.proofs.lemmas.Result.{err_from_is_err_and}
use Rattle.report_text.specs.Accepting.{HasNoFeed}
use Rattle.report_text.specs.Progress.{StandsBefore}
use Rattle.report_text.proofs.AcceptingFacts.{at_piece, before_fit, shorter}
use Rattle.report_text.proofs.progress.Progress.piece.Goals as goal

pub loop-line-init : goal.loop-line-init
loop-line-init c = λ text h. at_piece text c.args.piece.now c.args.self.now h

pub line-requires : goal.line-requires
line-requires c = before_fit (c.requires.0 ++ c.args.piece.now) c.loop-line.rest.now c.loop-line.self (c.loop-line.invariant c.requires.0 c.requires.1)

pub returns-in_err-line : goal.returns-in_err-line
returns-in_err-line c = λ text h.
    let whole = text ++ c.args.piece.now in
    let e : c.loop-line.rest.now ≡ c.in-Some.line.now ++ 10 ∷ c.in-Some.after.now = search rules in
    let none : HasNoFeed c.in-Some.line.now = search rules in
    let p = err_from_is_err_and c.from_residual.result c.from_residual.ensures.1 in
    rw (p.1, p.2) (c.in_err-line.ensures whole c.in-Some.after.now (subst (λ (r : List ℕ). StandsBefore whole r c.loop-line.self) e (c.loop-line.invariant text h)) none)

pub loop-line-smaller : goal.loop-line-smaller
loop-line-smaller c =
    let e : c.loop-line.rest.now ≡ c.in-Some.line.now ++ 10 ∷ c.in-Some.after.now = search rules in
    shorter c.loop-line.rest.now c.in-Some.line.now c.in-Some.after.now e

pub loop-line-preserved : goal.loop-line-preserved
loop-line-preserved c = λ text h.
    let whole = text ++ c.args.piece.now in
    let e : c.loop-line.rest.now ≡ c.in-Some.line.now ++ 10 ∷ c.in-Some.after.now = search rules in
    let none : HasNoFeed c.in-Some.line.now = search rules in
    c.in_ok-line.ensures whole c.in-Some.after.now (subst (λ (r : List ℕ). StandsBefore whole r c.loop-line.self) e (c.loop-line.invariant text h)) none

pub returns : goal.returns
returns c = λ text h.
    let none : HasNoFeed c.loop-line.rest.now = search rules in
    c.hold.ensures (text ++ c.args.piece.now) (c.loop-line.invariant text h) none
