use Rattle.std.proofs.Common.{◌≡◌, ℕ, ◌==◌, true, false, length, refl, ap, sym, ◌∙◌, arith}
use Rattle.std.proofs.lemmas.Bool.Decides.{nat_tests}
use Rattle.derivation_log.specs.StepLines.{step_line}
use Rattle.log_lines.proofs.Narrow.{are_in, out_of_range, stopped_by, right, within_range, after_is}
use Rattle.log_lines.proofs.taking.take_step.Goals as goal

pub returns-then-not-are_within-clause-taken : goal.returns-then-not-are_within-clause-taken
returns-then-not-are_within-clause-taken c =
    let known = c.args.known.now in
    let step = c.in-Ok.read.1 in
    let w : are_in known.vars step.clause ≡ false =
    ap (λ (x : ℕ). are_in x step.clause) (sym c.vars.ensures.vars) ∙ (ap (are_in c.vars.result) (sym c.lits.ensures.value) ∙ (sym c.are_within.ensures ∙ c.if-not-are_within.true)) in
    (step_line c.in-Ok.read.0 step, c.in-Ok.ensures.0, out_of_range known.vars known.list c.in-Ok.read.0 step w)

pub add_clause-requires : goal.add_clause-requires
add_clause-requires c =
    let known = c.args.known.now in
    let step = c.in-Ok.read.1 in
    let w : are_in known.vars step.clause ≡ true =
    ap (λ (x : ℕ). are_in x step.clause) (sym c.vars.ensures.vars) ∙ (ap (are_in c.vars.result) (sym c.lits.ensures.value) ∙ (sym c.are_within.ensures ∙ c.if-not-are_within.false)) in
    let line = c.in-Ok.ensures.0 in
    let is_step = line.is_step in
    record { in_range = within_range known.vars step.clause is_step.clause w }

pub returns-in-Err-NoSuchClause : goal.returns-in-Err-NoSuchClause
returns-in-Err-NoSuchClause c =
    let known = c.args.known.now in
    let step = c.in-Ok.read.1 in
    record { taken = (step_line c.in-Ok.read.0 step, c.in-Ok.ensures.0, stopped_by known.vars known.list c.in-Ok.read.0 step _ (c.in-Err-NoSuchClause.ensures.verdict (λ e. cc))); err = refl }

pub returns-in-Err-NoPivot : goal.returns-in-Err-NoPivot
returns-in-Err-NoPivot c =
    let known = c.args.known.now in
    let step = c.in-Ok.read.1 in
    record { taken = (step_line c.in-Ok.read.0 step, c.in-Ok.ensures.0, stopped_by known.vars known.list c.in-Ok.read.0 step _ (c.in-Err-NoPivot.ensures.verdict (λ e. cc))); err = refl }

pub returns-in-Err-OtherClause : goal.returns-in-Err-OtherClause
returns-in-Err-OtherClause c =
    let known = c.args.known.now in
    let step = c.in-Ok.read.1 in
    record { taken = (step_line c.in-Ok.read.0 step, c.in-Ok.ensures.0, stopped_by known.vars known.list c.in-Ok.read.0 step _ (c.in-Err-OtherClause.ensures.verdict (λ e. cc))); err = refl }

pub returns-in-Ok-add_clause-clause-taken : goal.returns-in-Ok-add_clause-clause-taken
returns-in-Ok-add_clause-clause-taken c =
    let known = c.args.known.now in
    let n = c.in-Ok.read.0 in
    let step = c.in-Ok.read.1 in
    let w : are_in known.vars step.clause ≡ true =
    ap (λ (x : ℕ). are_in x step.clause) (sym c.vars.ensures.vars) ∙ (ap (are_in c.vars.result) (sym c.lits.ensures.value) ∙ (sym c.are_within.ensures ∙ c.if-not-are_within.false)) in
    let same : (n == length known.list) ≡ true = (let l = c.len.ensures.len in let f = c.if-number-len.false in grind (arith, nat_tests)) in
    (step_line n step, c.in-Ok.ensures.0, right known.vars known.list n step same c.in-Ok.ensures.1 c.in-Ok.ensures.2 w c.in-Ok-check_step.ensures.verdict, c.in-Ok-add_clause.ensures.ok ∙ sym (after_is known n step), refl)
