use Rattle.std.proofs.Common.{rules, ◌≡◌, List, Some, true, false, ap, ◌∙◌, map}
use Rattle.report_words.specs.Words.{words_of}
use Rattle.clause_store.specs.declared.lit.Lit.{Lit}
use Rattle.derivation_log.specs.declared.step.Link.{Link}
use Rattle.derivation_log.specs.StepLines.{StepLine, seen, has_big, rises, widen, widen_link}
use Rattle.derivation_log.specs.StepReading.{step_at}
use Rattle.derivation_log.proofs.StepLaws.{is_step_line, no_step}
use Rattle.derivation_log.proofs.Narrow.{rises_ascends, same_line, reads}
use Rattle.derivation_log.proofs.reading.read_step.Goals as goal

pub returns-in_default : goal.returns-in_default
returns-in_default c = no_step c.args.line.now (search rules)

pub returns-then-has_big_literal : goal.returns-then-has_big_literal
returns-then-has_big_literal c =
    let s : StepLine = seen c.in-Some.step in
    let e : step_at (words_of c.args.line.now) ≡ Some s = search rules in
    (s, is_step_line c.args.line.now s e, search rules)

pub returns-then-not-is_rising : goal.returns-then-not-is_rising
returns-then-not-is_rising c =
    let s : StepLine = seen c.in-Some.step in
    let e : step_at (words_of c.args.line.now) ≡ Some s = search rules in
    (s, is_step_line c.args.line.now s e, search rules, search rules)

pub from_sorted-requires : goal.from_sorted-requires
from_sorted-requires c =
    let up : rises c.in-Some.step.clause.items ≡ true = search rules in
    let same : map widen c.in_ok-lits.lits.items ≡ c.in-Some.step.clause.items = c.in_ok-lits.ensures ∙ c.deref-3.ensures.value in
    rises_ascends c.deref-5.result.now (ap (λ (x : List Lit). rises (map widen x)) c.deref-5.ensures.value ∙ ap rises same ∙ up)

pub returns : goal.returns
returns c =
    let s : StepLine = seen c.in-Some.step in
    let e : step_at (words_of c.args.line.now) ≡ Some s = search rules in
    let small : has_big s ≡ false = search rules in
    let up : rises s.clause ≡ true = search rules in
    let clause : map widen c.in_ok-clause.clause ≡ c.in-Some.step.clause.items = ap (λ (x : List Lit). map widen x) (c.in_ok-clause.ensures ∙ c.deref-5.ensures.value) ∙ c.in_ok-lits.ensures ∙ c.deref-3.ensures.value in
    let chain : map widen_link c.from_vec.result ≡ c.in-Some.step.chain.items = ap (λ (x : List Link). map widen_link x) c.from_vec.ensures ∙ c.in_ok-links.ensures ∙ c.deref-4.ensures.value in
    reads c.args.line.now c.in-Some.step.number (record { kind = c.in-Some.step.kind; clause = c.in_ok-clause.clause; first = c.in-Some.step.first; chain = c.from_vec.result }) s
    (same_line s c.in_ok-clause.clause c.from_vec.result clause chain) (is_step_line c.args.line.now s e) small up
