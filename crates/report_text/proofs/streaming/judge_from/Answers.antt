use Rattle.std.proofs.Common.{◌≡◌, ℕ, List, [], take, refl, ap, subst, ◌∙◌, arith, length-take}
use Rattle.std.specs.Io.KnownBytes.{Consumes}
use Rattle.std.proofs.lemmas.Result.{err_from_is_err_and}
use Rattle.report_text.proofs.StreamingFacts.{streams_start, streams_more, streams_stop, streams_accepted, streams_refused, streams_failed}
use Rattle.report_text.proofs.streaming.judge_from.Goals as goal

pub loop-count-init : goal.loop-count-init
loop-count-init g c = record { streams = streams_start _ _ _ c.requires; quiet = refl }

pub piece-requires : goal.piece-requires
piece-requires g c = let h = c.loop-count.invariant.streams in (h.text, h.reads)

pub returns-in_default-clause-judged : goal.returns-in_default-clause-judged
returns-in_default-clause-judged g c = streams_failed _ _ _ _ _ _ _ c.loop-count.invariant.streams c.in_default.ensures.bytes c.in_default.ensures.room

pub returns-then-count-eq0-clause-judged : goal.returns-then-count-eq0-clause-judged
returns-then-count-eq0-clause-judged g c =
    let h = c.loop-count.invariant.streams in
    let nothing : take c.in-Ok.count c.read.new.into ≡ [] = ap (λ (n : ℕ). take n c.read.new.into) c.if-count-eq0.true in
    let known = subst (λ (piece : List ℕ). Consumes (g.S.Source.left c.loop-count.source) (g.S.Source.left c.read.new.self) piece) nothing c.in-Ok.ensures.bytes.0 in
    let over = c.in-Ok.ensures.bytes.1 c.if-count-eq0.true (omega arith) in
    let accepted = c.in_ok-end.ensures h.text h.reads in
    streams_accepted _ _ _ _ _ _ _ h known (omega (arith, c.in-Ok.ensures.room, c.if-count-eq0.true)) over c.in_ok-end.field-0 accepted (c.accepted_has_parts.ensures h.text c.in_ok-end.field-0 accepted)

pub returns-in_err-end-clause-judged : goal.returns-in_err-end-clause-judged
returns-in_err-end-clause-judged g c =
    let h = c.loop-count.invariant.streams in
    let nothing : take c.in-Ok.count c.read.new.into ≡ [] = ap (λ (n : ℕ). take n c.read.new.into) c.if-count-eq0.true in
    let known = subst (λ (piece : List ℕ). Consumes (g.S.Source.left c.loop-count.source) (g.S.Source.left c.read.new.self) piece) nothing c.in-Ok.ensures.bytes.0 in
    let over = c.in-Ok.ensures.bytes.1 c.if-count-eq0.true (omega arith) in
    let p = err_from_is_err_and c.from_residual.result c.from_residual.ensures.1 in
    rw (p.1, p.2) (streams_refused _ _ _ _ _ _ _ h known (omega (arith, c.in-Ok.ensures.room, c.if-count-eq0.true)) over c.in_err-end.field-0.0 (c.in_err-end.ensures h.text h.reads))

pub returns-in_err-piece-clause-judged : goal.returns-in_err-piece-clause-judged
returns-in_err-piece-clause-judged g c =
    let h = c.loop-count.invariant.streams in
    let p = err_from_is_err_and c.from_residual-in_err-piece.result c.from_residual-in_err-piece.ensures.1 in
    rw (p.1, p.2) (streams_stop _ _ _ _ _ _ _ h (take c.in-Ok.count c.read.new.into) c.in-Ok.ensures.bytes.0 (simp length-take (omega (arith, c.in-Ok.ensures.bound, c.in-Ok.ensures.room))) (simp length-take (omega arith)) c.in_err-piece.field-0.0 (c.in_err-piece.ensures h.text h.reads))

pub loop-count-preserved : goal.loop-count-preserved
loop-count-preserved g c =
    let h = c.loop-count.invariant.streams in record {
      streams = streams_more _ _ _ _ _ _ _ h (take c.in-Ok.count c.read.new.into) c.in-Ok.ensures.bytes.0 (simp length-take (omega (arith, c.in-Ok.ensures.bound, c.in-Ok.ensures.room))) c.piece.new.self (c.in_ok-piece.ensures h.text h.reads);
      quiet = c.in-Ok.ensures.cause.quiet ∙ c.loop-count.invariant.quiet;
    }
