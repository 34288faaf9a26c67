use Rattle.std.proofs.Common.{arith, ◌≡◌, ◌-◌, ℕ, List, length, subst, sym}
use Rattle.std.specs.Prelude.{Option}
use Rattle.edge.specs.Streams.{Exceeds}
use Rattle.merge_cli.specs.Answers.{TextAnswers}
use Rattle.merge_cli.specs.Commands.{limit_of}
use Rattle.merge_cli.specs.Rows.{of_text}
use Rattle.merge_cli.proofs.reading.read_reply.Goals as goal

pub returns-in_ok-text_reply-in-Ok-clause-ok : goal.returns-in_ok-text_reply-in-Ok-clause-ok
returns-in_ok-text_reply-in-Ok-clause-ok g c =
    let bytes = c.in-Ok.bytes.items in
    let reply = c.in_ok-text_reply-in-Ok.field-0 in
    let given : length bytes ≡ g.S.Source.room c.args.source.now - g.S.Source.room c.read_all.new.source = omega (arith, c.in-Ok.ensures.ok.count) in
    let few : Exceeds (limit_of c.args.command) (length bytes) → ⊥ = λ long.
    let same = c.in-Ok.ensures.too_long.1 (subst (λ (limit : Option ℕ). Exceeds limit (g.S.Source.room c.args.source.now - g.S.Source.room c.read_all.new.source)) (sym c.limit.ensures) (subst (Exceeds (limit_of c.args.command)) given long)) in cc in
    let P : List ℕ → Type 0 = λ read. TextAnswers c.args.command read reply.status reply.text.items in
    record {
      read = bytes;
      gave = c.in-Ok.ensures.ok;
      answers = of_text c.in-Ok.ensures.end few (subst P c.as_slice.ensures.value c.in_ok-text_reply-in-Ok.ensures);
    }
