use Rattle.std.proofs.Common.{arith, ◌≡◌, ◌≤◌, ◌+◌, ℕ, take, drop, length, length-take, length-drop, length-append, sym, ◌∙◌}
use Rattle.std.proofs.lemmas.List.{drop_all, take_rest}
use Rattle.edge.proofs.Given.{copied_is_front}
use Rattle.edge.proofs.plain.PlainSourceSource.read.Goals as goal

pub returns-clause-bytes : goal.returns-clause-bytes
returns-clause-bytes c =
    let bytes = c.self.inside.bytes.items in
    let at = c.self.inside.at in
    let n = c.min-count.result in
    let left : c.args.self.now ≡ drop at bytes = sym c.self.view_is in
    let copied : c.copy_from_slice.new.self ≡ take n (drop at bytes) =
    simp (c.copy_from_slice.ensures.after, take_rest, c.deref.ensures.value) in
    let within : at + n ≤ length bytes = omega (arith, length-take {A = ℕ}, length-drop {A = ℕ}, c.deref.ensures.len) in (
      left ∙ rw copied (copied_is_front bytes c.args.into.now at n within),
      λ none some. drop_all (at + n) bytes (omega (arith, length-take {A = ℕ}, length-drop {A = ℕ}, length-append {A = ℕ}, c.deref.ensures.len)),
    )
