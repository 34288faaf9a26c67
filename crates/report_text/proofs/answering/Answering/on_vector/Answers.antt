use Rattle.std.specs.List.{list_all}
use Rattle.std.specs.Prelude.{nat_le}
use Rattle.report_text.proofs.Rows.{same_all, vector_judged}
use Rattle.std.proofs.Common.{◌≡◌, false, refl, ◌∙◌}
use Rattle.report_lines.specs.Items.{VectorLine}
use Rattle.report_lines.specs.Judged.{faulty}
use Rattle.report_lines.specs.Places.{top_at}
use Rattle.report_text.specs.Answering.{position_of}
use Rattle.report_text.proofs.answering.Answering.on_vector.Goals as goal
use Rattle.log_lines.proofs.News.{and_not}

pub returns-in_default-2-clause-judged : goal.returns-in_default-2-clause-judged
returns-in_default-2-clause-judged c =
    let p = position_of c.args.self.now in
    let numbers = c.in-Some.numbers.items in
    let read = rw c.in-Some.is at c.in_ok-numbers.ensures in
    let large = rw c.in_default-2.is at c.in_ok-vector.ensures in
    let over : list_all (λ d. nat_le d (top_at p)) numbers ≡ false = same_all _ _ _ _ false c.top_of-top.ensures.is c.deref.ensures.value large in
    faulty (VectorLine numbers) (numbers, refl, read.1 ∙ c.len-agents.ensures, read.2) read.0 (and_not _ _ over) refl

pub returns-then-self-eq0-clause-judged : goal.returns-then-self-eq0-clause-judged
returns-then-self-eq0-clause-judged c =
    let read = rw c.in-Some.is at c.in_ok-numbers.ensures in
    let small = rw c.in-Some-2.is at c.in_ok-vector.ensures in
    vector_judged (position_of c.args.self.now) c.args.line.now c.in-Some.numbers.items c.in-Some-2.vector.items _ c.take_first.result (small.0 ∙ c.deref.ensures.value) read.0 (read.1 ∙ c.len-agents.ensures) read.2 c.take_first.ensures.taken

pub returns-clause-judged : goal.returns-clause-judged
returns-clause-judged c =
    let read = rw c.in-Some.is at c.in_ok-numbers.ensures in
    let small = rw c.in-Some-2.is at c.in_ok-vector.ensures in
    vector_judged (position_of c.args.self.now) c.args.line.now c.in-Some.numbers.items c.in-Some-2.vector.items _ c.take_next.result (small.0 ∙ c.deref.ensures.value) read.0 (read.1 ∙ c.len-agents.ensures) read.2 c.take_next.ensures.taken
