use Rattle.std.proofs.Common.{◌≡◌, ◌≤◌, take, nat_le, true, All}
use Rattle.std.specs.List.{list_all}
use Rattle.report_text.proofs.answering.plain.narrowed.Given as goal

abbrev pub invariant-loop-number : goal.invariant-loop-number
invariant-loop-number l = record {
  taken : l.all.items ≡ take l.number-index l.numbers;
  passed : list_all (λ d. nat_le d l.top) (take l.number-index l.numbers) ≡ true;
  within : All (λ d. d ≤ l.top) l.all.items;
}
