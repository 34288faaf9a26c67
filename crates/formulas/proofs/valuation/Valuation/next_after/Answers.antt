use Rattle.formulas.proofs.WordOrder.{word_last, next_word_at}
use Rattle.formulas.proofs.valuation.Valuation.next_after.Goals as goal

pub returns-in-None : goal.returns-in-None
returns-in-None c = rw (← c.self.view_is) (word_last c.self.inside.atoms c.self.inside.bits c.self.invariant.1 c.in-None.ensures)

pub returns-in-Some : goal.returns-in-Some
returns-in-Some c = next_word_at c.self.inside.atoms c.self.inside.bits c.in-Some.bits c.args.self c.self.view_is c.in-Some.ensures.0 c.in-Some.ensures.1
