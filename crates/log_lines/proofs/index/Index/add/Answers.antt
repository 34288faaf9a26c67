use Rattle.std.proofs.Common.{◌≡◌, ◌-◌, length, [], ap, ◌∙◌, List}
use Rattle.std.specs.Prelude.{Option, unwrap_or}
use Rattle.clause_store.specs.declared.lit.Lit.{Lit}
use Rattle.clause_store.specs.Clauses.{clause_at}
use Rattle.log_lines.proofs.Included.{none_last, at_has}
use Rattle.log_lines.proofs.Indexed.{index_add_empty, index_joined}
use Rattle.log_lines.proofs.index.Index.add.Goals as goal

pub returns-in-None : goal.returns-in-None
returns-in-None c = λ before h.
    let known = c.args.known.now in
    let value : clause_at known.list c.args.number ≡ c.clause.result.now = ap (λ (o : Option (List Lit)). unwrap_or o []) c.clause.ensures.value in
    (h.0, index_add_empty c.args.self.now.heads.items c.args.self.now.next.items c.args.self.now.empty known before c.args.number h.0 h.1 (value ∙ none_last c.clause.result.now c.in-None.ensures.value))

pub returns-in-Some : goal.returns-in-Some
returns-in-Some c = λ before h.
    let self = c.args.self.now in
    let known = c.args.known.now in
    let value : clause_at known.list c.args.number ≡ c.clause.result.now = ap (λ (o : Option (List Lit)). unwrap_or o []) c.clause.ensures.value in
    index_joined self.heads.items self.next.items self.empty known before c.args.number h.0 c.in-Some.lit.now
    c.push.new.self.heads.items c.push.new.self.next.items c.push.new.self.empty c.rank.result h.1 c.clause.result.now c.clause.ensures.in_range c.requires.number value (at_has c.clause.result.now (length c.clause.result.now - 1) c.in-Some.lit.now c.in-Some.ensures.value) c.rank.ensures
    c.push.ensures.heads c.push.ensures.next c.push.ensures.empty
