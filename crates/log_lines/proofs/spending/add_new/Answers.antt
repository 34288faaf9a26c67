use Rattle.std.proofs.Common.{◌≡◌, ◌+◌, List, [], true, false, drop, take, ap, sym, ◌∙◌, arith}
use Rattle.std.specs.Prelude.{Option, unwrap_or}
use Rattle.std.specs.List.{list_any}
use Rattle.clause_store.specs.declared.lit.Lit.{Lit}
use Rattle.clause_store.specs.Clauses.{clause_at}
use Rattle.log_lines.specs.Spending.{earlier, includes, noted_of}
use Rattle.log_lines.proofs.News.{earlier_more, new_is, not_learned, noted_kind}
use Rattle.log_lines.proofs.Indexed.{index_moved}
use Rattle.log_lines.proofs.spending.add_new.Goals as goal

pub returns-then-not-is_kept-clause-exact : goal.returns-then-not-is_kept-clause-exact
returns-then-not-is_kept-clause-exact c = λ s at.
    let list = c.args.known.now.list in
    let ns = noted_of c.args.kinds.now (drop c.args.main list) in
    sym (not_learned (take c.args.main list) ns c.args.step s
    (noted_kind c.args.kinds.now (drop c.args.main list) c.args.step s c.kind_at.result at c.kind_at.ensures ∙ (sym c.is_kept.ensures ∙ c.if-not-is_kept.true)))

pub has_within-requires-clause-index : goal.has_within-requires-clause-index
has_within-requires-clause-index c = (earlier c.args.main c.args.kinds.now c.args.known.now.list c.args.step, c.args.main + c.args.step, c.requires.index)

pub returns-then-has_within-clause-exact : goal.returns-then-has_within-clause-exact
returns-then-has_within-clause-exact c = λ s at.
    let list = c.args.known.now.list in
    let before = earlier c.args.main c.args.kinds.now list c.args.step in
    let value : clause_at list (c.args.main + c.args.step) ≡ c.clause.result.now = ap (λ (o : Option (List Lit)). unwrap_or o []) c.clause.ensures.value in
    let any : list_any (includes (clause_at list (c.args.main + c.args.step))) before ≡ true =
    ap (λ (d : List Lit). list_any (includes d) before) value ∙ c.has_within.ensures.found c.if-has_within.true before (c.args.main + c.args.step) c.requires.index in
    sym (new_is c.args.kinds.now list c.args.main c.args.step c.kind_at.result true s c.requires.known c.requires.step c.kind_at.ensures (sym c.is_kept.ensures ∙ c.if-not-is_kept.false) any at)

pub add-requires-clause-index : goal.add-requires-clause-index
add-requires-clause-index c =
    let before = earlier c.args.main c.args.kinds.now c.args.known.now.list c.args.step in
    let none = c.has_within.ensures.none c.if-has_within.false before (c.args.main + c.args.step) c.requires.index in
    (before, c.args.main + c.args.step, none.1)

pub returns-clause-exact : goal.returns-clause-exact
returns-clause-exact c = λ s at.
    let list = c.args.known.now.list in
    let before = earlier c.args.main c.args.kinds.now list c.args.step in
    let value : clause_at list (c.args.main + c.args.step) ≡ c.clause.result.now = ap (λ (o : Option (List Lit)). unwrap_or o []) c.clause.ensures.value in
    let none = c.has_within.ensures.none c.if-has_within.false before (c.args.main + c.args.step) c.requires.index in
    let any : list_any (includes (clause_at list (c.args.main + c.args.step))) before ≡ false = ap (λ (d : List Lit). list_any (includes d) before) value ∙ none.0 in
    sym (new_is c.args.kinds.now list c.args.main c.args.step c.kind_at.result false s c.requires.known c.requires.step c.kind_at.ensures (sym c.is_kept.ensures ∙ c.if-not-is_kept.false) any at)

pub returns-clause-joined : goal.returns-clause-joined
returns-clause-joined c = λ t.
    let before = earlier c.args.main c.args.kinds.now c.args.known.now.list c.args.step in
    let none = c.has_within.ensures.none c.if-has_within.false before (c.args.main + c.args.step) c.requires.index in
    index_moved c.add.new.self c.args.known.now _ _ _ _
    (earlier_more c.args.kinds.now c.args.known.now.list c.args.main c.args.step c.kind_at.result c.requires.known c.requires.step c.kind_at.ensures (sym c.is_kept.ensures ∙ c.if-not-is_kept.false))
    (c.add.ensures before none.1) (omega arith)
