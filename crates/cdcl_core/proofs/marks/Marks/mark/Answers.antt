use Rattle.std.proofs.Common.{arith, ◌≡◌, List, Bool, true, sym, ◌∙◌, [], ◌∷◌, set, subst, ap, Option}
use Rattle.std.specs.Prelude.{unwrap_or}
use Rattle.clause_store.specs.declared.lit.Lit.{Lit}
use Rattle.watch_lists.specs.declared.entry.Entry.{Entry}
use Rattle.watch_lists.specs.Trace.{value_of}
use Rattle.cdcl_core.specs.Marked.{lower, IsAdded}
use Rattle.cdcl_core.proofs.Holding.{mark_again, mark_waits, mark_low, is_open, not_open, keep_true, room_above, room_below}
use Rattle.cdcl_core.proofs.marks.Marks.mark.Goals as goal

pub returns-then-is_marked-clause-added : goal.returns-then-is_marked-clause-added
returns-then-is_marked-clause-added c =
    let es : List Entry = c.args.trail.now.entries in
    mark_again es (lower c.args.level es) c.args.self.now.marked.items c.args.self.now.kept.items c.args.lit (is_open (value_of es c.args.lit) (sym (c.unwrap_or.ensures ∙ ap (λ (o : Option Bool). unwrap_or o true) c.value.ensures) ∙ c.if-unwrap_or.false)) (sym c.is_marked.ensures ∙ c.if-is_marked.true)

pub returns-then-level_at-level-clause-added : goal.returns-then-level_at-level-clause-added
returns-then-level_at-level-clause-added c =
    let es : List Entry = c.args.trail.now.entries in
    mark_waits es (lower c.args.level es) c.args.self.now.marked.items c.args.self.now.kept.items c.args.lit (is_open (value_of es c.args.lit) (sym (c.unwrap_or.ensures ∙ ap (λ (o : Option Bool). unwrap_or o true) c.value.ensures) ∙ c.if-unwrap_or.false)) (omega (arith, c.requires.size, c.requires.within.1)) (sym c.is_marked.ensures ∙ c.if-is_marked.false) (room_above c.args.level c.level_at.result es c.args.lit c.level_at.ensures.room c.if-level_at-level.true)

pub returns-clause-added : goal.returns-clause-added
returns-clause-added c =
    let es : List Entry = c.args.trail.now.entries in
    let low = mark_low es (lower c.args.level es) c.args.self.now.marked.items c.args.self.now.kept.items c.args.lit (is_open (value_of es c.args.lit) (sym (c.unwrap_or.ensures ∙ ap (λ (o : Option Bool). unwrap_or o true) c.value.ensures) ∙ c.if-unwrap_or.false)) (omega (arith, c.requires.size, c.requires.within.1)) (sym c.is_marked.ensures ∙ c.if-is_marked.false) (room_below c.args.level c.level_at.result es c.args.lit c.level_at.ensures.room (omega (arith, c.if-level_at-level.false))) in
    subst (λ (k : List Lit). IsAdded es (lower c.args.level es) c.args.self.now.marked.items c.args.self.now.kept.items (set c.args.self.now.marked.items c.args.lit.var true) k (c.args.lit ∷ []) 0) (sym c.in_ok-push-2.ensures.items) low

pub returns-then-unwrap_or-clause-added : goal.returns-then-unwrap_or-clause-added
returns-then-unwrap_or-clause-added c =
    let es : List Entry = c.args.trail.now.entries in
    let t : unwrap_or (value_of es c.args.lit) true ≡ true = sym (c.unwrap_or.ensures ∙ ap (λ (o : Option Bool). unwrap_or o true) c.value.ensures) ∙ c.if-unwrap_or.true in
    let kept = keep_true es (lower c.args.level es) c.args.self.now.marked.items c.args.self.now.kept.items c.args.lit 0 (not_open (value_of es c.args.lit) t) in
    subst (λ (k : List Lit). IsAdded es (lower c.args.level es) c.args.self.now.marked.items c.args.self.now.kept.items c.args.self.now.marked.items k (c.args.lit ∷ []) 0) (sym c.in_ok-push.ensures.items) kept
