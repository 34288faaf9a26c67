use Rattle.std.proofs.Common.{rules, arith, ◌≡◌, ◌+◌, ℕ, Bool, List, [], ◌∷◌, length, Some, sym, ap, ◌∙◌, length-append}
use Rattle.cdcl_core.proofs.Longer.{longer_on}
use Rattle.distance_search.specs.declared.reply.SearchStop.{SearchStop}
use Rattle.distance_search.specs.declared.reply.SearchStop.TheVariants.{NoMemory as OutOfMemory}
use Rattle.distance_search.specs.Heard.{IsHalted}
use Rattle.distance_search.proofs.Halts.{halted_on, halted_none}
use Rattle.distance_search.specs.Setting.{setting_of}
use Rattle.closest_listing.specs.Listed.{last_of}
use Rattle.closest_listing.proofs.ListLaws.{listed_more, last_more, none_left, all_taken}
use Rattle.closest_listing.proofs.lists.list_next.Goals as goal

pub returns-in_err-valuation-clause-answer : goal.returns-in_err-valuation-clause-answer
returns-in_err-valuation-clause-answer g c =
    let i = c.loop.invariant in
    let h = halted_on c.args.listing.now.engine.log c.loop.listing.engine.log c.next.new.self.engine.log c.args.listing.now.subject.budget c.in_err-valuation.field-0.0 i.longer (rw i.subject at c.in_err-valuation.ensures.answer) in
    search rules

pub returns-in_err-push-in-Some-clause-answer : goal.returns-in_err-push-in-Some-clause-answer
returns-in_err-push-in-Some-clause-answer g c =
    let longer = longer_on c.args.listing.now.engine.log c.loop.listing.engine.log c.next.new.self.engine.log c.loop.invariant.longer c.in_ok-valuation.ensures.longer in
    let h : (stop : SearchStop) → stop ≡ OutOfMemory → IsHalted c.args.listing.now.engine.log c.next.new.self.engine.log c.args.listing.now.subject.budget stop = λ stop is. halted_none c.args.listing.now.engine.log c.next.new.self.engine.log c.args.listing.now.subject.budget stop is longer in
    search rules

pub returns-in-None-clause-answer : goal.returns-in-None-clause-answer
returns-in-None-clause-answer g c =
    let i = c.loop.invariant in
    let next = rw (i.subject, i.place, c.in-None.is) at c.in_ok-valuation.ensures.answer in
    none_left _ c.args.listing.now.best c.requires c.args.listing.now.after c.args.count c.loop.valuations.items i.listed next (omega (arith, i.size, c.loop-test.true))

pub loop-preserved : goal.loop-preserved
loop-preserved g c =
    let i = c.loop.invariant in
    let e = c.in_ok-valuation.ensures in
    let q = c.args.listing.now.subject in
    let s = setting_of (g.D.Distance.dist q.distance) (g.D.Distance.most q.distance) (g.D.Counted.due q.distance) (g.A.Aggregator.rank q.aggregator) (g.A.Levelled.levels_of q.aggregator) (g.A.Levelled.levels_due q.aggregator) q.problem in
    let v = c.in-Some.valuation in
    let vs = c.loop.valuations.items in
    let after = c.args.listing.now.after in
    let next = rw (i.subject, i.place, c.in-Some.is) at e.answer in
    let placed : c.next.new.self.after ≡ Some v = search rules in
    let items = c.in_ok-push-in-Some.ensures.items in
    record {
      subject = e.subject ∙ i.subject;
      best = e.best ∙ i.best;
      longer = longer_on c.args.listing.now.engine.log c.loop.listing.engine.log c.next.new.self.engine.log i.longer e.longer;
      listed = rw items (listed_more s after vs v i.listed next);
      place = placed ∙ sym (last_more after vs v) ∙ ap (λ (ws : List (List Bool)). last_of after ws) (sym items);
      size = ap (λ (ws : List (List Bool)). length ws) items ∙ length-append vs (v ∷ []) ∙ ap (λ (k : ℕ). k + 1) i.size;
    }

pub returns-in_err-next-clause-answer : goal.returns-in_err-next-clause-answer
returns-in_err-next-clause-answer g c =
    let i = c.loop.invariant in
    let h = halted_on c.args.listing.now.engine.log c.loop.listing.engine.log c.next-2.new.self.engine.log c.args.listing.now.subject.budget c.in_err-next.field-0.0 i.longer (rw i.subject at c.in_err-next.ensures.answer) in
    search rules

pub returns-clause-answer : goal.returns-clause-answer
returns-clause-answer g c =
    let i = c.loop.invariant in
    let next = rw (i.subject, i.place) at c.in_ok-next.ensures.answer in
    all_taken _ c.args.listing.now.best c.requires c.args.listing.now.after c.args.count c.loop.valuations.items i.listed c.in_ok-next.field-0 next (omega (arith, i.size, c.loop-test.false, c.loop.auto.counter-end)) c.is_some-more.result c.is_some-more.ensures
