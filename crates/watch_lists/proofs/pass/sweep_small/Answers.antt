use Rattle.std.proofs.Common.{◌≡◌, ℕ, ◌-◌, List, length, get_or, drop, take, subst, Option, arith}
use Rattle.std.proofs.lemmas.List.{take_all, length-drop, get_or_default}
use Rattle.std.proofs.lemmas.List.Elements.{All-drop}
use Rattle.std.specs.Prelude.{All, Contains, IfNone, IfSome}
use Rattle.clause_store.specs.declared.lit.Lit.{Lit}
use Rattle.watch_lists.specs.declared.entry.Entry.{Entry}
use Rattle.watch_lists.specs.Trace.{attached_of, IsComplete, IsFalsified, Grows}
use Rattle.watch_lists.specs.Watches.{HoldFirst}
use Rattle.watch_lists.proofs.Rests.{grows_sub, found_sub, if_none}
use Rattle.watch_lists.proofs.Settled.{hold_grows, hold_rest}
use Rattle.watch_lists.proofs.pass.sweep_small.Goals as goal

-- what is left of a row is of it
left_of : (n : ℕ) (xs : List ℕ) → All (λ x. Contains xs x) (drop n xs)
left_of n xs = All-drop (λ x. Contains xs x) n xs (λ k d
    within. (k, within, get_or_default xs k (get_or xs k d) d within))

left_is : (n : ℕ) (xs : List ℕ) → take (length xs - n) (drop n xs) ≡ drop n xs
left_is n xs = take_all (length xs - n) (drop n xs) (omega (arith, length-drop n xs))

pub returns-clause-found : goal.returns-clause-found
returns-clause-found c =
    found_sub c.args.known.now.list c.args.small.now (drop c.args.settled c.args.small.now)
    c.sweep_all.new.trail.entries c.sweep_all.result
    (left_of c.args.settled c.args.small.now)
    (subst (λ (ns : List ℕ). IfSome c.sweep_all.result
    (IsFalsified (attached_of c.args.known.now.list ns) c.sweep_all.new.trail.entries))
    (left_is c.args.settled c.args.small.now) c.sweep_all.ensures.found)

grown : (known : List (List Lit)) (n : ℕ) (small : List ℕ) (level : ℕ) (es fs : List Entry) →
    Grows (attached_of known (take (length small - n) (drop n small))) level es fs →
    Grows (attached_of known (drop n small)) level es fs
grown known n small level es fs g = subst (λ (ns : List ℕ). Grows (attached_of known ns) level es
    fs) (left_is n small) g

pub returns-clause-complete : goal.returns-clause-complete
returns-clause-complete c =
    let known = c.args.known.now.list in
    let small = c.args.small.now in
    let es = c.args.trail.now.entries in
    let fs = c.sweep_all.new.trail.entries in
    if_none (HoldFirst known small (length small) fs) c.sweep_all.result
    (λ none.
    hold_rest known small c.args.settled fs
    (hold_grows known small c.args.settled (attached_of known (drop c.args.settled small))
    c.args.trail.now.level es fs
    (grown known c.args.settled small c.args.trail.now.level es fs c.sweep_all.ensures.grows)
    c.requires.hold)
    (subst (λ (ns : List ℕ). IsComplete (attached_of known ns) fs) (left_is c.args.settled small)
    (subst (λ (r : Option ℕ). IfNone r (IsComplete
    (attached_of known (take (length small - c.args.settled) (drop c.args.settled small)))
    fs)) none c.sweep_all.ensures.complete)))

pub returns-clause-grows : goal.returns-clause-grows
returns-clause-grows c =
    grows_sub c.args.known.now.list c.args.small.now (drop c.args.settled c.args.small.now)
    c.args.trail.now.level c.args.trail.now.entries c.sweep_all.new.trail.entries
    (left_of c.args.settled c.args.small.now)
    (grown c.args.known.now.list c.args.settled c.args.small.now c.args.trail.now.level
    c.args.trail.now.entries c.sweep_all.new.trail.entries c.sweep_all.ensures.grows)
