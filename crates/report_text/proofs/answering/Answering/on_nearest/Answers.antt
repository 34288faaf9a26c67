use Rattle.std.specs.List.{AllByRecursion}
use Rattle.merge_model.specs.Answers.{dist_named}
use Rattle.report_lines.specs.Holding.{are_near}
use Rattle.report_lines.specs.Places.{profile_at}
use Rattle.report_text.proofs.Rows.{due_here}
use Rattle.std.proofs.Common.{◌≡◌, ℕ, Bool, true, List, refl, ap, ◌∙◌, sym, subst, length}
use Rattle.report_lines.specs.Following.{after}
use Rattle.report_lines.specs.Holding.{holds}
use Rattle.report_lines.specs.Items.{NearestLine}
use Rattle.report_lines.specs.Judged.{faulty}
use Rattle.report_text.specs.Answering.{position_of}
use Rattle.report_text.proofs.answering.Answering.on_nearest.Goals as goal

pub returns-then-not-are_near_named-clause-judged : goal.returns-then-not-are_near_named-clause-judged
returns-then-not-are_near_named-clause-judged c =
    let p = position_of c.args.self.now in
    let ws = c.in-Some.nearest.items in
    let read = rw c.in-Some.is at c.in_ok-nearest.ensures in
    let near : c.are_near_named.result ≡ holds p (NearestLine ws) =
    c.are_near_named.ensures
    ∙ ap (λ (ds : List ℕ). are_near (dist_named p.distance p.draft.atoms) p.model (profile_at p).bases ds c.deref-2.result.now) c.deref.ensures.value
    ∙ ap (λ (us : List (List Bool)). are_near (dist_named p.distance p.draft.atoms) p.model (profile_at p).bases p.vector us) c.deref-2.ensures.value in
    faulty (NearestLine ws) (ws, refl, read.1 ∙ c.len-agents.ensures, subst (λ (n : ℕ). AllByRecursion (λ (w : List Bool). length w ≡ n) ws) c.len-atoms.ensures.number read.2) read.0 (sym near ∙ c.if-not-are_near_named.true) refl

pub returns-clause-judged : goal.returns-clause-judged
returns-clause-judged c =
    let p = position_of c.args.self.now in
    let ws = c.in-Some.nearest.items in
    let read = rw c.in-Some.is at c.in_ok-nearest.ensures in
    let near : c.are_near_named.result ≡ holds p (NearestLine ws) =
    c.are_near_named.ensures
    ∙ ap (λ (ds : List ℕ). are_near (dist_named p.distance p.draft.atoms) p.model (profile_at p).bases ds c.deref-2.result.now) c.deref.ensures.value
    ∙ ap (λ (us : List (List Bool)). are_near (dist_named p.distance p.draft.atoms) p.model (profile_at p).bases p.vector us) c.deref-2.ensures.value in
    let held : holds p (NearestLine ws) ≡ true = sym near ∙ c.if-not-are_near_named.false in (
      after p (NearestLine ws),
      record { item = NearestLine ws; of = (ws, refl, read.1 ∙ c.len-agents.ensures, subst (λ (n : ℕ). AllByRecursion (λ (w : List Bool). length w ≡ n) ws) c.len-atoms.ensures.number read.2); words = read.0; leads = (held, refl) },
      due_here p _ _ (sym c.due_after_nearest-self.ensures),
    )
