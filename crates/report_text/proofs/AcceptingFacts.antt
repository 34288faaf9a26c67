-- What is known of a text while it is judged.
use Rattle.std.proofs.Common.{◌≡◌, ◌≢◌, ℕ, ◌+◌, ◌<◌, false, List, [], ◌∷◌, ◌++◌, length, None, Some, Result, Ok, Err, ap, sym, subst, append_assoc, length-append, arith}
use Rattle.std.specs.Prelude.{IfOk, IfErr, eqb}
use Rattle.std.proofs.lemmas.List.{append-nil}
use Rattle.std.proofs.lemmas.List.Elements.{All-nil, All-append}
use Rattle.report_lines.specs.declared.kinds.Kind.{Kind}
use Rattle.report_lines.specs.declared.kinds.RefusedKind.TheVariants as refused
use Rattle.report_lines.specs.Judged.{IsAccepted}
use Rattle.report_text.specs.declared.accepting.AcceptStop.{AcceptStop}
use Rattle.report_text.specs.declared.progress.Progress.{Progress}
use Rattle.report_text.specs.declared.stop.LineStop.{LineStop}
use Rattle.report_text.specs.declared.stop.LineStop.TheVariants as stops
use Rattle.report_text.specs.Accepting.{IsStop, IsEnd, HasNoFeed, stop_at}
use Rattle.report_text.specs.Checker.{Stands, IsFit, IsOver, IsNext, IsOutcome}
use Rattle.report_text.specs.Open.{Open}
use Rattle.report_text.specs.Progress.{StandsBefore, IsAt}
use Rattle.report_text.proofs.CheckerPlaces.{is_over, over_due, is_fit}
use Rattle.report_text.proofs.OpenLaws.{open_feed, open_more, open_wrong, open_late, open_past, open_over, open_unended}

-- a piece comes
pub at_piece : (text piece : List ℕ) (progress : Progress) → IsAt text progress → StandsBefore (text ++ piece) piece progress
at_piece text piece progress h = record {
  place = h.place;
  stands = h.stands;
  reads = open_feed text progress.held.items piece h.place progress.number h.reads;
  unended = h.unended;
}

pub before_fit : (text next : List ℕ) (progress : Progress) → StandsBefore text next progress → IsFit progress.checker
before_fit text next progress h = is_fit progress.checker h.place h.stands

-- a line of it ends
module _ (progress : Progress) (line text next : List ℕ) (h : StandsBefore text (line ++ 10 ∷ next) progress) (none : HasNoFeed line) where
  split : progress.held.items ++ (line ++ 10 ∷ next) ≡ (progress.held.items ++ line) ++ 10 ∷ next
  split = sym (append_assoc progress.held.items line (10 ∷ next))

  unfed : HasNoFeed (progress.held.items ++ line)
  unfed = All-append (λ b. eqb b 10 ≡ false) progress.held.items line h.unended none

  pub line_late : IsOver progress.checker → (more : List ℕ) → IsStop (text ++ more) (stop_at progress.number (stops.Wrong refused.Ended))
  line_late over =
      open_late text (progress.held.items ++ (line ++ 10 ∷ next)) h.place progress.number h.reads (progress.held.items ++ line) next split unfed (over_due progress.checker h.place h.stands over)

  pub line_right : (later : Progress) → IsNext h.place (progress.held.items ++ line) (Ok later.checker) → later.held.items ≡ [] → later.number ≡ progress.number + 1 → StandsBefore text next later
  line_right later right empty number = record {
    place = right.0;
    stands = right.2;
    reads = subst (λ (held : List ℕ). Open text (held ++ next) right.0 later.number) (sym empty) (subst (Open text next right.0) (sym number)
        (open_more text (progress.held.items ++ (line ++ 10 ∷ next)) h.place progress.number h.reads (progress.held.items ++ line) next split unfed right.0 right.1));
    unended = subst HasNoFeed (sym empty) (All-nil (λ b. eqb b 10 ≡ false));
  }

  pub line_stop : (stop : LineStop) → (IsOver progress.checker → ⊥) → IsNext h.place (progress.held.items ++ line) (Err stop) → (more : List ℕ) → IsStop (text ++ more) (stop_at progress.number stop)
  line_stop (stops.Wrong k) unfinished wrong =
      open_wrong text (progress.held.items ++ (line ++ 10 ∷ next)) h.place progress.number h.reads (progress.held.items ++ line) next split unfed k (λ over. unfinished (is_over progress.checker h.place h.stands over)) wrong
  line_stop stops.NoMemory unfinished wrong = λ more. tt

-- no line of it ends any more
module _ (progress : Progress) (rest text : List ℕ) (h : StandsBefore text rest progress) (none : HasNoFeed rest) where
  pub hold_late : IsOver progress.checker → progress.held.items ++ rest ≢ [] → (more : List ℕ) → IsStop (text ++ more) (stop_at progress.number (stops.Wrong refused.Ended))
  hold_late over some = open_past text (progress.held.items ++ rest) h.place progress.number h.reads some (over_due progress.checker h.place h.stands over)

  pub hold_more : (later : Progress) → later.checker ≡ progress.checker → later.held.items ≡ progress.held.items ++ rest → later.number ≡ progress.number → (IsOver progress.checker → later.held.items ≡ []) → IsAt text later
  hold_more later same held number late = record {
    place = h.place;
    stands = subst (λ k. Stands k h.place) (sym same) h.stands;
    reads = subst (λ (bytes : List ℕ). Open text bytes h.place later.number) (sym held) (subst (Open text (progress.held.items ++ rest) h.place) (sym number) h.reads);
    unended = subst HasNoFeed (sym held) (All-append (λ b. eqb b 10 ≡ false) progress.held.items rest h.unended none);
    nothing_late = λ over. late (is_over progress.checker h.place h.stands over);
  }

pub shorter : (rest line next : List ℕ) → rest ≡ line ++ 10 ∷ next → length next < length rest
shorter rest line next e = omega (arith, ap length e, length-append line (10 ∷ next))

-- the end

module _ (text : List ℕ) (progress : Progress) (h : IsAt text progress) where
  pub end_over : (kind : Kind) → IsOutcome h.place (Some kind) → IsAccepted text kind
  end_over kind o = subst (IsAccepted text) (sym o.1) (open_over text progress.held.items h.place progress.number h.reads h.unended (h.nothing_late o.0) o.0)

  pub end_open : IsOutcome h.place None → IsStop text (stop_at progress.number (stops.Wrong refused.Ended))
  end_open unfinished = open_unended text progress.held.items h.place progress.number h.reads h.unended (λ over e. unfinished over)

pub end_ok : (text : List ℕ) (r : Result Kind AcceptStop) → IsEnd text r → IfOk r (λ kind. IsAccepted text kind)
end_ok text (Ok kind) h = h
end_ok text (Err stop) h = tt

pub end_refused : (text : List ℕ) (r : Result Kind AcceptStop) → IsEnd text r → IfErr r (λ stop. IsStop text stop)
end_refused text (Ok kind) h = tt
end_refused text (Err stop) h = h

pub whole_stop : (text : List ℕ) (stop : AcceptStop) → ((more : List ℕ) → IsStop (text ++ more) stop) → IsStop text stop
whole_stop text stop h = subst (λ (t : List ℕ). IsStop t stop) (append-nil text) (h [])
