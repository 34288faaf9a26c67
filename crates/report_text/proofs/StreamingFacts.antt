-- What is known of a source while its text is judged.
use Rattle.std.proofs.Common.{◌≡◌, ℕ, ◌+◌, ◌≤◌, List, [], ◌++◌, length, Option, None, Some, Result, Ok, Err, refl, sym, ap, subst, ◌∙◌, inl, inr, arith}
use Rattle.std.specs.Prelude.{IfOk, IfErr}
use Rattle.std.specs.Io.KnownBytes.{Consumes, Keeps, IsAtEnd}
use Rattle.std.proofs.KnownBytes.{Consumes-nil, Consumes-kept}
use Rattle.std.proofs.lemmas.List.{append-nil}
use Rattle.edge.specs.Streams.{Gave, piece_limit}
use Rattle.edge.proofs.Given.{Gave-more}
use Rattle.report_lines.specs.declared.kinds.Kind.{Kind}
use Rattle.report_lines.specs.Judged.{IsAccepted, IsFirstWrong}
use Rattle.report_text.specs.declared.accepting.AcceptStop.{AcceptStop}
use Rattle.report_text.specs.declared.accepting.AcceptStop.TheVariants as texts
use Rattle.report_text.specs.declared.accepting.Refused.{Refused}
use Rattle.report_text.specs.declared.progress.Progress.{Progress}
use Rattle.report_text.specs.declared.streaming.AcceptFromStop.{AcceptFromStop}
use Rattle.report_text.specs.declared.streaming.AcceptFromStop.TheVariants as stops
use Rattle.report_text.specs.Accepting.{IsStop, IsBorneOutText}
use Rattle.report_text.specs.Progress.{IsAt}
use Rattle.report_text.specs.Streaming.{IsUndecided, IsReadNoFurther, IsRefusedFrom, IsAnswerFrom, IsJudgedFrom, IsStopFrom, stop_from}
use Rattle.report_text.proofs.AcceptingFacts.{whole_stop}

-- the source gave a text on which no answer is due yet
pub record Streams (before now : Option (List ℕ)) (room_before room_now : ℕ) (progress : Progress) : Type 0 where
  pub text : List ℕ
  pub gave : Gave before now room_before room_now text
  pub reads : IsAt text progress

pub streams_start : (left : Option (List ℕ)) (room : ℕ) (progress : Progress) → IsAt [] progress → Streams left left room room progress
streams_start left room progress h = record { text = []; gave = record { known = Consumes-nil left; count = omega arith }; reads = h }

undecided : (text : List ℕ) (progress : Progress) → IsAt text progress → IsUndecided text
undecided text progress h = record { rest = progress.held.items; place = h.place; number = progress.number; reads = h.reads; unended = h.unended; nothing_late = h.nothing_late }

no_further : (text piece : List ℕ) (progress : Progress) → IsAt text progress → length piece ≤ piece_limit → IsReadNoFurther (text ++ piece)
no_further text piece progress h few = record { before = text; last = piece; whole = refl; few = few; undecided = undecided text progress h }

no_more : (text : List ℕ) (progress : Progress) → IsAt text progress → IsReadNoFurther text
no_more text progress h = subst IsReadNoFurther (append-nil text) (no_further text [] progress h (omega arith))

lasting_stop : (text : List ℕ) (left : Option (List ℕ)) (stop : AcceptStop) → ((more : List ℕ) → IsStop (text ++ more) stop) → IsAnswerFrom text left (Err (stop_from stop))
lasting_stop text left (texts.Refused r) h = record { first = whole_stop text (texts.Refused r) h; lasting = inl h }
lasting_stop text left texts.NoMemory h = tt

end_stop : (text : List ℕ) (left : Option (List ℕ)) (stop : AcceptStop) → IsAtEnd left → IsStop text stop → IsAnswerFrom text left (Err (stop_from stop))
end_stop text left (texts.Refused r) over h = record { first = h; lasting = inr over }
end_stop text left texts.NoMemory over h = tt

module _ (a b c : Option (List ℕ)) (r s t : ℕ) (progress : Progress) (h : Streams a b r s progress) where
  -- a read gave a piece
  module _ (piece : List ℕ) (known : Consumes b c piece) (spent : length piece + t ≡ s) where
    more : Gave a c r t (h.text ++ piece)
    more = Gave-more a b c r s t h.text piece h.gave known spent

    pub streams_more : (later : Progress) → IsAt (h.text ++ piece) later → Streams a c r t later
    streams_more later fed = record { text = h.text ++ piece; gave = more; reads = fed }

    pub streams_stop : length piece ≤ piece_limit → (stop : AcceptStop) → ((more : List ℕ) → IsStop ((h.text ++ piece) ++ more) stop) → IsJudgedFrom a c r t (Err (stop_from stop))
    streams_stop few stop fed = record {
      text = h.text ++ piece;
      gave = more;
      needed = no_further h.text piece progress h.reads few;
      answer = lasting_stop (h.text ++ piece) c stop fed;
    }

  -- a read gave nothing, at the end
  module _ (known : Consumes b c []) (spent : 0 + t ≡ s) (over : IsAtEnd c) where
    whole : Gave a c r t h.text
    whole = subst (Gave a c r t) (append-nil h.text) (Gave-more a b c r s t h.text [] h.gave known spent)

    pub streams_accepted : (kind : Kind) → IsAccepted h.text kind → IsBorneOutText h.text kind → IsJudgedFrom a c r t (Ok kind)
    streams_accepted kind accepted borne_out = record {
      text = h.text;
      gave = whole;
      needed = no_more h.text progress h.reads;
      answer = record { accepted = accepted; borne_out = borne_out; at_end = over };
    }

    pub streams_refused : (stop : AcceptStop) → IsStop h.text stop → IsJudgedFrom a c r t (Err (stop_from stop))
    streams_refused stop refused = record { text = h.text; gave = whole; needed = no_more h.text progress h.reads; answer = end_stop h.text c stop over refused }

  -- a read failed
  pub streams_failed : Keeps b c → t ≡ s → IsJudgedFrom a c r t (Err stops.Failed)
  streams_failed keeps same = record {
    text = h.text;
    gave = record { known = Consumes-kept a b c h.text h.gave.known keeps; count = omega (arith, h.gave.count, same) };
    needed = no_more h.text progress h.reads;
    answer = undecided h.text progress h.reads;
  }

-- where the source tells its bytes

all_given : (all text : List ℕ) (now : Option (List ℕ)) → Consumes (Some all) now text → IsAtEnd now → all ≡ text
all_given all text None known over = absurd known
all_given all text (Some rest) known over = known ∙ (ap (λ (x : List ℕ). text ++ x) over ∙ append-nil text)

told_first : (all text : List ℕ) (now : Option (List ℕ)) (refusal : Refused) → Consumes (Some all) now text → IsRefusedFrom text now refusal → IsFirstWrong all refusal.line refusal.kind
told_first all text None refusal known h = absurd known
told_first all text (Some rest) refusal known h =
    elim h.lasting [
      | inl whatever ↦ subst (λ (x : List ℕ). IsFirstWrong x refusal.line refusal.kind) (sym known) (whatever rest)
      | inr over ↦ subst (λ (x : List ℕ). IsFirstWrong x refusal.line refusal.kind) (sym (all_given all text (Some rest) known over)) h.first
    ]

module _ (all : List ℕ) (before now : Option (List ℕ)) (r s : ℕ) (told : before ≡ Some all) where
  known : (text : List ℕ) → Gave before now r s text → Consumes (Some all) now text
  known text gave = subst (λ (left : Option (List ℕ)). Consumes left now text) told gave.known

  pub told_accepted : (result : Result Kind AcceptFromStop) → IsJudgedFrom before now r s result → IfOk result (λ kind. IsAccepted all kind)
  told_accepted (Ok kind) h = subst (λ (text : List ℕ). IsAccepted text kind) (sym (all_given all h.text now (known h.text h.gave) h.answer.at_end)) h.answer.accepted
  told_accepted (Err stop) h = tt

  pub told_refused : (result : Result Kind AcceptFromStop) → IsJudgedFrom before now r s result → IfErr result (λ stop. IsStopFrom all stop)
  told_refused (Ok kind) h = tt
  told_refused (Err (stops.Refused refusal)) h = told_first all h.text now refusal (known h.text h.gave) h.answer
  told_refused (Err stops.Failed) h = tt
  told_refused (Err stops.NoMemory) h = tt
