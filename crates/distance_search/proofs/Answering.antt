-- What the solver's reply to a claim's assumptions says of the claim.
use Rattle.std.proofs.Common.{◌≡◌, ℕ, Bool, List, [], ◌∷◌, length, map, refl, sym, ap, ◌∙◌, subst, All, Result, Ok, Err}
use Rattle.std.specs.Prelude.{MatchResult, slice_index_or}
use Rattle.std.proofs.lemmas.List.{length-map}
use Rattle.std.proofs.lemmas.List.Elements.{All-map}
use Rattle.clause_store.specs.Lits.{sorted_clause}
use Rattle.clause_store.specs.Truth.{lit_true, all_true, AreTrue}
use Rattle.clause_store.proofs.Truths.{stored_true}
use Rattle.totalizer.proofs.Law.{count_le}
use Rattle.agent_copies.specs.declared.copy.AgentCopy.{AgentCopy}
use Rattle.agent_copies.specs.Counter.{truth_of}
use Rattle.agent_copies.specs.Copy.{CopyDue}
use Rattle.aggregators.specs.Levels.{counts_of, FitLevels}
use Rattle.derivation_log.specs.Logs.{Log}
use Rattle.merge_encoding.specs.declared.frame.Frame.{Frame}
use Rattle.merge_encoding.specs.Assumptions.{IsProperIn, IsProper, AllTrue, NoneSatisfies, assumed_in, assumed}
use Rattle.merge_encoding.specs.Claims.{Assertion, Breaks, values_at}
use Rattle.merge_encoding.specs.Frames.{copy_of, frame_of, IsFrameOver, FrameIsDistinct}
use Rattle.merge_encoding.specs.MainDues.{owns_of}
use Rattle.merge_encoding.proofs.Claiming.{breaks_of, claim_from, shared_size}
use Rattle.distance_search.specs.Setting.{Setting}
use Rattle.distance_search.specs.Laws.{Laws}
use Rattle.distance_search.specs.declared.reply.SearchStop.{SearchStop}
use Rattle.distance_search.specs.declared.reply.Witness.{Witness}
use Rattle.distance_search.specs.declared.reply.Reply.{Reply}
use Rattle.distance_search.specs.declared.reply.Reply.TheVariants.{Refuted, Found}
use Rattle.distance_search.specs.Heard.{IsRefuting, IsHeard, IsStopped}
use Rattle.distance_search.specs.Replies.{IsWitness, IsAnswer}

pub proper_ready : (s : Setting) (frame : Frame) → frame ≡ frame_of s.main → (a : Assertion) → IsProper s.main a → IsProperIn frame a
proper_ready s frame e a p = subst (λ f. IsProperIn f a) (sym e) p

pub over_ready : (s : Setting) → Laws s → (frame : Frame) → frame ≡ frame_of s.main → (v : ℕ) → v ≡ s.main.vars → IsFrameOver v frame
over_ready s l frame e v h = subst (λ n. IsFrameOver n frame) (sym h) (subst (λ f. IsFrameOver s.main.vars f) (sym e) l.over)

pub distinct_ready : (s : Setting) → Laws s → (frame : Frame) → frame ≡ frame_of s.main → FrameIsDistinct frame
distinct_ready s l frame e = subst FrameIsDistinct (sym e) l.distinct

assumed_is : (s : Setting) (frame : Frame) → frame ≡ frame_of s.main → (a : Assertion) → assumed_in frame a ≡ assumed s.main a
assumed_is s frame e a = ap (λ f. assumed_in f a) e

owns_same : (b : ℕ → Bool) (cs : List CopyDue) → map (λ (c : AgentCopy). truth_of b c.own) (map copy_of cs) ≡ owns_of b cs
owns_same b [] = refl
owns_same b (c ∷ cs) = ap (λ x. truth_of b c.own ∷ x) (owns_same b cs)

counts_fit : (b : ℕ → Bool) (ls : List (List ℕ)) → FitLevels (counts_of b ls) ls
counts_fit b [] = tt
counts_fit b (l ∷ ls) = (count_le b l, counts_fit b ls)

witness_of : (s : Setting) → Laws s → (b : ℕ → Bool) → AreTrue s.main.clauses b → (x : Witness) → x.shared ≡ truth_of b s.main.shared → x.own.items ≡ owns_of b s.main.copies → x.values.items ≡ counts_of b s.main.levels → IsWitness s x
witness_of s l b r x ev ew es =
    let m = l.main in
    let p = s.profile in
    record {
      size = ap length ev ∙ shared_size s.dist s.top s.values_of p s.asks s.main m b;
      count = ap length ew ∙ length-map s.main.copies (λ (c : CopyDue). truth_of b c.own) ∙ m.size;
      sizes = subst (λ ws. All (λ w. length w ≡ p.atoms) ws) (sym ew)
          (All-map (λ w. length w ≡ p.atoms) (λ (c : CopyDue). truth_of b c.own) s.main.copies
          (λ k d lt. length-map (slice_index_or s.main.copies k d).own (lit_true b) ∙ m.wide k d lt));
      values = es ∙ m.levels_are b r ∙ ap (λ v. values_at s.dist s.top s.values_of p v (owns_of b s.main.copies)) (sym ev) ∙ ap (values_at s.dist s.top s.values_of p x.shared) (sym ew);
      fits = subst (λ vs. FitLevels vs s.main.levels) (sym es) (counts_fit b s.main.levels);
    }

answer_ready : (s : Setting) → Laws s → (frame : Frame) → frame ≡ frame_of s.main → (old new : Log) → old.main ≡ map sorted_clause s.main.clauses → (a : Assertion) → IsProper s.main a → (r : Reply) → IsHeard frame old new (assumed_in frame a) r → IsAnswer s new a r
answer_ready s l frame e old new h a p (Refuted number) heard =
    let m = l.main in
    let same = assumed_is s frame e a in
    let none : NoneSatisfies s.main (assumed s.main a) = λ b r t. heard.0 b (ap (all_true b) h ∙ stored_true b s.main.clauses ∙ r) (subst (λ ls. AllTrue b ls) (sym same) t) in
    (claim_from s.dist s.top s.values_of s.profile s.asks s.main m a p none, subst (λ ls. IsRefuting new ls number) same heard.1)
answer_ready s l frame e old new h a p (Found x) heard =
    let m = l.main in
    let b = heard.assignment in
    let seen = heard.seen in
    let same = assumed_is s frame e a in
    let r : AreTrue s.main.clauses b = sym (ap (all_true b) h ∙ stored_true b s.main.clauses) ∙ heard.holds_all in
    let t : AllTrue b (assumed s.main a) = subst (λ ls. AllTrue b ls) same heard.assumptions in
    let ev : x.shared ≡ truth_of b s.main.shared = seen.shared ∙ ap (λ (f : Frame). truth_of b f.shared) e in
    let ew : x.own.items ≡ owns_of b s.main.copies = seen.own ∙ ap (λ (f : Frame). map (λ (c : AgentCopy). truth_of b c.own) f.copies) e ∙ owns_same b s.main.copies in
    let es : x.values.items ≡ counts_of b s.main.levels = seen.values ∙ ap (λ (f : Frame). counts_of b f.levels) e in
    let broken = breaks_of s.dist s.top s.values_of s.profile s.asks s.main m b r a p t in (
      witness_of s l b r x ev ew es,
      subst (λ v. Breaks s.dist s.top s.values_of s.profile s.asks a v x.own.items) (sym ev)
          (subst (λ ws. Breaks s.dist s.top s.values_of s.profile s.asks a (truth_of b s.main.shared) ws) (sym ew) broken),
    )

-- what was heard through the frame answers the claim
pub answered : (s : Setting) → Laws s → (frame : Frame) → frame ≡ frame_of s.main → (old new : Log) (budget : ℕ) → old.main ≡ map sorted_clause s.main.clauses → (a : Assertion) → IsProper s.main a → (r : Result Reply SearchStop) →
    MatchResult r (λ reply. IsHeard frame old new (assumed_in frame a) reply) (λ stop. IsStopped old new budget stop) → MatchResult r (λ reply. IsAnswer s new a reply) (λ stop. IsStopped old new budget stop)
answered s l frame e old new budget h a p (Ok reply) heard = answer_ready s l frame e old new h a p reply heard
answered s l frame e old new budget h a p (Err stop) heard = heard
