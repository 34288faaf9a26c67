-- What the solver's replies say of a list of assumptions.
use Rattle.std.proofs.Common.{◌≡◌, ℕ, ◌+◌, ◌<◌, ◌≤◌, ◌^◌, Bool, List, [], ◌∷◌, ◌++◌, length, sym, ap, ◌∙◌, subst, arith, append_assoc, length-append}
use Rattle.std.specs.Prelude.{slice_get}
use Rattle.clause_store.specs.declared.lit.Lit.{Lit}
use Rattle.clause_store.specs.Truth.{AreTrue, values_of}
use Rattle.clause_store.proofs.Numbered.{get_seam}
use Rattle.derivation_log.proofs.Steps.{clauses_append}
use Rattle.derivation_log.specs.Logs.{Log, known_of, clauses_of}
use Rattle.clause_store.specs.Refutes.{Refutes}
use Rattle.cdcl_core.specs.Replies.{IsAnswered, IsJust, IsDecided}
use Rattle.cdcl_core.specs.declared.reply.Reply.{Reply as Told}
use Rattle.cdcl_core.specs.declared.reply.Reply.TheVariants as told
use Rattle.merge_encoding.specs.declared.frame.Frame.{Frame}
use Rattle.merge_encoding.specs.Assumptions.{AllTrue}
use Rattle.merge_encoding.specs.Frames.{IsFrameOver}
use Rattle.distance_search.specs.Heard.{IsSeen, IsRead, IsRefuting, IsSpent}
use Rattle.distance_search.specs.declared.reply.Witness.{Witness}

pub heard_refuted : (old new : Log) (asked assumed : List Lit) (budget : ℕ) (reply : Told) (number : ℕ) → asked ≡ assumed → reply ≡ told.Refuted number → IsAnswered old new asked budget reply → IsJust old.main asked reply →
    ((b : ℕ → Bool) → AreTrue old.main b → AllTrue b assumed → ⊥) × IsRefuting new assumed number
heard_refuted old new asked assumed budget reply number same is answer just =
    let x = subst (λ r. IsAnswered old new asked budget r) is answer in
    let j = subst (λ r. IsJust old.main asked r) is just in
    let mid = x.2 in
    let claimed = x.4 in
    let s = claimed.0 in
    let appended = claimed.3 in
    let known : known_of new ≡ known_of mid ++ s.clause ∷ [] = ap known_of appended ∙ ap (λ cs. mid.main ++ cs) (clauses_append mid.steps (s ∷ [])) ∙ sym (append_assoc mid.main (clauses_of mid.steps) (s.clause ∷ [])) in (
      λ b r t. j b r (subst (λ ls. AllTrue b ls) (sym same) t),
      record {
        above = omega (arith, x.5, length-append mid.main (clauses_of mid.steps), ap (λ (l : Log). length l.main) appended);
        clause = s.clause;
        is_there = ap (λ cs. slice_get cs number) known ∙ ap (λ k. slice_get (known_of mid ++ s.clause ∷ []) k) x.5 ∙ get_seam (known_of mid) s.clause;
        refuted = subst (λ ls. Refutes s.clause ls) same claimed.2;
      },
    )

pub heard_found : (frame : Frame) (old new : Log) (asked assumed : List Lit) (budget : ℕ) (reply : Told) (values : List Bool) (x : Witness) → asked ≡ assumed → reply ≡ told.Found values → IsAnswered old new asked budget reply → IsSeen frame (values_of values) x → IsRead frame old.main assumed x
heard_found frame old new asked assumed budget reply values x same is answer seen =
    let y = subst (λ r. IsAnswered old new asked budget r) is answer in
    let solution = y.3 in
    record {
      assignment = values_of values;
      holds_all = solution.clauses;
      assumptions = subst (λ ls. AllTrue (values_of values) ls) same solution.assumptions;
      seen = seen;
    }

below : (a b : ℕ) → (a ≤ b → ⊥) → b < a
below a b h = grind arith

pub heard_spent : (old new : Log) (asked : List Lit) (budget : ℕ) (reply : Told) (number : ℕ) → reply ≡ told.GaveUp number → IsAnswered old new asked budget reply → (3 ^ old.vars ≤ budget → IsDecided reply) → IsSpent old new budget number
heard_spent old new asked budget reply number is answer enough =
    let x = subst (λ r. IsAnswered old new asked budget r) is answer in
    record { grown = x.0; first = x.1; few = below (3 ^ old.vars) budget (λ h. subst IsDecided is (enough h)) }

-- the assignment has a value for each variable, so it can be read through a frame over them
pub found_over : (old new : Log) (asked : List Lit) (budget : ℕ) (reply : Told) (values : List Bool) (frame : Frame) → reply ≡ told.Found values → IsAnswered old new asked budget reply → IsFrameOver old.vars frame → IsFrameOver (length values) frame
found_over old new asked budget reply values frame is answer over =
    let y = subst (λ r. IsAnswered old new asked budget r) is answer in
    let solution = y.3 in
    subst (λ n. IsFrameOver n frame) (sym solution.size) over
