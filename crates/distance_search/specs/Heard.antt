-- What a solver's reply says through the frame.
use Rattle.std.specs.Prelude.{◌≡◌, ℕ, ◌<◌, ◌≤◌, ◌^◌, Bool, List, length, map, slice_get, Some}
use Rattle.clause_store.specs.declared.lit.Lit.{Lit}
use Rattle.clause_store.specs.Truth.{AreTrue}
use Rattle.agent_copies.specs.declared.copy.AgentCopy.{AgentCopy}
use Rattle.agent_copies.specs.Counter.{truth_of}
use Rattle.aggregators.specs.Levels.{counts_of}
use Rattle.derivation_log.specs.Logs.{Log, known_of}
use Rattle.clause_store.specs.Refutes.{Refutes}
use Rattle.cdcl_core.specs.Replies.{IsGrown, IsLonger}
use Rattle.merge_encoding.specs.declared.frame.Frame.{Frame}
use Rattle.merge_encoding.specs.Assumptions.{AllTrue}
use Rattle.distance_search.specs.declared.reply.Witness.{Witness}
use Rattle.distance_search.specs.declared.reply.Reply.{Reply}
use Rattle.distance_search.specs.declared.reply.Reply.TheVariants.{Refuted, Found}
use Rattle.distance_search.specs.declared.reply.SearchStop.{SearchStop}
use Rattle.distance_search.specs.declared.reply.SearchStop.TheVariants.{GaveUp, NoMemory}

-- the witness is what an assignment says through the frame
pub record IsSeen (frame : Frame) (b : ℕ → Bool) (x : Witness) : Type 0 where
  pub shared : x.shared ≡ truth_of b frame.shared
  pub own : x.own.items ≡ map (λ (c : AgentCopy). truth_of b c.own) frame.copies
  pub values : x.values.items ≡ counts_of b frame.levels

-- and that assignment satisfies the clauses and the assumptions
pub record IsRead (frame : Frame) (clauses : List (List Lit)) (assumed : List Lit) (x : Witness) : Type 0 where
  pub assignment : ℕ → Bool
  pub holds_all : AreTrue clauses assignment
  pub assumptions : AllTrue assignment assumed
  pub seen : IsSeen frame assignment x

-- the step of that number, which is of no main clause, refutes the assumptions
pub record IsRefuting (log : Log) (assumed : List Lit) (number : ℕ) : Type 0 where
  pub above : length log.main ≤ number
  pub clause : List Lit
  pub is_there : slice_get (known_of log) number ≡ Some clause
  pub refuted : Refutes clause assumed

abbrev pub IsHeard : Frame → Log → Log → List Lit → Reply → Type 0
IsHeard frame old new assumed (Refuted number) = ((b : ℕ → Bool) → AreTrue old.main b → AllTrue b assumed → ⊥) × IsRefuting new assumed number
IsHeard frame old new assumed (Found x) = IsRead frame old.main assumed x

-- a question spent its budget: the log grew by so many learned steps, the first of which has that number; so many
-- are fewer than the clauses that could be learned
pub record IsSpent (old new : Log) (budget number : ℕ) : Type 0 where
  pub grown : IsGrown old new budget
  pub first : number ≡ length (known_of old)
  pub few : budget < 3 ^ old.vars

-- why a question has no answer
abbrev pub IsStopped : Log → Log → ℕ → SearchStop → Type 0
IsStopped old new budget (GaveUp number) = IsSpent old new budget number
IsStopped old new budget NoMemory = Unit {0}

-- the last of some questions has no answer
pub record IsHalted (old new : Log) (budget : ℕ) (stop : SearchStop) : Type 0 where
  pub before : Log
  pub longer : IsLonger old before
  pub stopped : IsStopped before new budget stop
