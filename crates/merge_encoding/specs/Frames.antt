-- Where the parts of a problem stand in its main clauses.
use Rattle.std.specs.Prelude.{◌≡◌, ◌≢◌, ℕ, ◌≤◌, true, List, [], ◌∷◌, ◌++◌, length, map, All, AllPairs, slice_index_or}
use Rattle.std.specs.List.{AllByRecursion, concat}
use Rattle.clause_store.specs.declared.lit.Lit.{Lit}
use Rattle.clause_store.specs.Lits.{positive_lit, IsWithin, InRange}
use Rattle.totalizer.specs.Counter.{AreVarsWithin, AllVarsWithin}
use Rattle.formulas.specs.Limits.{valuation_limit}
use Rattle.agent_copies.specs.declared.copy.AgentCopy.{AgentCopy}
use Rattle.agent_copies.specs.Copy.{CopyDue}
use Rattle.merge_encoding.specs.declared.frame.Frame.{Frame}
use Rattle.merge_encoding.specs.MainDues.{MainDue}

abbrev pub copy_of : CopyDue → AgentCopy
copy_of c = record { own = c.own; root = positive_lit c.root; away = c.away }

-- the frame of what is due
abbrev pub frame_of : MainDue → Frame
frame_of main = record { shared = main.shared; constraint = positive_lit main.constraint; asks = map positive_lit main.asks; copies = map copy_of main.copies; levels = main.levels }

abbrev pub absent_copy : AgentCopy
absent_copy = record { own = []; root = positive_lit 0; away = [] }

-- the copy of agent i, from 0
abbrev pub copy_in : List AgentCopy → ℕ → AgentCopy
copy_in copies i = slice_index_or copies i absent_copy

-- the roots of the constraint and of each base
abbrev pub roots_in : Frame → List Lit
roots_in f = f.constraint ∷ map (λ (c : AgentCopy). c.root) f.copies

-- the copy's own literals are as many as the n shared ones, and all its literals are from 1 to vars
pub record IsCopyOver (vars n : ℕ) (c : AgentCopy) : Type 0 where
  pub size : length c.own ≡ n
  pub own : InRange vars c.own
  pub root : IsWithin vars c.root
  pub away : AreVarsWithin vars c.away

-- a frame over the variables from 1 to vars, of as many atoms as a valuation has
pub record IsFrameOver (vars : ℕ) (f : Frame) : Type 0 where
  pub few : length f.shared ≤ valuation_limit
  pub shared : InRange vars f.shared
  pub constraint : IsWithin vars f.constraint
  pub asks : InRange vars f.asks
  pub copies : AllByRecursion (IsCopyOver vars (length f.shared)) f.copies
  pub levels : AllVarsWithin vars f.levels

-- the literals are positive, and on distinct variables
pub record AreApart (ls : List Lit) : Type 0 where
  pub positive : All (λ l. l.positive ≡ true) ls
  pub distinct : AllPairs (λ k l. k.var ≢ l.var) ls

-- the literals that claims on levels speak of
abbrev pub level_lits : Frame → List Lit
level_lits f = f.shared ++ (roots_in f ++ (f.asks ++ map positive_lit (concat f.levels)))

-- the literals that claims on one distance speak of
abbrev pub distance_lits : Frame → List Lit
distance_lits f = f.shared ++ (map (λ (c : AgentCopy). c.root) f.copies ++ map positive_lit (concat (map (λ (c : AgentCopy). c.away) f.copies)))

-- literals that one claim may speak of are positive, and on distinct variables. The outputs of the levels and those
-- of the counters may be the same
pub record FrameIsDistinct (f : Frame) : Type 0 where
  pub by_levels : AreApart (level_lits f)
  pub by_distances : AreApart (distance_lits f)
