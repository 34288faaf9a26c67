-- What encoding needs and what it makes, step by step.
use Rattle.std.proofs.Common.{◌≡◌, ℕ, ◌+◌, ◌≤◌, List, [], ◌∷◌, ◌++◌, length, map, refl, sym, ap, ◌∙◌, subst, arith, All, Result, Ok, Err}
use Rattle.std.specs.Prelude.{IfOk}
use Rattle.std.proofs.lemmas.List.Sums.{get_or-le-sum_by}
use Rattle.clause_store.specs.declared.lit.Lit.{Lit}
use Rattle.clause_store.specs.Lits.{positive_lit, sorted_clause, InRange}
use Rattle.clause_store.specs.Clauses.{Clauses}
use Rattle.clause_store.proofs.Grows.{stored-append}
use Rattle.clause_translation.specs.Definition.{Definition, definition}
use Rattle.formulas.specs.declared.formula.Formula.{Formula}
use Rattle.formulas.specs.Formulas.{nodes_of}
use Rattle.merge_model.specs.declared.agent.Agent.{Agent}
use Rattle.merge_model.specs.declared.problem.Problem.{Problem}
use Rattle.merge_model.specs.Answers.{profile_of}
use Rattle.agent_copies.specs.declared.copy.AgentCopy.{AgentCopy}
use Rattle.agent_copies.specs.Copy.{CopyDue}
use Rattle.clause_store.specs.Fresh.{fresh_lits}
use Rattle.aggregators.specs.Levels.{LevelsDue}
use Rattle.formulas.specs.Limits.{node_limit}
use Rattle.merge_encoding.specs.MainDues.{DueCounter, DueLevels, DefinedAll, definitions, CopiesDue, copies_due, aways_of, MainDue, due_for}
use Rattle.merge_encoding.specs.Frames.{copy_of, frame_of, IsFrameOver, FrameIsDistinct}
use Rattle.merge_encoding.specs.declared.frame.Frame.{Frame}
use Rattle.merge_encoding.specs.declared.frame.Main.{Main}
use Rattle.merge_encoding.proofs.OneAssignment.{shared_of, constraint_of, asked_of, copied_of, leveled_of, shared_long, shared_within, asked_room}

pub shared_size : (problem : Problem) (xs : List Lit) → xs ≡ shared_of (profile_of problem) → length xs ≡ length problem.atoms
shared_size problem xs e = ap length e ∙ shared_long (profile_of problem)

pub shared_in : (problem : Problem) (xs : List Lit) (v : ℕ) → xs ≡ shared_of (profile_of problem) → length problem.atoms ≤ v → InRange v xs
shared_in problem xs v e le = subst (λ ls. InRange v ls) (sym e) (shared_within (profile_of problem) v le)

-- the shared variables are there, and no clause
pub record IsStarted (problem : Problem) (shared : List Lit) (now : Clauses) : Type 0 where
  pub shared_are : shared ≡ shared_of (profile_of problem)
  pub vars : now.vars ≡ length problem.atoms
  pub none : now.list ≡ []

pub started : (problem : Problem) (old now : Clauses) (xs : List Lit) (k : ℕ) → old ≡ record { list = []; vars = 0 } → k ≡ length problem.atoms → xs ≡ fresh_lits old.vars k → now ≡ record old { vars = old.vars + k } → IsStarted problem xs now
started problem old now xs k begun size xs_are is = record {
  shared_are = xs_are ∙ ap (λ (x : Clauses). fresh_lits x.vars k) begun ∙ ap (fresh_lits 0) size;
  vars = let v = ap (λ (x : Clauses). x.vars) begun in let w = ap (λ (x : Clauses). x.vars) is in omega arith;
  none = ap (λ (x : Clauses). x.list) is ∙ ap (λ (x : Clauses). x.list) begun;
}

-- and then the constraint
pub record IsConstrained (problem : Problem) (root : Lit) (now : Clauses) : Type 0 where
  pub root_is : root ≡ positive_lit (constraint_of (profile_of problem)).root
  pub vars : now.vars ≡ (constraint_of (profile_of problem)).root
  pub list : now.list ≡ map sorted_clause (constraint_of (profile_of problem)).clauses

pub constrained : (problem : Problem) (xs given : List Lit) (old now : Clauses) (root : Lit) → IsStarted problem xs old → given ≡ xs → root ≡ positive_lit (definition given problem.constraint old.vars).root → now.vars ≡ (definition given problem.constraint old.vars).root →
    now.list ≡ old.list ++ map sorted_clause (definition given problem.constraint old.vars).clauses → IsConstrained problem root now
constrained problem xs given old now root s same root_eq vars_eq list_eq =
    let e : definition given problem.constraint old.vars ≡ constraint_of (profile_of problem) = ap (λ x. definition x problem.constraint old.vars) (same ∙ s.shared_are) ∙ ap (definition (shared_of (profile_of problem)) problem.constraint) s.vars in
    record {
      root_is = root_eq ∙ ap (λ (x : Definition). positive_lit x.root) e;
      vars = vars_eq ∙ ap (λ (x : Definition). x.root) e;
      list = list_eq ∙ ap (λ (x : Definition). old.list ++ map sorted_clause x.clauses) e ∙ ap (λ x. x ++ map sorted_clause (constraint_of (profile_of problem)).clauses) s.none;
    }

-- and then the queries
pub record AreAsked (problem : Problem) (roots : List Lit) (now : Clauses) : Type 0 where
  pub roots_are : roots ≡ map positive_lit (asked_of (profile_of problem) problem.asks).roots
  pub vars : now.vars ≡ (asked_of (profile_of problem) problem.asks).vars
  pub list : now.list ≡ map sorted_clause ((constraint_of (profile_of problem)).clauses ++ (asked_of (profile_of problem) problem.asks).clauses)

pub asked : (problem : Problem) (xs given : List Lit) (asks : List Formula) (first old now : Clauses) (root : Lit) (roots : List Lit) → IsStarted problem xs first → IsConstrained problem root old → given ≡ xs → asks ≡ problem.asks → roots ≡ map positive_lit (definitions given old.vars asks).roots →
    now.vars ≡ (definitions given old.vars asks).vars → now.list ≡ old.list ++ map sorted_clause (definitions given old.vars asks).clauses → AreAsked problem roots now
asked problem xs given asks first old now root roots s h same asks_are roots_eq vars_eq list_eq =
    let shared = shared_of (profile_of problem) in
    let e : definitions given old.vars asks ≡ asked_of (profile_of problem) problem.asks = ap (λ x. definitions x old.vars asks) (same ∙ s.shared_are) ∙ ap (λ n. definitions shared n asks) h.vars ∙ ap (definitions shared (constraint_of (profile_of problem)).root) asks_are in
    record {
      roots_are = roots_eq ∙ ap (λ (x : DefinedAll). map positive_lit x.roots) e;
      vars = vars_eq ∙ ap (λ (x : DefinedAll). x.vars) e;
      list = list_eq ∙ ap (λ (x : DefinedAll). old.list ++ map sorted_clause x.clauses) e ∙ ap (λ x. x ++ map sorted_clause (asked_of (profile_of problem) problem.asks).clauses) h.list ∙ sym (stored-append (constraint_of (profile_of problem)).clauses (asked_of (profile_of problem) problem.asks).clauses);
    }

-- and then the copies
pub record AreCopied (due : DueCounter) (problem : Problem) (copies : List AgentCopy) (now : Clauses) : Type 0 where
  pub copies_are : copies ≡ map copy_of (copied_of due (profile_of problem) problem.asks).copies
  pub vars : now.vars ≡ (copied_of due (profile_of problem) problem.asks).vars
  pub list : now.list ≡ map sorted_clause (((constraint_of (profile_of problem)).clauses ++ (asked_of (profile_of problem) problem.asks).clauses) ++ (copied_of due (profile_of problem) problem.asks).clauses)

pub copied : (due : DueCounter) (problem : Problem) (xs given : List Lit) (agents : List Agent) (first old now : Clauses) (roots : List Lit) (copies : List AgentCopy) → IsStarted problem xs first → AreAsked problem roots old → given ≡ xs → agents ≡ problem.agents →
    copies ≡ map copy_of (copies_due due given old.vars (map (λ (a : Agent). a.base) agents)).copies → now.vars ≡ (copies_due due given old.vars (map (λ (a : Agent). a.base) agents)).vars →
    now.list ≡ old.list ++ map sorted_clause (copies_due due given old.vars (map (λ (a : Agent). a.base) agents)).clauses → AreCopied due problem copies now
copied due problem xs given agents first old now roots copies s h same agents_are copies_eq vars_eq list_eq =
    let shared = shared_of (profile_of problem) in
    let bases : List Agent → List Formula = map (λ (a : Agent). a.base) in
    let e : copies_due due given old.vars (bases agents) ≡ copied_of due (profile_of problem) problem.asks = ap (λ x. copies_due due x old.vars (bases agents)) (same ∙ s.shared_are) ∙ ap (λ n. copies_due due shared n (bases agents)) h.vars
    ∙ ap (λ (x : List Agent). copies_due due shared (asked_of (profile_of problem) problem.asks).vars (bases x)) agents_are in
    let front = (constraint_of (profile_of problem)).clauses ++ (asked_of (profile_of problem) problem.asks).clauses in
    record {
      copies_are = copies_eq ∙ ap (λ (x : CopiesDue). map copy_of x.copies) e;
      vars = vars_eq ∙ ap (λ (x : CopiesDue). x.vars) e;
      list = list_eq ∙ ap (λ (x : CopiesDue). old.list ++ map sorted_clause x.clauses) e ∙ ap (λ x. x ++ map sorted_clause (copied_of due (profile_of problem) problem.asks).clauses) h.list ∙ sym (stored-append front (copied_of due (profile_of problem) problem.asks).clauses);
    }

pub aways_map : (cs : List CopyDue) → map (λ (c : AgentCopy). c.away) (map copy_of cs) ≡ aways_of cs
aways_map [] = refl
aways_map (c ∷ cs) = ap (λ x. c.away ∷ x) (aways_map cs)

pub aways_is : (due : DueCounter) (problem : Problem) (copies given : List AgentCopy) (now : Clauses) (aways : List (List ℕ)) → AreCopied due problem copies now → given ≡ copies → aways ≡ map (λ (c : AgentCopy). c.away) given → aways ≡ aways_of (copied_of due (profile_of problem) problem.asks).copies
aways_is due problem copies given now aways h same e = e ∙ ap (map (λ (c : AgentCopy). c.away)) (same ∙ h.copies_are) ∙ aways_map (copied_of due (profile_of problem) problem.asks).copies

pub times_are : (problem : Problem) (agents : List Agent) (times : List ℕ) → agents ≡ problem.agents → times ≡ map (λ (a : Agent). a.times) agents → times ≡ map (λ (a : Agent). a.times) problem.agents
times_are problem agents times same e = e ∙ ap (map (λ (a : Agent). a.times)) same

-- and at last the levels
pub leveled : (due : DueCounter) (levels_due : DueLevels) (problem : Problem) (copies : List AgentCopy) (now : Clauses) (aways : List (List ℕ)) (times : List ℕ) → AreCopied due problem copies now → aways ≡ aways_of (copied_of due (profile_of problem) problem.asks).copies → times ≡ map (λ (a : Agent). a.times) problem.agents →
    levels_due now.vars aways times ≡ leveled_of due levels_due (profile_of problem) problem.asks
leveled due levels_due problem copies now aways times h aways_are times_are =
    ap (λ (v : ℕ). levels_due v aways times) h.vars ∙ ap (λ (xs : List (List ℕ)). levels_due (copied_of due (profile_of problem) problem.asks).vars xs times) aways_are ∙ ap (levels_due (copied_of due (profile_of problem) problem.asks).vars (aways_of (copied_of due (profile_of problem) problem.asks).copies)) times_are

-- 32 atoms and 4,096 nodes at most
pub asks_room : (problem : Problem) → (length problem.atoms ≤ (asked_of (profile_of problem) problem.asks).vars) × ((asked_of (profile_of problem) problem.asks).vars ≤ 4128)
asks_room problem =
    let k = problem.limits in
    let room = asked_room (profile_of problem) problem.asks in
    (omega (arith, room), omega (arith, room, k.few_atoms, k.few_nodes))

pub agents_nodes : (problem : Problem) → All (λ (a : Agent). nodes_of a.base ≤ node_limit) problem.agents
agents_nodes problem = λ i d lt. let k = problem.limits in omega (arith, k.few_nodes, get_or-le-sum_by (λ (a : Agent). nodes_of a.base) problem.agents i d lt)

-- the whole list
pub whole_list : (due : DueCounter) (levels_due : DueLevels) (problem : Problem) (copies : List AgentCopy) (old now : Clauses) (made : LevelsDue) → AreCopied due problem copies old → made ≡ leveled_of due levels_due (profile_of problem) problem.asks → now.list ≡ old.list ++ map sorted_clause made.clauses →
    now.list ≡ map sorted_clause (due_for due levels_due problem).clauses
whole_list due levels_due problem copies old now made h e list_eq =
    let front = ((constraint_of (profile_of problem)).clauses ++ (asked_of (profile_of problem) problem.asks).clauses) ++ (copied_of due (profile_of problem) problem.asks).clauses in
    list_eq ∙ ap (λ (x : LevelsDue). old.list ++ map sorted_clause x.clauses) e ∙ ap (λ x. x ++ map sorted_clause (leveled_of due levels_due (profile_of problem) problem.asks).clauses) h.list ∙ sym (stored-append front (leveled_of due levels_due (profile_of problem) problem.asks).clauses)

abbrev frame_with : List Lit → Lit → List Lit → List AgentCopy → List (List ℕ) → Frame
frame_with s c a k l = record { shared = s; constraint = c; asks = a; copies = k; levels = l }

pub whole_frame : (due : DueCounter) (levels_due : DueLevels) (problem : Problem) (shared : List Lit) (constraint : Lit) (asks : List Lit) (copies : List AgentCopy) (levels : List (List ℕ)) →
    shared ≡ shared_of (profile_of problem) → constraint ≡ positive_lit (constraint_of (profile_of problem)).root → asks ≡ map positive_lit (asked_of (profile_of problem) problem.asks).roots → copies ≡ map copy_of (copied_of due (profile_of problem) problem.asks).copies →
    levels ≡ (leveled_of due levels_due (profile_of problem) problem.asks).levels → frame_with shared constraint asks copies levels ≡ frame_of (due_for due levels_due problem)
whole_frame due levels_due problem shared constraint asks copies levels e f h i j =
    let p = profile_of problem in
    ap (λ x. frame_with x constraint asks copies levels) e
    ∙ ap (λ x. frame_with (shared_of p) x asks copies levels) f
    ∙ ap (λ x. frame_with (shared_of p) (positive_lit (constraint_of p).root) x copies levels) h
    ∙ ap (λ x. frame_with (shared_of p) (positive_lit (constraint_of p).root) (map positive_lit (asked_of p problem.asks).roots) x levels) i
    ∙ ap (λ x. frame_with (shared_of p) (positive_lit (constraint_of p).root) (map positive_lit (asked_of p problem.asks).roots) (map copy_of (copied_of due p problem.asks).copies) x) j

-- what holds of what is due holds of what was made
pub over_made : {E : Type 0} (due : MainDue) (r : Result Main E) → IfOk r (λ main. main.frame ≡ frame_of due) → IfOk r (λ main. main.clauses.vars ≡ due.vars) → IsFrameOver due.vars (frame_of due) → IfOk r (λ main. IsFrameOver main.clauses.vars main.frame)
over_made due (Ok main) e h o = subst (λ f. IsFrameOver main.clauses.vars f) (sym e) (subst (λ v. IsFrameOver v (frame_of due)) (sym h) o)
over_made due (Err x) e h o = tt

pub distinct_made : {E : Type 0} (due : MainDue) (r : Result Main E) → IfOk r (λ main. main.frame ≡ frame_of due) → FrameIsDistinct (frame_of due) → IfOk r (λ main. FrameIsDistinct main.frame)
distinct_made due (Ok main) e d = subst (λ f. FrameIsDistinct f) (sym e) d
distinct_made due (Err x) e d = tt
