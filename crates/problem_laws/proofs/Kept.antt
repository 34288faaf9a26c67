-- What lines declare keeps the limits of a problem.
use Rattle.std.proofs.Common.{◌≡◌, ℕ, ◌+◌, ◌≤◌, Bool, true, false, not, ◌||◌, List, [], ◌∷◌, ◌++◌, Option, Some, None, length, nat_lt, unwrap_or, length-append, refl, ap, sym, subst, ◌∙◌, arith}
use Rattle.std.specs.List.{list_any, list_all}
use Rattle.std.specs.Str.{bytes_eq}
use Rattle.std.proofs.lemmas.Bool.Decides.{nat_tests}
use Rattle.std.proofs.lemmas.List.Elements.{All-nil, All-weaker}
use Rattle.formulas.specs.Formulas.{nodes_of}
use Rattle.formulas.specs.Names.{is_name, is_reserved, are_distinct, are_names}
use Rattle.formulas.specs.declared.formula.Formula.{Formula}
use Rattle.formulas.specs.declared.formula.Formula as formula
use Rattle.formulas.proofs.Equations.{nodes_top, width_top, depth_top}
use Rattle.formulas.specs.Limits.{atom_limit}
use Rattle.line_tokens.specs.Lexemes.{lexemes_of}
use Rattle.merge_model.specs.Limits.{IsWithin, KeepsLimits}
use Rattle.problem_lines.specs.Forms.{Form, blank, declaration, condition, belief, query}
use Rattle.problem_lines.specs.Lines.{content_of}
use Rattle.problem_reading.specs.declared.said.Said.{Said}
use Rattle.problem_reading.specs.declared.said.Said.TheVariants.{Nothing, Names, Condition, Belief, Query}
use Rattle.problem_reading.specs.Drafts.{Draft, constraint_size, is_long}
use Rattle.problem_reading.specs.Faults.{line_form}
use Rattle.problem_reading.specs.Fitting.{Fits, FitsCondition, FitsQuery}
use Rattle.problem_reading.specs.Kept.{IsKept}
use Rattle.problem_reading.specs.Saying.{IsSaid, after}
use Rattle.problem_reading.specs.Spelling.{Declares, no_lines, one_more}
use Rattle.problem_reading.proofs.Fitted.{FormOk, form_ok, fits}
use Rattle.problem_reading.proofs.Keeping.{kept_belief, one_more as all_more, sum_more, size_more}
use Rattle.problem_reading.proofs.NameLists.{joined_names, all_names}

-- what lines declare keeps the limits so far
pub record KeepsSoFar (d : Draft) : Type 0 where
  pub names : are_names d.atoms ≡ true
  pub few : length d.atoms ≤ atom_limit
  pub own : ℕ
  pub others : ℕ
  pub repeats : ℕ
  pub kept : IsKept d.atoms d.constraint d.agents d.asks own others repeats

wider : (m n : ℕ) → m ≤ n → (f : Formula) → IsWithin m f → IsWithin n f
wider m n le f h = record { width = omega (arith, h.width, le); depth = h.depth }

not_twice : (distinct twice : Bool) → (not distinct || twice) ≡ false → (distinct ≡ true) × (twice ≡ false)
not_twice true twice h = (refl, h)
not_twice false twice h = absurd (cc)

few_short : (n : ℕ) (long : Bool) → (nat_lt atom_limit n || long) ≡ false → (n ≤ atom_limit) × (long ≡ false)
few_short n true h = absurd (grind arith)
few_short n false h = (grind (arith, nat_tests), refl)

after_names : (d : Draft) (names atoms : List (List ℕ)) → FormOk (declaration names) → IsSaid d (declaration names) (Names atoms) → KeepsSoFar d → KeepsSoFar (record d { atoms = atoms })
after_names d names atoms (ts, words, tokens) h k =
    let once = not_twice (are_distinct names) (list_any (λ name. list_any (bytes_eq name) d.atoms) names) h.1 in
    let small = few_short (length d.atoms + length names) (list_any is_long names) h.2 in
    let legal : list_all is_name names ≡ true =
    subst (λ (ns : List (List ℕ)). list_any is_reserved ns ≡ false → list_any is_long ns ≡ false → list_all is_name ns ≡ true) (sym words)
    (λ free short. all_names ts tokens free short) h.0 small.1 in
    let size = ap length h.3 ∙ length-append d.atoms names in
    let grown : length d.atoms ≤ length atoms = omega (arith, size) in
    record {
      names = ap are_names h.3 ∙ joined_names d.atoms names k.names legal once.0 once.1;
      few = omega (arith, size, small.0);
      own = k.own;
      others = k.others;
      repeats = k.repeats;
      kept = record {
        own_nodes = k.kept.own_nodes;
        other_nodes = k.kept.other_nodes;
        times = k.kept.times;
        few_nodes = k.kept.few_nodes;
        few_times = k.kept.few_times;
        few_agents = k.kept.few_agents;
        few_asks = k.kept.few_asks;
        each_counts = k.kept.each_counts;
        constraint_within = wider _ _ grown _ k.kept.constraint_within;
        bases_within = All-weaker (λ agent. IsWithin (length d.atoms) agent.base) (λ agent. IsWithin (length atoms) agent.base) (λ agent w. wider _ _ grown agent.base w) d.agents k.kept.bases_within;
        asks_within = All-weaker (IsWithin (length d.atoms)) (IsWithin (length atoms)) (wider _ _ grown) d.asks k.kept.asks_within;
        agent_names = k.kept.agent_names;
      };
    }

after_condition : (d : Draft) (f : Formula) → FitsCondition d f → KeepsSoFar d → KeepsSoFar (record d { constraint = Some f })
after_condition d f h k = record {
  names = k.names;
  few = k.few;
  own = nodes_of f;
  others = k.others;
  repeats = k.repeats;
  kept = record {
    own_nodes = refl;
    other_nodes = k.kept.other_nodes;
    times = k.kept.times;
    few_nodes = omega (arith, h.nodes, k.kept.other_nodes);
    few_times = k.kept.few_times;
    few_agents = k.kept.few_agents;
    few_asks = k.kept.few_asks;
    each_counts = k.kept.each_counts;
    constraint_within = h.within;
    bases_within = k.kept.bases_within;
    asks_within = k.kept.asks_within;
    agent_names = k.kept.agent_names;
  };
}

after_query : (d : Draft) (f : Formula) → FitsQuery d f → KeepsSoFar d → KeepsSoFar (record d { asks = d.asks ++ f ∷ [] })
after_query d f h k =
    let sizes = sum_more nodes_of d.asks f in
    record {
      names = k.names;
      few = k.few;
      own = k.own;
      others = k.others + nodes_of f;
      repeats = k.repeats;
      kept = record {
        own_nodes = k.kept.own_nodes;
        other_nodes = omega (arith, sizes, k.kept.other_nodes);
        times = k.kept.times;
        few_nodes = omega (arith, h.nodes, k.kept.own_nodes, k.kept.other_nodes);
        few_times = k.kept.few_times;
        few_agents = k.kept.few_agents;
        few_asks = omega (arith, size_more d.asks f, h.room);
        each_counts = k.kept.each_counts;
        constraint_within = k.kept.constraint_within;
        bases_within = k.kept.bases_within;
        asks_within = all_more (IsWithin (length d.atoms)) d.asks f k.kept.asks_within h.within;
        agent_names = k.kept.agent_names;
      };
    }

after_line : (d : Draft) (form : Form) (said : Said) → FormOk form → IsSaid d form said → Fits d said → KeepsSoFar d → KeepsSoFar (after d said)
after_line d blank Nothing ok h fit k = k
after_line d (declaration names) (Names atoms) ok h fit k = after_names d names atoms ok h k
after_line d (condition ts) (Condition f) ok h fit k = after_condition d f fit k
after_line d (belief name times ts) (Belief agent) ok h fit k = record {
  names = k.names;
  few = k.few;
  own = k.own;
  others = k.others + nodes_of agent.base;
  repeats = k.repeats + agent.times;
  kept = kept_belief d agent k.own k.others k.repeats fit k.kept;
}
after_line d (query ts) (Query f) ok h fit k = after_query d f fit k
after_line d form said ok h fit k = absurd h

no_lines_keep : KeepsSoFar (record { atoms = []; constraint = None; agents = []; asks = [] })
no_lines_keep = record {
  names = refl;
  few = omega arith;
  own = 1;
  others = 0;
  repeats = 0;
  kept = record {
    own_nodes = refl;
    other_nodes = refl;
    times = refl;
    few_nodes = omega arith;
    few_times = omega arith;
    few_agents = omega arith;
    few_asks = omega arith;
    each_counts = All-nil _;
    constraint_within = record { width = omega (arith, width_top); depth = omega (arith, depth_top) };
    bases_within = All-nil _;
    asks_within = All-nil _;
    agent_names = refl;
  };
}

pub keeps_so_far : {lines : List (List ℕ)} {d : Draft} → Declares lines d → KeepsSoFar d
keeps_so_far no_lines = no_lines_keep
keeps_so_far (one_more {d = d} line e before adds) =
    subst KeepsSoFar (sym adds.2)
    (after_line d (line_form line) adds.0 (form_ok (lexemes_of (content_of line))) adds.1.said (fits d line adds.0 adds.1) (keeps_so_far before))

own_size : (constraint : Option Formula) → nodes_of (unwrap_or constraint formula.Top) ≡ constraint_size constraint
own_size None = nodes_top
own_size (Some f) = refl

-- with an atom and an agent, all limits
pub keeps_limits : (d : Draft) → KeepsSoFar d → 1 ≤ length d.atoms → 1 ≤ length d.agents → KeepsLimits d.atoms (unwrap_or d.constraint formula.Top) d.agents d.asks
keeps_limits d k atom agent = record {
  some_atom = atom;
  few_atoms = k.few;
  some_agent = agent;
  few_agents = k.kept.few_agents;
  few_asks = k.kept.few_asks;
  each_counts = k.kept.each_counts;
  few_times = omega (arith, k.kept.times, k.kept.few_times);
  few_nodes = omega (arith, own_size d.constraint, k.kept.own_nodes, k.kept.other_nodes, k.kept.few_nodes);
  constraint_within = k.kept.constraint_within;
  bases_within = k.kept.bases_within;
  asks_within = k.kept.asks_within;
  atom_names = k.names;
  agent_names = k.kept.agent_names;
}
