-- What a refused call leaves, from what its parts leave.
use Rattle.std.proofs.Common.{◌≡◌, ◌≤◌, List, [], ◌∷◌, ◌++◌, refl, sym, ap, ◌∙◌, subst, arith, append_assoc}
use Rattle.std.specs.Prelude.{map}
use Rattle.std.proofs.lemmas.List.{append-nil}
use Rattle.clause_store.specs.declared.lit.Lit.{Lit}
use Rattle.clause_store.specs.Lits.{sorted_clause}
use Rattle.clause_store.specs.Clauses.{Clauses}
use Rattle.clause_store.specs.Grew.{Grew}

-- clauses are stored one after another
pub stored-append : (cs ds : List (List Lit)) → map sorted_clause (cs ++ ds) ≡ map sorted_clause cs ++ map sorted_clause ds
stored-append [] ds = refl
stored-append (c ∷ cs) ds = ap (λ x. sorted_clause c ∷ x) (stored-append cs ds)

-- the first clauses alone
grew_by : (old new : Clauses) (first rest : List (List Lit)) → new.list ≡ old.list ++ map sorted_clause first → old.vars ≤ new.vars → Grew old new (first ++ rest)
grew_by old new first rest e le = record {
  added = map sorted_clause first;
  missing = map sorted_clause rest;
  kept = e;
  part = sym (stored-append first rest);
  more = le;
}

-- no clause yet
pub grew_none : (old new : Clauses) (due : List (List Lit)) → new.list ≡ old.list → old.vars ≤ new.vars → Grew old new due
grew_none old new due e le = grew_by old new [] due (e ∙ sym (append-nil old.list)) le

-- the first clause
pub grew_one : (old new : Clauses) (c : List Lit) (due : List (List Lit)) → new.list ≡ old.list ++ sorted_clause c ∷ [] → old.vars ≤ new.vars → Grew old new (c ∷ due)
grew_one old new c due e le = grew_by old new (c ∷ []) due e le

-- the first two
pub grew_two : (old new : Clauses) (c d : List Lit) (due : List (List Lit)) → new.list ≡ (old.list ++ sorted_clause c ∷ []) ++ sorted_clause d ∷ [] → old.vars ≤ new.vars → Grew old new (c ∷ d ∷ due)
grew_two old new c d due e le = grew_by old new (c ∷ d ∷ []) due (e ∙ append_assoc old.list (sorted_clause c ∷ []) (sorted_clause d ∷ [])) le

-- the first three
pub grew_three : (old new : Clauses) (c d e : List Lit) (due : List (List Lit)) → new.list ≡ ((old.list ++ sorted_clause c ∷ []) ++ sorted_clause d ∷ []) ++ sorted_clause e ∷ [] → old.vars ≤ new.vars → Grew old new (c ∷ d ∷ e ∷ due)
grew_three old new c d e due h le =
    grew_by old new (c ∷ d ∷ e ∷ []) due (h ∙ append_assoc (old.list ++ sorted_clause c ∷ []) (sorted_clause d ∷ []) (sorted_clause e ∷ []) ∙ append_assoc old.list (sorted_clause c ∷ []) (sorted_clause d ∷ sorted_clause e ∷ [])) le

-- more is due after it
pub grew_front : (old new : Clauses) (first rest : List (List Lit)) → Grew old new first → Grew old new (first ++ rest)
grew_front old new first rest g = record {
  added = g.added;
  missing = g.missing ++ map sorted_clause rest;
  kept = g.kept;
  part = sym (append_assoc g.added g.missing (map sorted_clause rest)) ∙ ap (λ x. x ++ map sorted_clause rest) g.part ∙ sym (stored-append first rest);
  more = g.more;
}

-- after a first part that is whole
pub grew_next : (old mid new : Clauses) (first rest : List (List Lit)) → mid.list ≡ old.list ++ map sorted_clause first → old.vars ≤ mid.vars → Grew mid new rest → Grew old new (first ++ rest)
grew_next old mid new first rest e le g = record {
  added = map sorted_clause first ++ g.added;
  missing = g.missing;
  kept = g.kept ∙ ap (λ x. x ++ g.added) e ∙ append_assoc old.list (map sorted_clause first) g.added;
  part = append_assoc (map sorted_clause first) g.added g.missing ∙ ap (λ x. map sorted_clause first ++ x) g.part ∙ sym (stored-append first rest);
  more = let m = g.more in omega arith;
}

-- variables alone
pub grew_vars : (old mid new : Clauses) (due : List (List Lit)) → mid.list ≡ old.list → old.vars ≤ mid.vars → Grew mid new due → Grew old new due
grew_vars old mid new due e le g = record {
  added = g.added;
  missing = g.missing;
  kept = g.kept ∙ ap (λ x. x ++ g.added) e;
  part = g.part;
  more = let m = g.more in omega arith;
}

-- all that is due
pub grew_whole : (old new : Clauses) (due : List (List Lit)) → new.list ≡ old.list ++ map sorted_clause due → old.vars ≤ new.vars → Grew old new due
grew_whole old new due e le = record { added = map sorted_clause due; missing = []; kept = e; part = append-nil (map sorted_clause due); more = le }

-- a loop that appends

-- the list has grown by the first of the clauses that are due in all, up to the rest
pub record IsDueStill (old now : List (List Lit)) (rest all : List (List Lit)) : Type 0 where
  pub first : List (List Lit)
  pub list : now ≡ old ++ map sorted_clause first
  pub part : first ++ rest ≡ all

pub due_all : (old : List (List Lit)) (all : List (List Lit)) → IsDueStill old old all all
due_all old all = record { first = []; list = sym (append-nil old); part = refl }

-- a refusal in what is due next
pub grew_rest : (old now new : Clauses) (next rest all : List (List Lit)) → IsDueStill old.list now.list (next ++ rest) all → old.vars ≤ now.vars → Grew now new next → Grew old new all
grew_rest old now new next rest all d le g =
    subst (λ cs. Grew old new cs) d.part (grew_next old now new d.first (next ++ rest) d.list le (grew_front now new next rest g))

-- what was due next is there
pub list_rest : (old now new : List (List Lit)) (next rest all : List (List Lit)) → IsDueStill old now (next ++ rest) all → new ≡ now ++ map sorted_clause next → IsDueStill old new rest all
list_rest old now new next rest all d f = record {
  first = d.first ++ next;
  list = f ∙ ap (λ x. x ++ map sorted_clause next) d.list ∙ append_assoc old (map sorted_clause d.first) (map sorted_clause next) ∙ ap (λ x. old ++ x) (sym (stored-append d.first next));
  part = append_assoc d.first next rest ∙ d.part;
}

-- nothing is due any more
pub list_end : (old now all : List (List Lit)) → IsDueStill old now [] all → now ≡ old ++ map sorted_clause all
list_end old now all d = d.list ∙ ap (λ x. old ++ map sorted_clause x) (sym (append-nil d.first) ∙ d.part)
