-- Clauses by rows, and a walk through one row.
use Rattle.std.proofs.Common.{◌≡◌, ◌≢◌, ℕ, zero, suc, ◌+◌, ◌*◌, ◌<◌, ◌≤◌, Bool, true, false, List, [], ◌∷◌, ◌++◌, length, get_or, refl, ap, sym, ◌∙◌, subst, arith, inl, inr, replicate}
use Rattle.std.specs.Prelude.{Contains, ◌⊎◌}
use Rattle.std.specs.List.{list_any}
use Rattle.std.proofs.Math.ListN.{set, length-set}
use Rattle.std.proofs.lemmas.Bool.{cases_eq}
use Rattle.std.proofs.lemmas.List.{get_or-replicate, length-replicate, get_or_default}
use Rattle.std.proofs.lemmas.List.Elements.{Contains-append_left, Contains-append_right, Contains-append_cases}
use Rattle.clause_store.specs.declared.lit.Lit.{Lit}
use Rattle.clause_store.specs.Clauses.{Clauses, clause_at}
use Rattle.clause_store.specs.Lits.{has, rank_of, InRange}
use Rattle.clause_store.proofs.Lits.{rank_lit}
use Rattle.watch_lists.specs.Chains.{Chain, HasLoose, IsApart, IsOnce, list_at}
use Rattle.watch_lists.proofs.Linked.{Chain-set, push_chains, partition_push, list_at-set_same, list_at-set_other, Contains-cons, Contains-later, in_pushed, in_detached, detach, loose_to, pushed_has, pushed_new, detached_has, chain_count}
use Rattle.watch_lists.proofs.Walks.{rank_lt}
use Rattle.log_lines.specs.Spending.{includes}
use Rattle.log_lines.specs.declared.index.Index.{Index}
use Rattle.log_lines.specs.Indexes.{IsIndexed, IsIndexOf, IsPlaced, IsEmptied}
use Rattle.log_lines.proofs.Included.{has_within, included, any_has, none_has}

-- the number of the clause hangs loose
pub record IsLoose (known : List (List Lit)) (loose : List ℕ) (clause : List Lit) : Type 0 where
  pub number : ℕ
  pub row : Contains loose number
  pub value : clause_at known number ≡ clause

-- a literal of the clause has another rank than one outside it
outside_rank : (l m : Lit) (clause : List Lit) → has l clause ≡ true → has m clause ≡ false → rank_of l ≡ rank_of m → ⊥
outside_rank l m clause own out e =
    let same : l ≡ m = rank_lit l m e in
    let both : has m clause ≡ true = subst (λ (n : Lit). has n clause ≡ true) same own in
    absurd (cc)

only : (x y : List Lit) → Contains (x ∷ []) y → x ≡ y
only x y (zero, h, e) = e
only x y (suc k, h, e) = absurd (omega arith)

-- a walk through the row of a literal: its first numbers were put elsewhere, and the others hang loose
pub record IsRound (heads next : List ℕ) (empty : Bool) (known : Clauses) (before : List (List Lit)) (bound : ℕ) (clause : List Lit) (lit : Lit) (start : List (List ℕ)) (first turn : ℕ) (lists : List (List ℕ)) (loose : List ℕ) : Type 0 where
  pub links : HasLoose heads next first lists loose
  pub all_heads : length heads ≡ 2 * known.vars + 2
  pub all_next : length next ≡ length known.list
  pub below : (at number : ℕ) → Contains (list_at lists at) number → number < bound
  pub below_loose : (number : ℕ) → Contains loose number → number < bound
  pub among : (at number : ℕ) → Contains (list_at lists at) number → Contains before (clause_at known.list number)
  pub among_loose : (number : ℕ) → Contains loose number → Contains before (clause_at known.list number)
  pub placed : (l : Lit) (ls : List Lit) → Contains before (l ∷ ls) → IsPlaced known.list lists (l ∷ ls) ⊎ IsLoose known.list loose (l ∷ ls)
  pub flagged : Contains before [] → empty ≡ true
  pub flag : empty ≡ true → Contains before []
  pub emptied : IsEmptied clause lit start lists
  pub count : turn + length loose ≤ length next

-- the row of a literal is taken
pub round_start : (heads next : List ℕ) (empty : Bool) (known : Clauses) (before : List (List Lit)) (bound : ℕ) (clause : List Lit) (lit : Lit) (lists : List (List ℕ))
    → IsIndexed heads next empty known before bound lists → rank_of lit < length heads
    → IsRound (set heads (rank_of lit) 4294967295) next empty known before bound clause lit lists (get_or heads (rank_of lit) 0) 0 (set lists (rank_of lit) []) (list_at lists (rank_of lit))
round_start heads next empty known before bound clause lit lists h lt =
    let at = rank_of lit in
    let ll : at < length lists = omega (arith, h.chains.lengths) in
    record {
      links = detach heads next lists at h.chains h.partition lt;
      all_heads = length-set heads at 4294967295 ∙ h.all_heads;
      all_next = h.all_next;
      below = λ i n c. h.below i n (in_detached lists at i n ll c).1;
      below_loose = λ n c. h.below at n c;
      among = λ i n c. h.among i n (in_detached lists at i n ll c).1;
      among_loose = λ n c. h.among at n c;
      placed = λ l ls c. (let p = h.placed l ls c in elim (cases_eq (rank_of p.lit) at) [
        | inl e ↦ inr (record { number = p.number; row = subst (λ (k : ℕ). Contains (list_at lists k) p.number) e p.row; value = p.value })
        | inr n ↦ inl (record { lit = p.lit; number = p.number; own = p.own; row = detached_has lists at (rank_of p.lit) p.number n p.row; value = p.value })
      ]);
      flagged = h.flagged;
      flag = h.flag;
      emptied = record {
        own = list_at-set_same lists at [] ll;
        others = λ l own e. elim (cases_eq (rank_of l) at) [
          | inl i ↦ ap (list_at (set lists at [])) i ∙ list_at-set_same lists at [] ll
          | inr n ↦ list_at-set_other lists at (rank_of l) [] n ∙ e
        ];
      };
      count = let few = chain_count next (get_or heads at 0) (list_at lists at) (h.partition.once at) (h.chains.each at lt) in omega arith;
    }

-- at the end of the row nothing hangs loose
loose_end : (next : List ℕ) (first turn : ℕ) (loose : List ℕ) → Chain next first loose → turn + length loose ≤ length next → (first ≡ 4294967295) ⊎ (length next ≤ turn) → (n : ℕ) → Contains loose n → ⊥
loose_end next first turn [] c count e n h = omega (arith, h.1)
loose_end next first turn (x ∷ xs) c count e n h = elim e [ inl f ↦ omega (arith, c.0, c.2) | inr f ↦ omega arith ]

pub round_end : (heads next : List ℕ) (empty : Bool) (known : Clauses) (before : List (List Lit)) (bound : ℕ) (clause : List Lit) (lit : Lit) (start : List (List ℕ)) (first turn : ℕ) (lists : List (List ℕ)) (loose : List ℕ)
    → IsRound heads next empty known before bound clause lit start first turn lists loose → (first ≡ 4294967295) ⊎ (length next ≤ turn)
    → IsIndexed heads next empty known before bound lists
round_end heads next empty known before bound clause lit start first turn lists loose h e = record {
  chains = h.links.chains;
  partition = h.links.partition;
  all_heads = h.all_heads;
  all_next = h.all_next;
  below = h.below;
  among = h.among;
  placed = λ l ls c. elim (h.placed l ls c) [
    | inl p ↦ p
    | inr p ↦ absurd (loose_end next first turn loose h.links.chain h.count e p.number p.row)
  ];
  flagged = h.flagged;
  flag = h.flag;
}

-- where there is a further number, it is the first of those that hang loose
pub more_loose : (next : List ℕ) (first : ℕ) (loose : List ℕ) → Chain next first loose → (first ≡ 4294967295 → ⊥) → (xs : List ℕ) × (loose ≡ first ∷ xs)
more_loose next first [] c n = absurd (n c)
more_loose next first (x ∷ xs) c n = (xs, ap (λ k. k ∷ xs) (sym c.0))

-- the first of them was put into the row of a literal outside the clause
pub round_step : (heads next : List ℕ) (empty : Bool) (known : Clauses) (before : List (List Lit)) (bound : ℕ) (clause : List Lit) (lit : Lit) (start : List (List ℕ)) (first turn : ℕ) (lists : List (List ℕ)) (xs : List ℕ) (m : Lit)
    → IsRound heads next empty known before bound clause lit start first turn lists (first ∷ xs)
    → rank_of m < length heads → has m (clause_at known.list first) ≡ true → has m clause ≡ false → has lit clause ≡ true
    → IsRound (set heads (rank_of m) first) (set next first (get_or heads (rank_of m) 0)) empty known before bound clause lit start (get_or next first 0) (turn + 1) (set lists (rank_of m) (first ∷ list_at lists (rank_of m))) xs
round_step heads next empty known before bound clause lit start first turn lists xs m h lt own out mine =
    let at = rank_of m in
    let ll : at < length lists = omega (arith, h.links.chains.lengths) in
    let ln : first < length next = h.links.chain.1 in
    let here : Contains (first ∷ xs) first = (0, omega arith, refl) in
    let other : (l : Lit) → has l clause ≡ true → rank_of l ≢ at = λ l o e. outside_rank l m clause o out e in
    record {
      links = loose_to heads next (set heads at first) (set next first (get_or heads at 0)) first at first lists xs h.links lt
          (λ ls c a. push_chains heads next ls at first lt ln c a)
          (λ f slots c a. Chain-set next f slots first (get_or heads at 0) a c);
      all_heads = length-set heads at first ∙ h.all_heads;
      all_next = length-set next first (get_or heads at 0) ∙ h.all_next;
      below = λ i n c. elim (in_pushed lists at first i n ll c) [
        | inl e ↦ subst (λ (k : ℕ). k < bound) e.1 (h.below_loose first here)
        | inr e ↦ h.below i n e
      ];
      below_loose = λ n c. h.below_loose n (Contains-later first n xs c);
      among = λ i n c. elim (in_pushed lists at first i n ll c) [
        | inl e ↦ subst (λ (k : ℕ). Contains before (clause_at known.list k)) e.1 (h.among_loose first here)
        | inr e ↦ h.among i n e
      ];
      among_loose = λ n c. h.among_loose n (Contains-later first n xs c);
      placed = λ l ls c. elim (h.placed l ls c) [
        | inl p ↦ inl (record { lit = p.lit; number = p.number; own = p.own; row = pushed_has lists at first (rank_of p.lit) p.number ll p.row; value = p.value })
        | inr p ↦ elim (Contains-cons first p.number xs p.row) [
          | inl e ↦ (let value : clause_at known.list first ≡ l ∷ ls = ap (clause_at known.list) e ∙ p.value in
              inl (record { lit = m; number = first; own = subst (λ (k : List Lit). has m k ≡ true) value own; row = pushed_new lists at first ll; value = value }))
          | inr e ↦ inr (record { number = p.number; row = e; value = p.value })
        ]
      ];
      flagged = h.flagged;
      flag = h.flag;
      emptied = record {
        own = list_at-set_other lists at (rank_of lit) (first ∷ list_at lists at) (other lit mine) ∙ h.emptied.own;
        others = λ l o e. list_at-set_other lists at (rank_of l) (first ∷ list_at lists at) (other l o) ∙ h.emptied.others l o e;
      };
      count = let size = length-set next first (get_or heads at 0) in omega (arith, h.count);
    }

-- the first of them is included
pub round_found : (heads next : List ℕ) (empty : Bool) (known : Clauses) (before : List (List Lit)) (bound : ℕ) (clause : List Lit) (lit : Lit) (start : List (List ℕ)) (first turn : ℕ) (lists : List (List ℕ)) (xs : List ℕ)
    → IsRound heads next empty known before bound clause lit start first turn lists (first ∷ xs) → includes clause (clause_at known.list first) ≡ true → list_any (includes clause) before ≡ true
round_found heads next empty known before bound clause lit start first turn lists xs h i =
    any_has (includes clause) before (clause_at known.list first) (h.among_loose first (0, omega arith, refl)) i

-- the rows of the clause's literals are empty: it includes none
pub none_within : (heads next : List ℕ) (empty : Bool) (known : Clauses) (before : List (List Lit)) (bound : ℕ) (clause : List Lit) (lists : List (List ℕ))
    → IsIndexed heads next empty known before bound lists → (Contains before [] → ⊥) → ((l : Lit) → has l clause ≡ true → list_at lists (rank_of l) ≡ [])
    → list_any (includes clause) before ≡ false
none_within heads next empty known before bound clause lists h lack e = none_has (includes clause) before (λ c own i. none c own i)
  where
    none : (c : List Lit) → Contains before c → includes clause c ≡ true → ⊥
    none [] own i = lack own
    none (l ∷ ls) own i =
        let p = h.placed l ls own in
        let gone : list_at lists (rank_of p.lit) ≡ [] = e p.lit (included clause (l ∷ ls) p.lit i p.own) in
        let c : Contains [] p.number = subst (λ (ns : List ℕ). Contains ns p.number) gone p.row in
        absurd (omega (arith, c.1))

-- a larger bound
pub index_more : (heads next : List ℕ) (empty : Bool) (known : Clauses) (before : List (List Lit)) (bound more : ℕ) (lists : List (List ℕ))
    → IsIndexed heads next empty known before bound lists → bound ≤ more → IsIndexed heads next empty known before more lists
index_more heads next empty known before bound more lists h le = record {
  chains = h.chains;
  partition = h.partition;
  all_heads = h.all_heads;
  all_next = h.all_next;
  below = λ i n c. (let b : n < bound = h.below i n c in omega arith);
  among = h.among;
  placed = h.placed;
  flagged = h.flagged;
  flag = h.flag;
}

not_empty : (l : Lit) (clause : List Lit) → has l clause ≡ true → Contains (clause ∷ []) [] → ⊥
not_empty l clause own o =
    let none : has l [] ≡ true = subst (λ (c : List Lit). has l c ≡ true) (only clause [] o) own in
    absurd (cc)

-- a clause joins them
pub index_add : (heads next : List ℕ) (empty : Bool) (known : Clauses) (before : List (List Lit)) (number : ℕ) (lists : List (List ℕ)) (m : Lit)
    → IsIndexed heads next empty known before number lists → has m (clause_at known.list number) ≡ true → rank_of m < length heads → number < length next
    → IsIndexed (set heads (rank_of m) number) (set next number (get_or heads (rank_of m) 0)) empty known (before ++ clause_at known.list number ∷ []) (number + 1) (set lists (rank_of m) (number ∷ list_at lists (rank_of m)))
index_add heads next empty known before number lists m h own lt ln =
    let at = rank_of m in
    let ll : at < length lists = omega (arith, h.chains.lengths) in
    let last = clause_at known.list number ∷ [] in
    let apart : IsApart number lists = λ i c. (let b : number < number = h.below i number c in omega arith) in
    record {
      chains = push_chains heads next lists at number lt ln h.chains apart;
      partition = partition_push lists at number ll h.partition apart;
      all_heads = length-set heads at number ∙ h.all_heads;
      all_next = length-set next number (get_or heads at 0) ∙ h.all_next;
      below = λ i n c. elim (in_pushed lists at number i n ll c) [
        | inl e ↦ omega (arith, e.1)
        | inr e ↦ (let b : n < number = h.below i n e in omega arith)
      ];
      among = λ i n c. elim (in_pushed lists at number i n ll c) [
        | inl e ↦ subst (λ (k : ℕ). Contains (before ++ last) (clause_at known.list k)) e.1
            (Contains-append_right before last (clause_at known.list number) (zero, omega arith, refl))
        | inr e ↦ Contains-append_left before last (clause_at known.list n) (h.among i n e)
      ];
      placed = λ l ls c. elim (Contains-append_cases before last (l ∷ ls) c) [
        | inl o ↦ (let p = h.placed l ls o in record { lit = p.lit; number = p.number; own = p.own; row = pushed_has lists at number (rank_of p.lit) p.number ll p.row; value = p.value })
        | inr o ↦ (let value : clause_at known.list number ≡ l ∷ ls = only (clause_at known.list number) (l ∷ ls) o in
            record {
              lit = m;
              number = number;
              own = subst (λ (k : List Lit). has m k ≡ true) value own;
              row = pushed_new lists at number ll;
              value = value;
            })
      ];
      flagged = λ c. elim (Contains-append_cases before last [] c) [
        | inl o ↦ h.flagged o
        | inr o ↦ absurd (not_empty m (clause_at known.list number) own o)
      ];
      flag = λ e. Contains-append_left before last [] (h.flag e);
    }

-- the empty clause joins them
pub index_add_empty : (heads next : List ℕ) (empty : Bool) (known : Clauses) (before : List (List Lit)) (number : ℕ) (lists : List (List ℕ))
    → IsIndexed heads next empty known before number lists → clause_at known.list number ≡ []
    → IsIndexed heads next true known (before ++ clause_at known.list number ∷ []) (number + 1) lists
index_add_empty heads next empty known before number lists h is =
    let last = clause_at known.list number ∷ [] in
    record {
      chains = h.chains;
      partition = h.partition;
      all_heads = h.all_heads;
      all_next = h.all_next;
      below = λ i n c. (let b : n < number = h.below i n c in omega arith);
      among = λ i n c. Contains-append_left before last (clause_at known.list n) (h.among i n c);
      placed = λ l ls c. elim (Contains-append_cases before last (l ∷ ls) c) [
        | inl o ↦ h.placed l ls o
        | inr o ↦ (let value : clause_at known.list number ≡ l ∷ ls = only (clause_at known.list number) (l ∷ ls) o in absurd (cc))
      ];
      flagged = λ c. refl;
      flag = λ e. Contains-append_right before last [] (zero, omega arith, is);
    }

-- the same clauses under a larger bound
pub index_moved : (index : Index) (known : Clauses) (before after : List (List Lit)) (bound more : ℕ) → before ≡ after → IsIndexOf index known before bound → bound ≤ more → IsIndexOf index known after more
index_moved index known before after bound more same h le =
    subst (λ (cs : List (List Lit)). IsIndexOf index known cs more) same
    (h.0, index_more index.heads.items index.next.items index.empty known before bound more h.0 h.1 le)

-- no clauses

empty_at : (n i : ℕ) → list_at (replicate n []) i ≡ []
empty_at zero i = refl
empty_at (suc n) zero = refl
empty_at (suc n) (suc i) = empty_at n i

none_at : (n i x : ℕ) → Contains (list_at (replicate n []) i) x → ⊥
none_at n i x c = let d : Contains [] x = subst (λ (ns : List ℕ). Contains ns x) (empty_at n i) c in omega (arith, d.1)

pub index_none : (heads next : List ℕ) (known : Clauses) → heads ≡ replicate (2 * known.vars + 2) 4294967295 → length next ≡ length known.list → length next < 4294967295
    → IsIndexed heads next false known [] 0 (replicate (2 * known.vars + 2) [])
index_none heads next known is size few =
    let n = 2 * known.vars + 2 in
    let all : length heads ≡ n = ap (λ (xs : List ℕ). length xs) is ∙ length-replicate n 4294967295 in
    record {
      chains = record {
        lengths = length-replicate n [] ∙ sym all;
        few = few;
        each = λ i lt. subst (λ (ns : List ℕ). Chain next (get_or heads i 0) ns) (sym (empty_at n i))
            (ap (λ (xs : List ℕ). get_or xs i 0) is ∙ get_or-replicate n i 4294967295 0 (omega arith));
      };
      partition = record {
        once = λ i. subst IsOnce (sym (empty_at n i)) tt;
        one = λ i j x c d. absurd (none_at n i x c);
      };
      all_heads = all;
      all_next = size;
      below = λ i x c. absurd (none_at n i x c);
      among = λ i x c. absurd (none_at n i x c);
      placed = λ l ls c. absurd (omega (arith, c.1));
      flagged = λ c. absurd (omega (arith, c.1));
      flag = λ e. absurd (cc);
    }

-- a walk that has begun

abbrev pub Rounds : List ℕ → List ℕ → Bool → Clauses → List (List Lit) → ℕ → List Lit → Lit → List (List ℕ) → ℕ → ℕ → Type 0
Rounds heads next empty known before bound clause lit start first turn =
    (now : List (List ℕ)) × (loose : List ℕ) × IsRound heads next empty known before bound clause lit start first turn now loose

pub round_begin : (heads next : List ℕ) (empty : Bool) (known : Clauses) (before : List (List Lit)) (bound : ℕ) (clause : List Lit) (lit : Lit) (lists : List (List ℕ)) (row first : ℕ)
    → IsIndexed heads next empty known before bound lists → rank_of lit < length heads → row ≡ rank_of lit → first ≡ get_or heads row first
    → Rounds (set heads row 4294967295) next empty known before bound clause lit lists first 0
round_begin heads next empty known before bound clause lit lists row first h lt same is =
    let there : first ≡ get_or heads (rank_of lit) 0 =
    is ∙ get_or_default heads row first 0 (omega arith) ∙ ap (λ (k : ℕ). get_or heads k 0) same in
    subst (λ (k : ℕ). Rounds (set heads k 4294967295) next empty known before bound clause lit lists first 0) (sym same)
    (subst (λ (n : ℕ). Rounds (set heads (rank_of lit) 4294967295) next empty known before bound clause lit lists n 0) (sym there)
    (set lists (rank_of lit) [], list_at lists (rank_of lit), round_start heads next empty known before bound clause lit lists h lt))

module _ (heads next : List ℕ) (empty : Bool) (known : Clauses) (before : List (List Lit)) (bound : ℕ) (clause : List Lit) (lit : Lit) (start : List (List ℕ)) (first turn : ℕ) where
  first_below : (now : List (List ℕ)) (loose : List ℕ) → IsRound heads next empty known before bound clause lit start first turn now loose → (first ≡ 4294967295 → ⊥)
      → (xs : List ℕ) × IsRound heads next empty known before bound clause lit start first turn now (first ∷ xs)
  first_below now loose h n =
      let x = more_loose next first loose h.links.chain n in
      (x.0, subst (λ (ns : List ℕ). IsRound heads next empty known before bound clause lit start first turn now ns) x.1 h)

  -- there is such a clause
  pub round_number : Rounds heads next empty known before bound clause lit start first turn → (first ≡ 4294967295 → ⊥) → first < length known.list
  round_number r n = (let x = first_below r.0 r.1 r.2 n in omega (arith, x.1.links.chain.1, x.1.all_next))

  pub round_next : Rounds heads next empty known before bound clause lit start first turn → (first ≡ 4294967295 → ⊥) → first < length next
  round_next r n = (let x = first_below r.0 r.1 r.2 n in x.1.links.chain.1)

  -- the row of a literal of one of the clauses
  pub round_row : Rounds heads next empty known before bound clause lit start first turn → (inner : List Lit) (m : Lit) → has m inner ≡ true → InRange known.vars inner → rank_of m < length heads
  round_row r inner m own range =
      let low = rank_lt m known.vars (has_within m inner known.vars own range) in
      omega (arith, low, r.2.all_heads)

  pub round_in : Rounds heads next empty known before bound clause lit start first turn → (first ≡ 4294967295 → ⊥) → (inner : List Lit) → clause_at known.list first ≡ inner → includes clause inner ≡ true
      → list_any (includes clause) before ≡ true
  round_in r n inner is i =
      let x = first_below r.0 r.1 r.2 n in
      round_found heads next empty known before bound clause lit start first turn r.0 x.0 x.1 (ap (includes clause) is ∙ i)

  pub round_on : (heads' next' : List ℕ) (empty' : Bool) (row after : ℕ) (inner : List Lit) (m : Lit) → Rounds heads next empty known before bound clause lit start first turn → (first ≡ 4294967295 → ⊥)
      → clause_at known.list first ≡ inner → has m inner ≡ true → has m clause ≡ false → has lit clause ≡ true → InRange known.vars inner → row ≡ rank_of m
      → heads' ≡ set heads row first → next' ≡ set next first (get_or heads row 0) → empty' ≡ empty → after ≡ get_or next first after
      → Rounds heads' next' empty' known before bound clause lit start after (turn + 1)
  round_on heads' next' empty' row after inner m r n is own out mine range same eh en ee ea =
      let x = first_below r.0 r.1 r.2 n in
      let there : after ≡ get_or next first 0 = ea ∙ get_or_default next first after 0 x.1.links.chain.1 in
      let lt : rank_of m < length heads = round_row r inner m own range in
      let step : Rounds (set heads (rank_of m) first) (set next first (get_or heads (rank_of m) 0)) empty known before bound clause lit start (get_or next first 0) (turn + 1) = (
        set r.0 (rank_of m) (first ∷ list_at r.0 (rank_of m)),
        x.0,
        round_step heads next empty known before bound clause lit start first turn r.0 x.0 m x.1 lt (ap (has m) is ∙ own) out mine,
      ) in
      rw (eh, en, ee, there, same) step

  pub round_over : Rounds heads next empty known before bound clause lit start first turn → (first ≡ 4294967295) ⊎ (length next ≤ turn)
      → (after : List (List ℕ)) × IsIndexed heads next empty known before bound after × IsEmptied clause lit start after
  round_over r e = (r.0, round_end heads next empty known before bound clause lit start first turn r.0 r.1 r.2 e, r.2.emptied)

pub index_joined : (heads next : List ℕ) (empty : Bool) (known : Clauses) (before : List (List Lit)) (number : ℕ) (lists : List (List ℕ)) (m : Lit) (heads' next' : List ℕ) (empty' : Bool) (row : ℕ)
    → IsIndexed heads next empty known before number lists → (clause : List Lit) → InRange known.vars clause → number < length known.list → clause_at known.list number ≡ clause → has m clause ≡ true → row ≡ rank_of m
    → heads' ≡ set heads row number → next' ≡ set next number (get_or heads row 0) → empty' ≡ empty
    → (after : List (List ℕ)) × IsIndexed heads' next' empty' known (before ++ clause_at known.list number ∷ []) (number + 1) after
index_joined heads next empty known before number lists m heads' next' empty' row h clause range lt value own same eh en ee =
    let low = rank_lt m known.vars (has_within m clause known.vars own range) in
    let step : (after : List (List ℕ)) × IsIndexed (set heads (rank_of m) number) (set next number (get_or heads (rank_of m) 0)) empty known (before ++ clause_at known.list number ∷ []) (number + 1) after =
    (_, index_add heads next empty known before number lists m h (ap (has m) value ∙ own) (omega (arith, low, h.all_heads)) (omega (arith, lt, h.all_next))) in
    rw (eh, en, ee, same) step
