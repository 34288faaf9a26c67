-- What a listing gave, as a list.
use Rattle.std.proofs.Common.{◌≡◌, ℕ, ◌+◌, ◌≤◌, Bool, true, false, List, [], ◌∷◌, ◌++◌, length, Option, None, Some, Result, Ok, Err, refl, ◌∙◌, ap, sym, subst, inl, inr, arith, length-append}
use Rattle.std.specs.Prelude.{is_some, MatchResult}
use Rattle.derivation_log.specs.Logs.{Log}
use Rattle.distance_search.specs.declared.answer.Best.{Best}
use Rattle.distance_search.specs.declared.answer.Consistency.{Consistency}
use Rattle.distance_search.specs.declared.reply.SearchStop.{SearchStop}
use Rattle.distance_search.specs.declared.reply.SearchStop.TheVariants as stops
use Rattle.distance_search.specs.Heard.{IsHalted, IsStopped}
use Rattle.distance_search.specs.Results.{IsBestFor}
use Rattle.distance_search.specs.Setting.{Setting}
use Rattle.formulas.specs.declared.formula.Formula.{Formula}
use Rattle.merge_model.specs.Merging.{HasModel, LacksModel, IsListed}
use Rattle.std.proofs.lemmas.List.Elements.{All-get_or}
use Rattle.closest_listing.specs.declared.lists.ClosestList.{ClosestList}
use Rattle.closest_listing.specs.declared.searching.Prospect.{Prospect}
use Rattle.closest_listing.specs.declared.searching.Prospect.TheVariants as prospects
use Rattle.closest_listing.specs.declared.searching.ListEnd.{ListEnd}
use Rattle.closest_listing.specs.declared.searching.ListEnd.TheVariants as ends
use Rattle.closest_listing.specs.Listed.{IsClosestIn, IsNextListed, AreListed, last_of}
use Rattle.closest_listing.specs.Lists.{IsClosestList, IsListEnd, IsProspect}
use Rattle.closest_listing.proofs.Listings.{listed}

pub listed_more : (s : Setting) (after : Option (List Bool)) (vs : List (List Bool)) (v : List Bool) → AreListed s after vs → IsNextListed s (last_of after vs) (Some v) → AreListed s after (vs ++ v ∷ [])
listed_more s after [] v h next = (next, tt)
listed_more s after (u ∷ vs) v h next = (h.0, listed_more s (Some u) vs v h.1 next)

pub last_more : (after : Option (List Bool)) (vs : List (List Bool)) (v : List Bool) → last_of after (vs ++ v ∷ []) ≡ Some v
last_more after [] v = refl
last_more after (u ∷ vs) v = last_more (Some u) vs v

module _ (s : Setting) (best : Best) (known : IsBestFor s best) (after : Option (List Bool)) (count : ℕ) (vs : List (List Bool)) (h : AreListed s after vs) where
  -- none was left
  pub none_left : IsNextListed s (last_of after vs) None → length vs ≤ count → IsClosestList s after count vs false
  none_left none few =
      let whole = (listed s best known after vs h).1 none in
      record { first = whole count few; further = λ e. absurd (cc); all = λ e. whole (count + 1) (omega arith) }

  -- as many as were asked for, and one was left
  pub one_left : (v : List Bool) → IsNextListed s (last_of after vs) (Some v) → length vs ≡ count → IsClosestList s after count vs true
  one_left v next size =
      let longer = listed s best known after (vs ++ v ∷ []) (listed_more s after vs v h next) in
      let sized : length (vs ++ v ∷ []) ≡ count + 1 = length-append vs (v ∷ []) ∙ ap (λ (k : ℕ). k + 1) size in
      record {
        first = subst (λ (k : ℕ). IsListed s.dist s.rank s.profile after k vs) size (listed s best known after vs h).0;
        further = λ e. (v, subst (λ (k : ℕ). IsListed s.dist s.rank s.profile after k (vs ++ v ∷ [])) sized longer.0);
        all = λ e. absurd (cc);
      }

  pub all_taken : (next : Option (List Bool)) → IsNextListed s (last_of after vs) next → length vs ≡ count → (more : Bool) → more ≡ is_some next → IsClosestList s after count vs more
  all_taken None none size more is = subst (λ (b : Bool). IsClosestList s after count vs b) (sym is) (none_left none (omega (arith, size)))
  all_taken (Some v) next size more is = subst (λ (b : Bool). IsClosestList s after count vs b) (sym is) (one_left v next size)

-- where there is a closest valuation, each formula has a model
pub closest_has : (s : Setting) (v : List Bool) → IsClosestIn s v → LacksModel s.profile → ⊥
closest_has s v h (inl none) = none (v, h.model)
closest_has s v h (inr any) =
    let p = s.profile in
    any.4 (subst (λ (f : Formula). HasModel p.atoms f) any.3 (All-get_or (HasModel p.atoms) p.bases any.0 any.1 any.2 h.consistent))

-- how a search for a list ends that was given a listing
module _ (s : Setting) (old log : Log) (budget : ℕ) (after : Option (List Bool)) (count : ℕ) (r : Result ClosestList SearchStop)
    (answer : MatchResult r (λ list. IsClosestList s after count list.valuations.items list.more) (λ stop. IsHalted old log budget stop)) where
  pub list_end : (LacksModel s.profile → ⊥) → (list : ClosestList) (end : ListEnd) → r ≡ Ok list → end ≡ ends.Listed list → IsListEnd s log budget after count end
  list_end has list end is ended =
      let h = subst (λ (q : Result ClosestList SearchStop). MatchResult q (λ (l : ClosestList). IsClosestList s after count l.valuations.items l.more) (λ stop. IsHalted old log budget stop)) is answer in
      subst (λ (e : ListEnd). IsListEnd s log budget after count e) (sym ended) (has, h)

  pub list_spent : (stop : SearchStop) (number : ℕ) (end : ListEnd) → r ≡ Err stop → stop ≡ stops.GaveUp number → end ≡ ends.Spent → IsListEnd s log budget after count end
  list_spent stop number end is gave ended =
      let h = subst (λ (q : Result ClosestList SearchStop). MatchResult q (λ (l : ClosestList). IsClosestList s after count l.valuations.items l.more) (λ stop. IsHalted old log budget stop)) is answer in
      let stopped = subst (λ (x : SearchStop). IsStopped h.before log budget x) gave h.stopped in
      subst (λ (e : ListEnd). IsListEnd s log budget after count e) (sym ended) (h.before, number, stopped)

-- how one ends that was given none
module _ (s : Setting) (log : Log) (budget : ℕ) (after : Option (List Bool)) (count : ℕ) (r : Result Prospect SearchStop)
    (answer : MatchResult r (λ found. IsProspect s log found) (λ stop. (before : Log) × IsStopped before log budget stop)) where
  pub lacking_end : (found : Prospect) (consistency : Consistency) → r ≡ Ok found → found ≡ prospects.Lacking consistency → IsListEnd s log budget after count (ends.Lacking consistency)
  lacking_end found consistency is lacks =
      let h = subst (λ (q : Result Prospect SearchStop). MatchResult q (λ (f : Prospect). IsProspect s log f) (λ stop. (before : Log) × IsStopped before log budget stop)) is answer in
      subst (λ (f : Prospect). IsProspect s log f) lacks h

  pub spent_end : (stop : SearchStop) (number : ℕ) → r ≡ Err stop → stop ≡ stops.GaveUp number → IsListEnd s log budget after count ends.Spent
  spent_end stop number is gave =
      let h = subst (λ (q : Result Prospect SearchStop). MatchResult q (λ (f : Prospect). IsProspect s log f) (λ stop. (before : Log) × IsStopped before log budget stop)) is answer in
      (h.0, number, subst (λ (x : SearchStop). IsStopped h.0 log budget x) gave h.1)
