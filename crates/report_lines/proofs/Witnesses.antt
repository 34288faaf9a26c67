-- Exact distances, and candidates with them.
use Rattle.std.proofs.Common.{◌≡◌, ℕ, zero, suc, ◌<◌, ◌≤◌, Bool, List, [], ◌∷◌, ◌++◌, length, map, replicate, refl, sym, ap, ◌∙◌, arith, All}
use Rattle.std.specs.Prelude.{slice_index, slice_index_or}
use Rattle.std.specs.List.{AllZip}
use Rattle.std.proofs.lemmas.List.Elements.{All-nil, All-cons, All-head, All-tail}
use Rattle.formulas.specs.declared.formula.Formula.{Formula}
use Rattle.formulas.specs.declared.formula.Formula as formula
use Rattle.merge_model.specs.Merging.{IsModel, away, vector_of, repeated}
use Rattle.merge_model.proofs.Nearest.{away_is}
use Rattle.agent_copies.specs.Copy.{CopyDue}
use Rattle.merge_encoding.specs.MainDues.{aways_of}
use Rattle.merge_encoding.proofs.Same.{no_copy}

pub away_size : (top : ℕ) (copies : List CopyDue) (j : ℕ) → All (λ c. length c ≡ top) (aways_of copies) → j < length copies → length (slice_index_or copies j no_copy).away ≡ top
away_size top [] j h lt = absurd (omega arith)
away_size top (c ∷ cs) zero h lt = All-head (λ x. length x ≡ top) c.away (aways_of cs) h
away_size top (c ∷ cs) (suc j) h lt = away_size top cs j (All-tail (λ x. length x ≡ top) c.away (aways_of cs) h) (omega arith)

pub models_long : (n : ℕ) (fs : List Formula) (ws : List (List Bool)) → AllZip (IsModel n) fs ws → length ws ≡ length fs
models_long n [] [] h = refl
models_long n [] (w ∷ ws) h = absurd h
models_long n (f ∷ fs) [] h = absurd h
models_long n (f ∷ fs) (w ∷ ws) h = ap suc (models_long n fs ws h.1)

module _ (dist : List Bool → List Bool → ℕ) (n : ℕ) (v : List Bool) (size : length v ≡ n) where
  pub vector_exact : (bases : List Formula) (ws : List (List Bool)) → AllZip (IsModel n) bases ws →
      ((j : ℕ) (u : List Bool) → j < length bases → IsModel n (slice_index_or bases j formula.Top) u → slice_index (map (dist v) ws) j ≤ dist v u) → map (dist v) ws ≡ vector_of dist bases v
  vector_exact [] [] h least = refl
  vector_exact [] (w ∷ ws) h least = absurd h
  vector_exact (f ∷ fs) [] h least = absurd h
  vector_exact (f ∷ fs) (w ∷ ws) h least =
      let here : dist v w ≡ away dist v f = away_is dist n v size f w h.0 (λ u m. least 0 u (omega arith) m) in
      let rest : map (dist v) ws ≡ vector_of dist fs v = vector_exact fs ws h.1 (λ j u lt m. least (suc j) u (omega arith) m) in
      cc

  pub shown_nearest : (bases : List Formula) (ws : List (List Bool)) → AllZip (IsModel n) bases ws → map (dist v) ws ≡ vector_of dist bases v →
      AllZip (λ base near. IsModel n base near × (dist v near ≡ away dist v base)) bases ws
  shown_nearest [] [] h e = tt
  shown_nearest [] (w ∷ ws) h e = absurd h
  shown_nearest (f ∷ fs) [] h e = absurd h
  shown_nearest (f ∷ fs) (w ∷ ws) h e =
      let here : dist v w ≡ away dist v f = cc in
      let rest : map (dist v) ws ≡ vector_of dist fs v = cc in
      ((h.0, here), shown_nearest fs ws h.1 rest)

  pub copies_within : (top : ℕ) → ((w : List Bool) → length v ≡ length w → dist v w ≤ top) → (fs : List Formula) (ws : List (List Bool)) → AllZip (IsModel n) fs ws → All (λ k. k ≤ top) (map (dist v) ws)
  copies_within top h [] [] r = All-nil (λ k. k ≤ top)
  copies_within top h [] (w ∷ ws) r = absurd r
  copies_within top h (f ∷ fs) [] r = absurd r
  copies_within top h (f ∷ fs) (w ∷ ws) r = let m = r.0 in All-cons (λ k. k ≤ top) (dist v w) (map (dist v) ws) (h w (size ∙ sym m.size)) (copies_within top h fs ws r.1)

pub full_long : (ts us vs : List ℕ) → length us ≡ length vs → length (repeated ts us) ≡ length (repeated ts vs)
full_long [] us vs e = refl
full_long (t ∷ ts) [] [] e = refl
full_long (t ∷ ts) [] (v ∷ vs) e = absurd (omega arith)
full_long (t ∷ ts) (u ∷ us) [] e = absurd (omega arith)
full_long (t ∷ ts) (u ∷ us) (v ∷ vs) e = more t (full_long ts us vs (omega arith))
  where
    more : (n : ℕ) → length (repeated ts us) ≡ length (repeated ts vs) → length (replicate n u ++ repeated ts us) ≡ length (replicate n v ++ repeated ts vs)
    more zero h = h
    more (suc n) h = ap suc (more n h)
