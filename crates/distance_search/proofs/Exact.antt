-- Exact distances.
use Rattle.std.proofs.Common.{◌≡◌, ℕ, zero, suc, ◌+◌, ◌<◌, ◌≤◌, Bool, List, [], ◌∷◌, ◌++◌, length, take, map, get_or, All, Option, Some, None, ap, sym, ◌∙◌, subst, arith}
use Rattle.std.specs.Prelude.{slice_index_or}
use Rattle.std.specs.List.{AllZip}
use Rattle.std.proofs.lemmas.List.{take_more, take_all, map_more, length-take-le, length-map}
use Rattle.std.proofs.lemmas.List.Elements.{All-cons, All-nil, All-head, All-tail, All-get_or}
use Rattle.std.proofs.lemmas.Slice.Zip.{all_zipped_more, AllZip-long}
use Rattle.formulas.specs.declared.formula.Formula.{Formula}
use Rattle.formulas.specs.declared.formula.Formula as formula
use Rattle.derivation_log.specs.Logs.{Log}
use Rattle.cdcl_core.specs.Replies.{IsLonger}
use Rattle.merge_model.specs.declared.answer.Shown.{Shown}
use Rattle.merge_model.specs.Merging.{IsModel, HasModel, away}
use Rattle.merge_model.specs.Answers.{IsShown}
use Rattle.merge_model.proofs.Nearest.{away_is as nearest_is}
use Rattle.merge_encoding.specs.MainDues.{aways_of}
use Rattle.merge_encoding.proofs.Same.{copy_at, no_copy}
use Rattle.agent_copies.specs.Copy.{CopyDue}
use Rattle.distance_search.proofs.Ready.{ready}
use Rattle.merge_encoding.specs.declared.frame.Frame.{Frame}
use Rattle.merge_encoding.specs.Frames.{copy_of, frame_of}
use Rattle.merge_encoding.specs.Claims.{NoModelOfBase, NoNearer, base_at}
use Rattle.distance_search.specs.declared.answer.Away.{Away}
use Rattle.distance_search.specs.declared.reply.Reply.{Reply}
use Rattle.distance_search.specs.declared.reply.Reply.TheVariants.{Refuted}
use Rattle.distance_search.specs.Setting.{Setting, IsAskable}
use Rattle.distance_search.specs.Laws.{Laws}
use Rattle.distance_search.specs.Replies.{IsAnswer}
use Rattle.distance_search.specs.Results.{IsProven, AreFar, IsAway}
use Rattle.distance_search.specs.Turns.{IsNearest, AreNearest}
use Rattle.distance_search.proofs.Places.{all_proven_on, one_proven}

-- ---- one agent

-- a distance that some model of a base has and that none is below is the distance to the base
away_is : (s : Setting) (v near : List Bool) (base : Formula) (k : ℕ) → length v ≡ s.profile.atoms → IsModel s.profile.atoms base near → s.dist v near ≡ k →
    ((w : List Bool) → IsModel s.profile.atoms base w → k ≤ s.dist v w) → k ≡ away s.dist v base
away_is s v near base k size m e least = sym e ∙ nearest_is s.dist s.profile.atoms v size base near m (λ u mu. omega (arith, e, least u mu))

copies_size : (s : Setting) → Laws s → length s.main.copies ≡ length s.profile.bases
copies_size s law = let m = law.main in m.size

-- each counter has the greatest distance as its length
counter_long : (s : Setting) → Laws s → (agent : ℕ) → agent < length s.main.copies → length (copy_at s.main agent).away ≡ s.top
counter_long s law agent lt =
    let m = law.main in
    at s.main.copies agent m.counters_sized lt
  where
    at : (copies : List CopyDue) (i : ℕ) → All (λ c. length c ≡ s.top) (aways_of copies) → i < length copies → length (slice_index_or copies i no_copy).away ≡ s.top
    at [] i h lt = absurd (omega arith)
    at (c ∷ cs) zero h lt = All-head (λ d. length d ≡ s.top) c.away (aways_of cs) h
    at (c ∷ cs) (suc i) h lt = at cs i (All-tail (λ d. length d ≡ s.top) c.away (aways_of cs) h) (omega arith)

-- a distance may be asked to be lowered
pub may_be_nearer : (s : Setting) → Laws s → (v near : List Bool) (agent k : ℕ) → length v ≡ s.profile.atoms → agent < length s.profile.bases → IsModel s.profile.atoms (base_at s.profile agent) near → s.dist v near ≡ k → 0 < k → IsAskable s (NoNearer agent v k)
may_be_nearer s law v near agent k size lt m e lo =
    let there : agent < length s.main.copies = omega (arith, copies_size s law) in
    ready s law (NoNearer agent v k) (there, size, omega arith, omega (arith, law.within v near size m.size, e, counter_long s law agent there))

-- at 0 nothing is nearer
pub nearest_at_zero : (s : Setting) (log : Log) (v near : List Bool) (agent k : ℕ) → length v ≡ s.profile.atoms → IsModel s.profile.atoms (base_at s.profile agent) near → s.dist v near ≡ k → k ≡ 0 → IsNearest s log v agent k near None
nearest_at_zero s log v near agent k size m e z = record {
  model = m;
  distance = e;
  exact = away_is s v near (base_at s.profile agent) k size m e (λ w mw. omega arith);
  proven = z;
}

-- a refuted question ends the loop
pub nearest_by : (s : Setting) (log : Log) (v near : List Bool) (agent k : ℕ) (r : Reply) (number : ℕ) → length v ≡ s.profile.atoms → IsModel s.profile.atoms (base_at s.profile agent) near → s.dist v near ≡ k → 0 < k → r ≡ Refuted number → IsAnswer s log (NoNearer agent v k) r → IsNearest s log v agent k near (Some number)
nearest_by s log v near agent k r number size m e lo is answer =
    let a = subst (λ r. IsAnswer s log (NoNearer agent v k) r) is answer in
    record { model = m; distance = e; exact = away_is s v near (base_at s.profile agent) k size m e a.0; proven = (omega arith, a.1) }

pub agents_are : (s : Setting) → Laws s → (frame : Frame) (n : ℕ) → frame ≡ frame_of s.main → n ≡ length frame.copies → n ≡ length s.profile.bases
agents_are s law frame n e f = f ∙ ap (λ (x : Frame). length x.copies) e ∙ length-map s.main.copies copy_of ∙ copies_size s law

-- ---- a model of each base

pub base_refuted : (s : Setting) (log : Log) (agent : ℕ) (r : Reply) (number : ℕ) → agent < length s.profile.bases → All (HasModel s.profile.atoms) s.profile.bases → r ≡ Refuted number → IsAnswer s log (NoModelOfBase agent) r → ⊥
base_refuted s log agent r number lt have is answer =
    let a = subst (λ r. IsAnswer s log (NoModelOfBase agent) r) is answer in
    a.0 (All-get_or (HasModel s.profile.atoms) s.profile.bases agent formula.Top lt have)

pub one_model : (s : Setting) (agent : ℕ) (models pushed : List (List Bool)) (v : List Bool) → agent < length s.profile.bases → AllZip (IsModel s.profile.atoms) (take agent s.profile.bases) models → IsModel s.profile.atoms (base_at s.profile agent) v → pushed ≡ models ++ v ∷ [] → AllZip (IsModel s.profile.atoms) (take (agent + 1) s.profile.bases) pushed
one_model s agent models pushed v lt h m e =
    let P = IsModel s.profile.atoms in
    let bases = s.profile.bases in
    subst (λ xs. AllZip P (take (agent + 1) bases) xs) (sym e)
    (subst (λ fs. AllZip P fs (models ++ v ∷ [])) (sym (take_more bases agent formula.Top lt)) (all_zipped_more P (take agent bases) models (base_at s.profile agent) v h m))

pub whole_models : (s : Setting) (agents : ℕ) (models : List (List Bool)) → length s.profile.bases ≤ agents → AllZip (IsModel s.profile.atoms) (take agents s.profile.bases) models → AllZip (IsModel s.profile.atoms) s.profile.bases models
whole_models s agents models le h = subst (λ fs. AllZip (IsModel s.profile.atoms) fs models) (take_all agents s.profile.bases le) h

-- ---- from agent to agent

-- one agent more
pub one_nearest : (s : Setting) (a b : Log) (v : List Bool) (agent : ℕ) (vector ks : List ℕ) (nearest us : List (List Bool)) (far fs : List (Option ℕ)) (k : ℕ) (near : List Bool) (f : Option ℕ) → agent < length s.profile.bases → IsLonger a b → AreNearest s a v agent vector nearest far → IsNearest s b v agent k near f →
    ks ≡ vector ++ k ∷ [] → us ≡ nearest ++ near ∷ [] → fs ≡ far ++ f ∷ [] → AreNearest s b v (agent + 1) ks us fs
one_nearest s a b v agent vector ks nearest us far fs k near f lt g old new ek eu ef =
    let bases = s.profile.bases in
    let R : Formula → List Bool → Type 0 = λ base near. IsModel s.profile.atoms base near × (s.dist v near ≡ away s.dist v base) in
    let long : length vector ≡ agent = ap length old.exact ∙ length-map (take agent bases) (away s.dist v) ∙ length-take-le agent bases (omega arith) in
    let kept : AreFar s b v vector far = all_proven_on s a b (λ i k. NoNearer i v k) vector far g old.proven in
    let one : IsProven s b k (NoNearer (length vector) v k) f = subst (λ i. IsProven s b k (NoNearer i v k) f) (sym long) new.proven in
    record {
      exact = ek ∙ ap (λ xs. xs ++ k ∷ []) old.exact ∙ ap (λ x. map (away s.dist v) (take agent bases) ++ x ∷ []) new.exact ∙ sym (map_more (away s.dist v) bases agent formula.Top lt);
      models = subst (λ xs. AllZip R (take (agent + 1) bases) xs) (sym eu)
          (subst (λ xs. AllZip R xs (nearest ++ near ∷ [])) (sym (take_more bases agent formula.Top lt))
          (all_zipped_more R (take agent bases) nearest (base_at s.profile agent) near old.models (new.model, new.distance ∙ new.exact)));
      proven = subst (λ xs. AreFar s b v xs fs) (sym ek) (subst (λ xs. AreFar s b v (vector ++ k ∷ []) xs) (sym ef) (one_proven s b (λ i k. NoNearer i v k) vector far k f kept one));
    }

-- the model of a base that a list has at its place
pub start_there : (n : ℕ) (bases : List Formula) (starts : List (List Bool)) (i : ℕ) (v : List Bool) → AllZip (IsModel n) bases starts → i < length starts → v ≡ get_or starts i v → IsModel n (slice_index_or bases i formula.Top) v
start_there n [] [] i v h lt e = absurd (omega arith)
start_there n [] (u ∷ us) i v h lt e = absurd h
start_there n (f ∷ fs) [] i v h lt e = absurd h
start_there n (f ∷ fs) (u ∷ us) zero v h lt e = subst (λ w. IsModel n f w) (sym e) h.0
start_there n (f ∷ fs) (u ∷ us) (suc i) v h lt e = start_there n fs us i v h.1 (omega arith) e

-- all agents
pub whole_nearest : (s : Setting) (log : Log) (found : Away) (starts : List (List Bool)) (agents : ℕ) (vector : List ℕ) (nearest : List (List Bool)) (far : List (Option ℕ)) → AllZip (IsModel s.profile.atoms) s.profile.bases starts → length starts ≤ agents →
    found.shown.vector ≡ vector → found.shown.nearest ≡ nearest → found.far ≡ far → AreNearest s log found.shown.model agents vector nearest far → IsAway s log found
whole_nearest s log found starts agents vector nearest far zipped le ek eu ef h =
    let bases = s.profile.bases in
    let v = found.shown.model in
    let all : take agents bases ≡ bases = take_all agents bases (omega (arith, AllZip-long (IsModel s.profile.atoms) bases starts zipped)) in
    let R : Formula → List Bool → Type 0 = λ base near. IsModel s.profile.atoms base near × (s.dist v near ≡ away s.dist v base) in
    record {
      shown = record {
        vector = ek ∙ h.exact ∙ ap (map (away s.dist v)) all;
        nearest = subst (λ us. AllZip R bases us) (sym eu) (subst (λ fs. AllZip R fs nearest) all h.models);
      };
      far = subst (λ ks. AreFar s log v ks found.far) (sym ek) (subst (λ fs. AreFar s log v vector fs) (sym ef) h.proven);
    }

aways_within : (s : Setting) → Laws s → (v : List Bool) → length v ≡ s.profile.atoms → (bases : List Formula) (nearest : List (List Bool)) → AllZip (λ base near. IsModel s.profile.atoms base near × (s.dist v near ≡ away s.dist v base)) bases nearest → All (λ k. k ≤ s.top) (map (away s.dist v) bases)
aways_within s law v size [] us h = All-nil (λ k. k ≤ s.top)
aways_within s law v size (f ∷ fs) [] h = absurd h
aways_within s law v size (f ∷ fs) (u ∷ us) h =
    let m = h.0.0 in
    All-cons (λ k. k ≤ s.top) (away s.dist v f) (map (away s.dist v) fs) (omega (arith, law.within v u size m.size, h.0.1)) (aways_within s law v size fs us h.1)

-- exact distances are within the top, and as many as the bases
pub shown_within : (s : Setting) → Laws s → (shown : Shown) → length shown.model ≡ s.profile.atoms → IsShown s.dist s.profile shown → All (λ k. k ≤ s.top) shown.vector
shown_within s law shown size h = subst (λ ks. All (λ k. k ≤ s.top) ks) (sym h.vector) (aways_within s law shown.model size s.profile.bases shown.nearest h.nearest)

pub shown_long : (s : Setting) (shown : Shown) → IsShown s.dist s.profile shown → length shown.vector ≡ length s.profile.bases
shown_long s shown h = ap length h.vector ∙ length-map s.profile.bases (away s.dist shown.model)
