-- What is known where a state of the log stands.
use Rattle.std.proofs.Common.{◌≡◌, ◌≢◌, ℕ, ◌+◌, ◌<◌, ◌≤◌, ◌==◌, nat_le, nat_lt, ◌&&◌, inl, inr, Bool, true, false, List, [], ◌∷◌, ◌++◌, length, map, take, drop, get_or, refl, ap, sym, subst, ◌∙◌, arith, length-append, length-drop, add-one, drop-cons, suc, Ok, Err, Result, Option, Some}
use Rattle.std.specs.Prelude.{IsTrue, ◌↔◌, slice_get, unwrap_or}
use Rattle.std.proofs.lemmas.Bool.Decides.{nat_tests}
use Rattle.report_words.proofs.Numerals.{both_true}
use Rattle.report_words.proofs.Spelling.{line_at}
use Rattle.clause_store.specs.Lits.{has, negated}
use Rattle.clause_store.specs.Refutes.{Refutes}
use Rattle.report_lines.specs.declared.kinds.RefusedKind.{RefusedKind}
use Rattle.std.proofs.lemmas.List.{take-append-drop, take-append-le, drop-append-le, length-take-le}
use Rattle.std.proofs.lemmas.Grind.{common_steps}
use Rattle.std.specs.List.{AllByRecursion}
use Rattle.std.specs.declared.vec.Vec.{Vec}
use Rattle.std.specs.declared.alloc.Global.{Global}
use Rattle.report_words.specs.Numbers.{HasNumeral}
use Rattle.report_words.specs.Words.{words_of}
use Rattle.clause_store.specs.declared.lit.Lit.{Lit}
use Rattle.clause_store.specs.Clauses.{Clauses, clause_at}
use Rattle.derivation_log.specs.declared.step.StepKind.{StepKind}
use Rattle.derivation_log.specs.Logs.{is_learned}
use Rattle.derivation_log.specs.StepLines.{StepLine, IsStepLine, step_words}
use Rattle.derivation_log.proofs.StepLaws.{step_at_line}
use Rattle.log_lines.specs.Spending.{Noted, noted_of, is_spent, ends_new}
use Rattle.log_lines.specs.Taking.{is_step, after_step, narrow_step}
use Rattle.merge_encoding.specs.declared.frame.Frame.{Frame}
use Rattle.merge_encoding.specs.Assumptions.{IsProperIn, assumed_in}
use Rattle.merge_encoding.specs.Claims.{said}
use Rattle.merge_encoding.specs.Frames.{frame_of}
use Rattle.report_lines.specs.declared.kinds.Due.{Due}
use Rattle.report_lines.specs.declared.kinds.Due.TheVariants as due
use Rattle.report_lines.specs.declared.kinds.Kind.{Kind}
use Rattle.report_lines.specs.declared.kinds.RefusedKind.TheVariants as refused
use Rattle.report_lines.specs.ClaimsDue.{DueClaim}
use Rattle.report_lines.specs.Items.{Item, MainLine, LogLine, ShownLine, EndLine, item_words}
use Rattle.report_lines.specs.Places.{Position, DueAt, IsProofLine, main_at, end_number}
use Rattle.report_lines.specs.Holding.{holds, stored_main, known_at, refutes}
use Rattle.report_lines.specs.Following.{after, noted}
use Rattle.report_lines.specs.Judged.{IsRightAs, IsWrongAs, absent, faulty}
use Rattle.report_text.specs.declared.stop.LineStop.{LineStop}
use Rattle.report_text.specs.declared.stop.LineStop.TheVariants as stops
use Rattle.report_text.specs.declared.answering.claims.Claimed.{Claimed}
use Rattle.report_text.specs.declared.logging.LogDue.TheVariants as log
use Rattle.report_text.specs.declared.logging.Logging.{Logging}
use Rattle.report_text.specs.Answering.{due_claim}
use Rattle.report_text.specs.Judging.{JudgedAs, IsJudged}
use Rattle.report_text.specs.Logging.{main_in, steps_in, claims_in, StandsAtLog, refutes_from}

noted_clauses : (kinds : List StepKind) (cs : List (List Lit)) → length kinds ≡ length cs → map (λ (n : Noted). n.clause) (noted_of kinds cs) ≡ cs
noted_clauses [] [] h = refl
noted_clauses [] (c ∷ cs) h = absurd (omega arith)
noted_clauses (k ∷ ks) [] h = absurd (omega arith)
noted_clauses (k ∷ ks) (c ∷ cs) h = ap (λ (ds : List (List Lit)). c ∷ ds) (noted_clauses ks cs (omega arith))

noted_push : (kinds : List StepKind) (cs : List (List Lit)) (k : StepKind) (c : List Lit) → length kinds ≡ length cs →
    let last : Noted = record { learned = is_learned k; clause = c } in noted_of (kinds ++ k ∷ []) (cs ++ c ∷ []) ≡ noted_of kinds cs ++ last ∷ []
noted_push [] [] k c h = refl
noted_push [] (d ∷ ds) k c h = absurd (omega arith)
noted_push (x ∷ xs) [] k c h = absurd (omega arith)
noted_push (x ∷ xs) (d ∷ ds) k c h = ap (λ (ns : List Noted). record { learned = is_learned x; clause = d } ∷ ns) (noted_push xs ds k c (omega arith))

module _ (s : Logging) (p : Position) (h : StandsAtLog s p) where
  as_many : length s.kinds.items ≡ length (drop s.main s.known.list)
  as_many = omega (arith, h.fit.counted, length-drop s.main s.known.list)

  within : s.main ≤ length s.known.list
  within = omega (arith, h.fit.counted)

  pub known_is : known_at p ≡ s.known.list
  known_is =
      ap (λ (m : List (List Lit)). m ++ map (λ (n : Noted). n.clause) p.steps) h.main
      ∙ (ap (λ (ns : List Noted). main_in s ++ map (λ (n : Noted). n.clause) ns) h.steps
      ∙ (ap (λ (cs : List (List Lit)). main_in s ++ cs) (noted_clauses s.kinds.items (drop s.main s.known.list) as_many)
      ∙ take-append-drop s.main s.known.list))

  pub main_size : length (stored_main p) ≡ s.main
  main_size = ap length h.main ∙ length-take-le s.main s.known.list within

  -- the main line

  pub main_holds : (v c : ℕ) (t : Bool) → t ≡ ((v == s.known.vars) && (c == s.main)) → holds p (MainLine v c) ≡ t
  main_holds v c t e =
      ap (λ (x : ℕ). (v == x) && (c == length (stored_main p))) h.vars ∙ (ap (λ (x : ℕ). (v == s.known.vars) && (c == x)) main_size ∙ sym e)

  pub after_main : (v c : ℕ) → StandsAtLog (record s { due = log.Log }) (after p (MainLine v c))
  after_main v c = record { fit = record { counted = h.fit.counted; proper = h.fit.proper }; due = refl; conflicts = h.conflicts; kind = h.kind; main = h.main; vars = h.vars; steps = h.steps; frame = h.frame; claims = h.claims }

  -- steps

  pub step_holds : (l : StepLine) (t : Bool) → is_step s.known.vars s.known.list l ≡ t → holds p (LogLine l) ≡ t
  step_holds l t e =
      ap (λ (v : ℕ). is_step v (known_at p) l) h.vars ∙ (ap (λ (k : List (List Lit)). is_step s.known.vars k l) known_is ∙ e)

  after_one : (l : StepLine) (known : Clauses) (kinds : Vec StepKind Global) → known ≡ after_step s.known l → kinds.items ≡ s.kinds.items ++ l.kind ∷ [] →
      StandsAtLog (record s { known = known; kinds = kinds }) (after p (LogLine l))
  after_one l known kinds e f =
      let list : known.list ≡ s.known.list ++ (narrow_step l).clause ∷ [] = ap (λ (k : Clauses). k.list) e in
      let vars : known.vars ≡ s.known.vars = ap (λ (k : Clauses). k.vars) e in
      let main : take s.main known.list ≡ main_in s = ap (take s.main) list ∙ take-append-le s.main s.known.list ((narrow_step l).clause ∷ []) within in
      let rest : drop s.main known.list ≡ drop s.main s.known.list ++ (narrow_step l).clause ∷ [] = ap (drop s.main) list ∙ drop-append-le s.main s.known.list ((narrow_step l).clause ∷ []) within in
      let steps : noted_of kinds.items (drop s.main known.list) ≡ steps_in s ++ noted l ∷ [] =
      ap (λ (ks : List StepKind). noted_of ks (drop s.main known.list)) f
      ∙ (ap (λ (cs : List (List Lit)). noted_of (s.kinds.items ++ l.kind ∷ []) cs) rest ∙ noted_push s.kinds.items (drop s.main s.known.list) l.kind (narrow_step l).clause as_many) in
      let counted : s.main + length kinds.items ≡ length known.list =
      omega (arith, h.fit.counted, ap length list, ap length f, length-append s.known.list ((narrow_step l).clause ∷ []), length-append s.kinds.items (l.kind ∷ [])) in
      record {
        fit = record { counted = counted; proper = h.fit.proper };
        due = h.due;
        conflicts = h.conflicts;
        kind = h.kind;
        main = h.main ∙ sym main;
        vars = h.vars ∙ sym vars;
        steps = ap (λ (ns : List Noted). ns ++ noted l ∷ []) h.steps ∙ sym steps;
        frame = h.frame;
        claims = h.claims;
      }

  pub step_right : (line : List ℕ) (l : StepLine) (known : Clauses) (kinds : Vec StepKind Global) → IsStepLine line l → is_step s.known.vars s.known.list l ≡ true →
      known ≡ after_step s.known l → kinds.items ≡ s.kinds.items ++ l.kind ∷ [] →
      (q : Position) × IsRightAs (DueAt due.Log p) p line q × StandsAtLog (record s { known = known; kinds = kinds }) q
  step_right line l known kinds is t e f =
      (after p (LogLine l), record { item = LogLine l; of = inl (l, refl, is.is_step); words = step_at_line line l is; leads = (step_holds l true t, refl) }, after_one l known kinds e f)

  pub step_wrong : (line : List ℕ) (l : StepLine) → IsStepLine line l → is_step s.known.vars s.known.list l ≡ false → IsWrongAs (DueAt due.Log p) p line refused.Step
  step_wrong line l is t = faulty (LogLine l) (inl (l, refl, is.is_step)) (step_at_line line l is) (step_holds l false t) refl

  -- the same clauses and kinds, held elsewhere
  pub same_stands : (known : Clauses) (kinds : Vec StepKind Global) → known ≡ s.known → kinds.items ≡ s.kinds.items → StandsAtLog (record s { known = known; kinds = kinds }) p
  same_stands known kinds e f =
      let list : known.list ≡ s.known.list = ap (λ (k : Clauses). k.list) e in
      record {
        fit = record { counted = ap (λ (ks : List StepKind). s.main + length ks) f ∙ (h.fit.counted ∙ ap length (sym list)); proper = h.fit.proper };
        due = h.due;
        conflicts = h.conflicts;
        kind = h.kind;
        main = h.main ∙ ap (take s.main) (sym list);
        vars = h.vars ∙ ap (λ (k : Clauses). k.vars) (sym e);
        steps = h.steps ∙ (ap (λ (ks : List StepKind). noted_of ks (drop s.main s.known.list)) (sym f) ∙ ap (λ (cs : List (List Lit)). noted_of kinds.items (drop s.main cs)) (sym list));
        frame = h.frame;
        claims = h.claims;
      }

  -- the proofs of claims

  pub shown_holds : (c : Claimed) (n : ℕ) (t : Bool) → t ≡ refutes_from s.main s.known.list n (assumed_in s.frame (said c.says)) → holds p (ShownLine (due_claim c) n) ≡ t
  shown_holds c n t e =
      let lits = assumed_in (frame_of (main_at p)) (said c.says) in
      ap (λ (m : ℕ). (nat_le m n && nat_lt n (length (known_at p))) && refutes (clause_at (known_at p) n) lits) main_size
      ∙ (ap (λ (k : List (List Lit)). refutes_from s.main k n lits) known_is
      ∙ (ap (λ (f : Frame). refutes_from s.main s.known.list n (assumed_in f (said c.says))) h.frame ∙ sym e))

  pub due_shown : (c : Claimed) (rest : List DueClaim) (n : ℕ) → claims_in s ≡ due_claim c ∷ rest → HasNumeral n → IsProofLine p.claims p.kind (ShownLine (due_claim c) n)
  due_shown c rest n e k = subst (λ (cs : List DueClaim). IsProofLine cs p.kind (ShownLine (due_claim c) n)) (sym (h.claims ∙ e)) (n, refl, k)

  pub after_shown : (c : Claimed) (n : ℕ) → claims_in s ≡ due_claim c ∷ map due_claim (drop (s.next + 1) s.claims.items) →
      StandsAtLog (record s { due = log.Proofs; next = s.next + 1 }) (after p (ShownLine (due_claim c) n))
  after_shown c n e =
      let proper : AllByRecursion (λ (x : DueClaim). IsProperIn s.frame x.says) (due_claim c ∷ map due_claim (drop (s.next + 1) s.claims.items)) = subst (λ (cs : List DueClaim). AllByRecursion (λ (x : DueClaim). IsProperIn s.frame x.says) cs) e h.fit.proper in
      record {
        fit = record { counted = h.fit.counted; proper = proper.1 };
        due = refl;
        conflicts = h.conflicts;
        kind = h.kind;
        main = h.main;
        vars = h.vars;
        steps = h.steps;
        frame = h.frame;
        claims = ap (λ (cs : List DueClaim). drop 1 cs) (h.claims ∙ e);
      }

  -- the end

  pub due_end : claims_in s ≡ [] → IsProofLine p.claims p.kind (EndLine (end_number s.kind))
  due_end e =
      subst (λ (k : Kind). IsProofLine p.claims p.kind (EndLine (end_number k))) h.kind
      (subst (λ (cs : List DueClaim). IsProofLine cs p.kind (EndLine (end_number p.kind))) (sym (h.claims ∙ e)) refl)

  pub after_end : (n : ℕ) → StandsAtLog (record s { due = log.Over }) (after p (EndLine n))
  after_end n = record { fit = record { counted = h.fit.counted; proper = h.fit.proper }; due = refl; conflicts = h.conflicts; kind = h.kind; main = h.main; vars = h.vars; steps = h.steps; frame = h.frame; claims = h.claims }

-- the first claim that is still due
pub next_claim : (cs : List Claimed) (i : ℕ) (c : Claimed) → i < length cs → c ≡ get_or cs i c → map due_claim (drop i cs) ≡ due_claim c ∷ map due_claim (drop (i + 1) cs)
next_claim cs i c lt e =
    let cut : drop i cs ≡ c ∷ drop (i + 1) cs = rw add-one (drop-cons cs i c lt ∙ ap (λ (x : Claimed). x ∷ drop (suc i) cs) (sym e)) in
    ap (map due_claim) cut

pub none_left : (cs : List Claimed) (i : ℕ) → length cs ≤ i → map due_claim (drop i cs) ≡ []
none_left cs i le = let e : drop i cs ≡ [] = grind (arith, common_steps) in ap (map due_claim) e

-- a judgement on the lines of proofs is one on those of the log, where the line is no step line

no_step : (p : Position) (line : List ℕ) → ((l : StepLine) → IsStepLine line l → ⊥) → ((x : Item) → IsProofLine p.claims p.kind x → words_of line ≢ item_words x) → (x : Item) → DueAt due.Log p x → words_of line ≢ item_words x
no_step p line other none x (inl d) = λ e. other d.0 (record { is_step = d.2; spelled = line_at line (step_words d.0) (e ∙ ap item_words d.1) })
no_step p line other none x (inr d) = none x d

wrong_log : (p : Position) (line : List ℕ) (k : RefusedKind) → ((l : StepLine) → IsStepLine line l → ⊥) → IsWrongAs (IsProofLine p.claims p.kind) p line k → IsWrongAs (DueAt due.Log p) p line k
wrong_log p line k other (absent none e) = absent (no_step p line other none) e
wrong_log p line k other (faulty x d w f e) = faulty x (inr d) w f e

pub proof_in_log : (p : Position) (line : List ℕ) (stands : Position → Type 0) (r : Result (Unit {0}) LineStop) → ((l : StepLine) → IsStepLine line l → ⊥) →
    JudgedAs (IsProofLine p.claims p.kind) p line stands r → JudgedAs (DueAt due.Log p) p line stands r
proof_in_log p line stands (Ok u) other h = (h.0, record { item = h.1.item; of = inr h.1.of; words = h.1.words; leads = h.1.leads }, h.2)
proof_in_log p line stands (Err (stops.Wrong k)) other h = wrong_log p line k other h
proof_in_log p line stands (Err stops.NoMemory) other h = tt

pub at_due : (p : Position) (d : Due) (line : List ℕ) (stands : Position → Type 0) (r : Result (Unit {0}) LineStop) → p.due ≡ d → JudgedAs (DueAt d p) p line stands r → IsJudged p line stands r
at_due p d line stands r e h = subst (λ (k : Due). JudgedAs (DueAt k p) p line stands r) (sym e) h

-- tests of the code

refutes_all : (c lits : List Lit) → Refutes c lits → refutes c lits ≡ true
refutes_all [] lits h = refl
refutes_all (l ∷ c) lits h = rw (h.0) (refutes_all c lits h.1)

pub all_refute : (c lits : List Lit) → refutes c lits ≡ true → Refutes c lits
all_refute [] lits e = tt
all_refute (l ∷ c) lits e = let t = both_true (has (negated l) lits) (refutes c lits) e in (t.0, all_refute c lits t.1)

refutes_by : (b : Bool) (c lits : List Lit) → IsTrue b ↔ Refutes c lits → (t : Bool) → refutes c lits ≡ t → b ≡ t
refutes_by true c lits h true e = refl
refutes_by false c lits h false e = refl
refutes_by false c lits h true e = h.1 (all_refute c lits e)
refutes_by true c lits h false e = sym (refutes_all c lits (h.0 refl)) ∙ e

pub refutes_is : (main n : ℕ) (known : List (List Lit)) (c lits : List Lit) (b : Bool) → main ≤ n → n < length known → slice_get known n ≡ Some c → IsTrue b ↔ Refutes c lits → b ≡ refutes_from main known n lits
refutes_is main n known c lits b low high e h =
    let l : nat_le main n ≡ true = grind (arith, nat_tests) in
    let g : nat_lt n (length known) ≡ true = grind (arith, nat_tests) in
    let at : clause_at known n ≡ c = ap (λ (o : Option (List Lit)). unwrap_or o []) e in
    rw (l, g, at) (refutes_by b c lits h (refutes c lits) refl)

pub too_few : (main : List (List Lit)) (steps : List Noted) (conflicts : ℕ) → length steps < conflicts → false ≡ is_spent conflicts main steps
too_few main steps conflicts lt = let e : nat_le conflicts (length steps) ≡ false = grind (arith, nat_tests) in rw e refl

pub enough : (main : List (List Lit)) (steps : List Noted) (conflicts : ℕ) (b : Bool) → conflicts ≤ length steps → b ≡ ends_new conflicts main steps → b ≡ is_spent conflicts main steps
enough main steps conflicts b le h = let e : nat_le conflicts (length steps) ≡ true = grind (arith, nat_tests) in rw e h
