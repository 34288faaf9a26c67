-- The main line of a report and what follows it.
use Rattle.std.proofs.Common.{◌≡◌, ℕ, ◌==◌, List, [], ◌∷◌, ◌++◌, length, map, refl, ap, sym, subst, ◌∙◌, append-nil, arith}
use Rattle.std.specs.List.{AllZip, AllByRecursion}
use Rattle.clause_store.specs.declared.lit.Lit.{Lit}
use Rattle.clause_store.proofs.Truths.{and_left, and_right}
use Rattle.report_words.specs.Numbers.{HasNumeral}
use Rattle.derivation_log.specs.declared.step.Step.{Step}
use Rattle.derivation_log.specs.Logs.{clauses_of, IsSound}
use Rattle.log_lines.specs.Spending.{Noted}
use Rattle.merge_encoding.specs.MainDues.{MainDue}
use Rattle.merge_encoding.specs.Assumptions.{assumed}
use Rattle.report_lines.specs.declared.kinds.Due.TheVariants as due
use Rattle.report_lines.specs.declared.kinds.Kind.{Kind}
use Rattle.report_lines.specs.ClaimsDue.{DueClaim}
use Rattle.report_lines.specs.Accepted.{Shows}
use Rattle.report_lines.specs.Items.{Item, MainLine, EndLine}
use Rattle.report_lines.specs.Places.{Position, DueAt, end_number, main_at}
use Rattle.report_lines.specs.Holding.{stored_main}
use Rattle.report_lines.specs.Following.{LeadsTo, after}
use Rattle.report_lines.specs.Judged.{Run}
use Rattle.report_lines.specs.Parts.{step_items, shown_claims, HaveLines, noted_step}
use Rattle.report_lines.proofs.Elements.{eq_is}
use Rattle.report_text.proofs.PartsPlaces.{Next, next}
use Rattle.report_text.proofs.PartsLog.{stored, ShowsIn, SpendsAll, Proved, Logged, LoggedAt, log_rest}

-- what follows an answer: the main line, steps that follow, the proofs of these claims and the end; `last` is the kind there
pub record Tail (last : Kind) (main : MainDue) (conflicts : ℕ) (k : Kind) (claims : List DueClaim) (xs : List Item) : Type 0 where
  pub steps : List Step
  pub shown : List ℕ
  pub items : xs ≡ MainLine main.vars (length (stored main)) ∷ (step_items (length (stored main)) steps ++ (shown_claims claims shown ++ EndLine (end_number k) ∷ []))
  pub vars : HasNumeral main.vars
  pub clauses : HasNumeral (length (stored main))
  pub sound : IsSound (stored main) steps
  pub lines : HaveLines (length (stored main)) steps
  pub shows : AllZip (λ claim number. Shows (record { main = stored main; vars = main.vars; steps = steps }) (assumed main claim.says) number) claims shown
  pub numbers : AllByRecursion HasNumeral shown
  pub spends : SpendsAll k conflicts (stored main) (map noted_step steps)
  pub ended : last ≡ k

noted_clauses : (steps : List Step) → map (λ (s : Noted). s.clause) (map noted_step steps) ≡ clauses_of steps
noted_clauses [] = refl
noted_clauses (s ∷ steps) = ap (λ (cs : List (List Lit)). s.clause ∷ cs) (noted_clauses steps)

tail_of : (last : Kind) (main : MainDue) (conflicts : ℕ) (k : Kind) (claims : List DueClaim) (v c : ℕ) (xs : List Item) → v ≡ main.vars → c ≡ length (stored main) → HasNumeral v → HasNumeral c
    → Logged last main conflicts k [] claims xs → Tail last main conflicts k claims (MainLine v c ∷ xs)
tail_of last main conflicts k claims v c xs is_v is_c hv hc l =
    let all : stored main ++ [] ≡ stored main = append-nil (stored main) in
    let p : Proved last main conflicts k (map noted_step l.steps) claims l.tail = l.proved in
    let after_steps : xs ≡ step_items (length (stored main)) l.steps ++ (shown_claims claims p.shown ++ EndLine (end_number k) ∷ []) =
    l.items ∙ (ap (λ (cs : List (List Lit)). step_items (length cs) l.steps ++ l.tail) all ∙ ap (λ (ys : List Item). step_items (length (stored main)) l.steps ++ ys) p.items) in
    record {
      steps = l.steps;
      shown = p.shown;
      items = ap (λ (n : ℕ). MainLine n c ∷ xs) is_v ∙ (ap (λ (n : ℕ). MainLine main.vars n ∷ xs) is_c ∙ ap (λ (ys : List Item). MainLine main.vars (length (stored main)) ∷ ys) after_steps);
      vars = subst HasNumeral is_v hv;
      clauses = subst HasNumeral is_c hc;
      sound = subst (λ (cs : List (List Lit)). IsSound cs l.steps) all l.sound;
      lines = subst (λ (cs : List (List Lit)). HaveLines (length cs) l.steps) all l.lines;
      shows = subst (λ (cs : List (List Lit)). AllZip (λ claim number. ShowsIn (length (stored main)) (stored main ++ cs) (assumed main claim.says) number) claims p.shown) (noted_clauses l.steps) p.shows;
      numbers = p.numbers;
      spends = p.spends;
      ended = p.ended;
    }

pub main_rest : (p q : Position) (xs : List Item) → Run p xs q → p.due ≡ due.Main → p.steps ≡ [] → q.due ≡ due.Over → Tail q.kind (main_at p) p.conflicts p.kind p.claims xs
main_rest p q xs r e none over =
    let n : Next due.Main p q xs = next due.Main p q xs e refl over r in
    let d : DueAt due.Main p n.item = n.of in
    let l : LeadsTo p (MainLine d.0 d.1) n.place = subst (λ (y : Item). LeadsTo p y n.place) d.2 n.leads in
    let log : LoggedAt q n.place n.rest = log_rest n.rest n.place q n.run (ap (λ (m : Position). m.due) l.1) over in
    let here : LoggedAt q (after p (MainLine d.0 d.1)) n.rest = subst (λ (m : Position). LoggedAt q m n.rest) l.1 log in
    let first : Logged q.kind (main_at p) p.conflicts p.kind [] p.claims n.rest = subst (λ (ss : List Noted). Logged q.kind (main_at p) p.conflicts p.kind ss p.claims n.rest) none here in
    let v : d.0 ≡ (main_at p).vars = eq_is d.0 (main_at p).vars (and_left (d.0 == (main_at p).vars) (d.1 == length (stored_main p)) l.0) in
    let c : d.1 ≡ length (stored_main p) = eq_is d.1 (length (stored_main p)) (and_right (d.0 == (main_at p).vars) (d.1 == length (stored_main p)) l.0) in
    subst (λ (ys : List Item). Tail q.kind (main_at p) p.conflicts p.kind p.claims ys) (sym (n.whole ∙ ap (λ (y : Item). y ∷ n.rest) d.2))
    (tail_of q.kind (main_at p) p.conflicts p.kind p.claims d.0 d.1 n.rest v c d.3 d.4 first)
