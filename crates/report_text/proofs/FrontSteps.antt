-- Where a front stands after a line.
use Rattle.std.proofs.Common.{◌≡◌, ◌≢◌, ℕ, List, [], ◌∷◌, ◌++◌, refl, ap, sym, subst, ◌∙◌, ◌⊎◌, inl, inr, Option, Some, None, unwrap_or}
use Rattle.std.specs.Prelude.{IsSome}
use Rattle.formulas.specs.Names.{AtomList}
use Rattle.formulas.specs.declared.formula.Formula.{Formula}
use Rattle.formulas.specs.declared.formula.Formula as formula
use Rattle.merge_model.specs.declared.agent.Agent.{Agent}
use Rattle.merge_model.specs.declared.problem.Problem.{Problem}
use Rattle.problem_reading.specs.Canonical.{IsWritten}
use Rattle.problem_reading.specs.Drafts.{Draft}
use Rattle.problem_reading.specs.declared.stop.TextStop.{TextStop}
use Rattle.problem_reading.specs.declared.stop.TextStop.TheVariants.{Fault, NoMemory}
use Rattle.problem_reading.specs.Lines.{IsCanonicalNext, Spell, StopsAtEnd}
use Rattle.problem_reading.specs.Saying as saying
use Rattle.problem_reading.specs.Spelling.{Declares, one_more, EndsAt, IsProblemOf}
use Rattle.problem_reading.proofs.OneDraft.{declares_once}
use Rattle.report_lines.specs.declared.kinds.Due.{Due}
use Rattle.report_lines.specs.declared.kinds.Due.TheVariants as due
use Rattle.report_lines.specs.Following.{Fails, after_said, due_after_said}
use Rattle.report_lines.specs.Items.{ProblemLine}
use Rattle.report_lines.specs.Judged.{IsRightAs}
use Rattle.report_lines.specs.Places.{Position, IsProblemLine, start, first_word}
use Rattle.report_text.specs.declared.front.Front.{Front}
use Rattle.report_text.specs.declared.front.FrontDue.{FrontDue}
use Rattle.report_text.specs.declared.front.FrontDue.TheVariants as front
use Rattle.report_text.specs.Front.{HasCome, IsAnswerDue, IsWhole, Precedes, StandsAtFront, States, draft_in, due_of, word_before}
use Rattle.report_text.proofs.FrontSaid.{come_next, due_next, next_is}

-- a canonical line that is due leads on
pub leads : (f : Front) (next : FrontDue) (lines : List (List ℕ)) (p : Position) (word line : List ℕ) → StandsAtFront f p → Precedes f.due next → word ≡ word_before next →
    first_word line ≡ word → IsCanonicalNext f.lines line → lines ≡ f.lines ++ line ∷ [] →
    (q : Position) × IsRightAs (IsProblemLine word) p line q × StandsAtFront (record f { due = next; lines = lines }) q
leads f next lines p word line h order e first canonical more =
    let said = canonical.1 in
    let same : canonical.0 ≡ p.draft = declares_once canonical.2 h.declared refl in
    let says : saying.Says p.draft line said = subst (λ (d : Draft). saying.Says d line said) same canonical.3 in
    let written : IsWritten p.draft line said = subst (λ (d : Draft). IsWritten d line said) same canonical.4 in
    let draft = saying.after p.draft said in
    let on = next_is f.due next p.draft line said order (first ∙ e) written in (
      after_said p said,
      record { item = ProblemLine line; of = (line, refl, first); words = refl; leads = (said, (says, written), refl) },
      record {
        place = ap (λ (r : Position). record r { due = due_after_said said; draft = draft }) h.place
            ∙ ap (λ (k : Due). record start { due = k; distance = f.distance; aggregator = f.aggregator; conflicts = f.conflicts; draft = draft }) (due_next said ∙ ap due_of (sym on));
        declared = subst (λ (ls : List (List ℕ)). Declares ls draft) (sym more) (one_more line draft h.declared (said, says, refl));
        come = come_next f.due next f.conflicts p.draft line said order on says written h.come;
      },
    )

-- a line that is not canonical does not
pub fails : (f : Front) (p : Position) (line : List ℕ) → StandsAtFront f p → (IsCanonicalNext f.lines line → ⊥) → Fails p (ProblemLine line)
fails f p line h none = λ said c. none (p.draft, said, h.declared, c.0, c.1)

some_of : (o : Option Formula) (f : Formula) → f ≡ unwrap_or o formula.Top → IsSome o → o ≡ Some f
some_of None f e h = absurd (cc)
some_of (Some g) f e h = ap Some (sym e)

same_parts : (atoms names : AtomList) (c f : Option Formula) (agents others : List Agent) (asks queries : List Formula) → atoms ≡ names → c ≡ f → agents ≡ others →
    asks ≡ queries →
    (let d : Draft = record { atoms = atoms; constraint = c; agents = agents; asks = asks } in
    let e : Draft = record { atoms = names; constraint = f; agents = others; asks = queries } in d ≡ e)
same_parts atoms names c f agents others asks queries h i j k = cc

draft_is : (d : Draft) (problem : Problem) → IsProblemOf d problem → IsSome d.constraint → d ≡ draft_in problem
draft_is d problem h some =
    same_parts d.atoms problem.atoms d.constraint (Some problem.constraint) d.agents problem.agents d.asks problem.asks (sym h.atoms)
    (some_of d.constraint problem.constraint h.constraint some) (sym h.agents) (sym h.asks)

whole : (place : FrontDue) (conflicts : ℕ) (d : Draft) → IsAnswerDue place → HasCome place conflicts d → IsWhole conflicts d
whole front.Agents conflicts d at h = h
whole front.Asks conflicts d at h = h
whole place conflicts d at h = absurd at

pub is_whole : (f : Front) (p : Position) → StandsAtFront f p → IsAnswerDue f.due → IsWhole f.conflicts p.draft
is_whole f p h at = whole f.due f.conflicts p.draft at h.come

answer_at : (place : FrontDue) (d : Due) → IsAnswerDue place → d ≡ due_of place → (d ≡ due.Agents) ⊎ (d ≡ due.Asks)
answer_at front.Agents d at e = inl e
answer_at front.Asks d at e = inr e
answer_at place d at e = absurd at

-- the problem of the lines is that of the draft
pub states : (f : Front) (p : Position) (problem : Problem) → StandsAtFront f p → IsAnswerDue f.due → IsProblemOf p.draft problem → States p f.distance f.aggregator f.conflicts problem
states f p problem h at is =
    let all = is_whole f p h at in
    let due : p.due ≡ due_of f.due = ap (λ (r : Position). r.due) h.place in
    record {
      number = all.number;
      draft = draft_is p.draft problem is all.constraint;
      due = answer_at f.due p.due at due;
      place = h.place ∙ ap (λ (k : Due). record start { due = k; distance = f.distance; aggregator = f.aggregator; conflicts = f.conflicts; draft = p.draft }) (sym due);
    }

never_ends : (d : Draft) (stop : TextStop) → EndsAt d stop → d.atoms ≢ [] → d.agents ≢ [] → ⊥
never_ends d (Fault fault) (line, inl h) atom agent = atom h.1
never_ends d (Fault fault) (line, inr h) atom agent = agent h.2
never_ends d NoMemory h atom agent = h

-- with an atom and an agent lines have no fault at their end
pub no_end : (ls ks : List (List ℕ)) (d : Draft) (stop : TextStop) → StopsAtEnd ls stop → ls ≡ ks → Declares ks d → d.atoms ≢ [] → d.agents ≢ [] → ⊥
no_end ls ks d stop h e declares = never_ends d stop (subst (λ (x : Draft). EndsAt x stop) (declares_once h.1 declares e) h.2)

pub spelled : (ls ks : List (List ℕ)) (d : Draft) (problem : Problem) → Spell ls problem → ls ≡ ks → Declares ks d → IsProblemOf d problem
spelled ls ks d problem h e declares = subst (λ (x : Draft). IsProblemOf x problem) (declares_once h.1 declares e) h.2
