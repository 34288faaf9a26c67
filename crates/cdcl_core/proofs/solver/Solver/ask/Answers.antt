use Rattle.std.proofs.Common.{◌≡◌, ap, subst, rules}
use Rattle.derivation_log.specs.Logs.{Log, is_learned}
use Rattle.cdcl_core.specs.Replies.{IsAnswered, IsBrokenOff}
use Rattle.std.proofs.Common.{ℕ, ◌≤◌, List, [], ◌∷◌, ◌++◌, length, refl, arith, suc, inl, inr, sym, ◌∙◌}
use Rattle.std.specs.Prelude.{◌^◌, Contains}
use Rattle.std.proofs.lemmas.Bool.{cases_Bool}
use Rattle.clause_store.specs.declared.lit.Lit.{Lit}
use Rattle.derivation_log.specs.Logs.{learned_of, clauses_of, IsSound}
use Rattle.derivation_log.proofs.Steps.{clauses_append}
use Rattle.clause_store.specs.Truth.{AreTrue}
use Rattle.derivation_log.proofs.Sound.{log_refutes}
use Rattle.derivation_log.specs.declared.step.Step.{Step}
use Rattle.solver_laws.specs.Ready.{IsLog}
use Rattle.solver_laws.proofs.Few.{few_learned, apart}
use Rattle.solver_laws.proofs.Turns.{contains_last}
use Rattle.cdcl_core.specs.Replies.{IsLonger, AllLearned, IsDecided, IsJust}
use Rattle.cdcl_core.specs.declared.reply.Reply.{Reply}
use Rattle.cdcl_core.specs.declared.reply.Reply.TheVariants.{Found, Refuted, GaveUp}
use Rattle.cdcl_core.specs.State.{State}
use Rattle.cdcl_core.proofs.solver.Solver.ask.Goals as goal

pub returns-clause-answered : goal.returns-clause-answered
returns-clause-answered g c = subst (λ (x : Log). IsAnswered x c.search.new.log c.args.assumptions.now c.args.budget c.in_ok-reply.reply) (ap (λ (s : State). s.log) c.self.view_is) c.in_ok-reply.ensures.answered

all_counted : (ss : List Step) → AllLearned ss → length (learned_of ss) ≡ length ss
all_counted [] a = refl
all_counted (s ∷ ss) a = rw (a.0) (ap (λ (n : ℕ). suc n) (all_counted ss a.1))

more_counted : (xs ys : List Step) → length (learned_of ys) ≤ length (learned_of (xs ++ ys))
more_counted [] ys = omega arith
more_counted (x ∷ xs) ys = elim (cases_Bool (is_learned x.kind)) [ inl t ↦ rw t (omega (arith, more_counted xs ys)) | inr t ↦ rw t (more_counted xs ys) ]

decided : (old new : Log) (asked : List Lit) (budget : ℕ) (r : Reply) → 3 ^ old.vars ≤ budget → IsAnswered old new asked budget r → IsDecided r
decided old new asked budget (Found values) h a = tt
decided old new asked budget (Refuted n) h a = tt
decided old new asked budget (GaveUp n) h a =
    let f = few_learned new a.0.log in
    let v = ap (λ (k : ℕ). 3 ^ k) a.0.vars in
    let m = all_counted a.0.steps.0 a.0.steps.2 in
    let q = ap (λ (ss : List Step). length (learned_of ss)) a.0.steps.1 in
    omega (arith, f, v, m, q, more_counted old.steps a.0.steps.0, a.0.steps.3, h)

pub returns-clause-enough : goal.returns-clause-enough
returns-clause-enough g c h = decided c.args.self.now.log c.search.new.log c.args.assumptions.now c.args.budget c.in_ok-reply.reply h (returns-clause-answered g c)

pub returns-clause-grows : goal.returns-clause-grows
returns-clause-grows g c = subst (λ (x : Log). IsLonger x c.search.new.log) (ap (λ (s : State). s.log) c.self.view_is) c.search.ensures.longer

pub returns-then-self-clause-distinct : goal.returns-then-self-clause-distinct
returns-then-self-clause-distinct g c =
    let l : IsLog c.args.self.now.log = subst (λ (s : State). IsLog s.log) c.self.view_is c.self.invariant.log in
    apart c.args.self.now.log.main c.args.self.now.log.steps l.new

pub returns-then-self-clause-few : goal.returns-then-self-clause-few
returns-then-self-clause-few g c = few_learned c.args.self.now.log (subst (λ (s : State). IsLog s.log) c.self.view_is c.self.invariant.log)

pub returns-in_err-reply-clause-distinct : goal.returns-in_err-reply-clause-distinct
returns-in_err-reply-clause-distinct g c = apart c.search.new.log.main c.search.new.log.steps c.search.ensures.log.new

pub returns-in_err-reply-clause-few : goal.returns-in_err-reply-clause-few
returns-in_err-reply-clause-few g c = few_learned c.search.new.log c.search.ensures.log

pub returns-clause-distinct : goal.returns-clause-distinct
returns-clause-distinct g c = apart c.search.new.log.main c.search.new.log.steps c.search.ensures.log.new

pub returns-clause-few : goal.returns-clause-few
returns-clause-few g c = few_learned c.search.new.log c.search.ensures.log

just : (old new : Log) (asked : List Lit) (budget : ℕ) (r : Reply) → IsSound new.main new.steps → IsAnswered old new asked budget r → IsJust old.main asked r
just old new asked budget (Found values) l a = tt
just old new asked budget (GaveUp n) l a = tt
just old new asked budget (Refuted n) l a = λ v s t. (
    let grown = a.3 in
    let claimed = a.4 in
    let mid : Log = a.2 in
    let main : new.main ≡ old.main = ap (λ (x : Log). x.main) claimed.3 ∙ grown.main in
    let last : clauses_of new.steps ≡ clauses_of mid.steps ++ claimed.0.clause ∷ [] = ap (λ (x : Log). clauses_of x.steps) claimed.3 ∙ clauses_append mid.steps (claimed.0 ∷ []) in
    let within : Contains (clauses_of new.steps) claimed.0.clause = subst (λ (cs : List (List Lit)). Contains cs claimed.0.clause) (sym last) (contains_last (clauses_of mid.steps) claimed.0.clause) in
    log_refutes v new.main new.steps claimed.0.clause asked (subst (λ (cs : List (List Lit)). AreTrue cs v) (sym main) s) l within claimed.2 t)

pub returns-clause-refuted : goal.returns-clause-refuted
returns-clause-refuted g c = just c.args.self.now.log c.search.new.log c.args.assumptions.now c.args.budget c.in_ok-reply.reply c.search.ensures.log.sound (returns-clause-answered g c)

pub returns-in_err-reply-clause-broken_off : goal.returns-in_err-reply-clause-broken_off
returns-in_err-reply-clause-broken_off g c =
    let h : IsBrokenOff c.args.self.now.log c.search.new.log c.args.budget = subst (λ (x : Log). IsBrokenOff x c.search.new.log c.args.budget) (ap (λ (s : State). s.log) c.self.view_is) c.in_err-reply.ensures.broken_off in
    search rules
