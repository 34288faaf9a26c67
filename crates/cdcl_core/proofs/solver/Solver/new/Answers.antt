use Rattle.std.proofs.Common.{rules, List, ◌++◌, sym, ap, ◌∙◌}
use Rattle.std.proofs.lemmas.List.{append-nil}
use Rattle.derivation_log.specs.declared.step.Step.{Step}
use Rattle.derivation_log.specs.Logs.{Log, learned_of}
use Rattle.watch_lists.specs.Trace.{Attached}
use Rattle.solver_laws.specs.Ready.{AreAttached}
use Rattle.solver_laws.proofs.Turns.{attached_main}
use Rattle.cdcl_core.proofs.solver.Solver.new.Goals as goal

pub invariant_of-result : goal.invariant_of-result
invariant_of-result g c =
    let log : Log = c.new-log.result in
    let w : List Attached = g.P.Propagator.attached c.attach_all.new.propagator in
    let none = ap (λ (x : Log). x.steps) c.new-log.ensures in
    let all : AreAttached w (log.main ++ learned_of log.steps) = attached_main w (log.main ++ learned_of log.steps) (c.in_ok-attach_all.ensures.attached ∙ sym (append-nil log.main) ∙ ap (λ (ss : List Step). log.main ++ learned_of ss) (sym none)) in
    search rules
