use Rattle.std.proofs.Common.{sym, subst}
use Rattle.derivation_log.specs.Logs.{Log, IsSound}
use Rattle.derivation_log.proofs.Steps.{sound_push}
use Rattle.solver_rows.proofs.logs.append.Goals as goal

pub returns : goal.returns
returns c =
    let log : Log = c.args.log.now in
    let sound = sound_push log.main log.steps c.in_ok-step.step c.requires c.in_ok-step.ensures.follows in
    subst (λ (g : Log). IsSound g.main g.steps) (sym c.in_ok-_number.ensures.ok) sound
