use Rattle.std.proofs.Common.{◌+◌, List, sym, subst}
use Rattle.formulas.specs.Formulas.{nodes_of}
use Rattle.merge_model.specs.declared.agent.Agent.{Agent}
use Rattle.problem_reading.specs.Fitting.{Fits}
use Rattle.problem_reading.specs.Kept.{IsKept}
use Rattle.problem_reading.specs.Views.{draft_of}
use Rattle.problem_reading.proofs.Keeping.{kept_belief}
use Rattle.problem_reading.proofs.declarations.Declarations.take.Goals as goal

pub invariant_of-self-in-Belief : goal.invariant_of-self-in-Belief
invariant_of-self-in-Belief c =
    let r = c.args.self.now in
    let agent = c.in-Belief.agent in
    let fits = subst (Fits (draft_of r)) c.in-Belief.is c.requires in
    let kept = kept_belief (draft_of r) agent r.constraint_nodes r.other_nodes r.times fits r.kept in
    record {
      kept = subst (λ n. IsKept r.atoms r.constraint c.push.new.self.items r.asks.items r.constraint_nodes (r.other_nodes + n) (r.times + agent.times)) (sym c.nodes-nodes.ensures)
          (subst (λ (xs : List Agent). IsKept r.atoms r.constraint xs r.asks.items r.constraint_nodes (r.other_nodes + nodes_of agent.base) (r.times + agent.times))
          (sym c.in_ok-push-in-Belief.ensures.items) kept);
    }
