use Rattle.std.proofs.Common.{◌≡◌, map, drop}
use Rattle.report_lines.specs.Holding.{are_near}
use Rattle.report_text.proofs.answering.plain.are_near.Given as goal

abbrev pub invariant-loop-k : goal.invariant-loop-k
invariant-loop-k g l =
    are_near (g.D.Distance.dist l.distance) l.model (drop l.k (map (λ agent. agent.base) l.agents)) (drop l.k l.vector) (drop l.k l.nearest)
    ≡ are_near (g.D.Distance.dist l.distance) l.model (map (λ agent. agent.base) l.agents) l.vector l.nearest
