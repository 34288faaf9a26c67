-- Problems and faults by their parts.
use Rattle.std.specs.Prelude.{◌≡◌}
use Rattle.merge_model.specs.declared.problem.Problem.{Problem}
use Rattle.problem_reading.specs.declared.stop.TextFault.{TextFault}

-- the same line and kind
abbrev pub SameFault : TextFault → TextFault → Type 0
SameFault f g = (f.line ≡ g.line) × (f.kind ≡ g.kind)

-- the same parts
pub record SameProblem (p q : Problem) : Type 0 where
  pub atoms : p.atoms ≡ q.atoms
  pub constraint : p.constraint ≡ q.constraint
  pub agents : p.agents ≡ q.agents
  pub asks : p.asks ≡ q.asks
