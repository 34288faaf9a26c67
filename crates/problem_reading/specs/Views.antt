-- The draft of what is declared.
use Rattle.problem_reading.specs.declared.declarations.Declarations.{Declarations}
use Rattle.problem_reading.specs.Drafts.{Draft}

abbrev pub draft_of : Declarations → Draft
draft_of r = record { atoms = r.atoms; constraint = r.constraint; agents = r.agents.items; asks = r.asks.items }
