use Rattle.cdcl_core.proofs.Levels.{level_is}
use Rattle.cdcl_core.proofs.analysis.level_at.Goals as goal

pub returns-in-Some-clause-within : goal.returns-in-Some-clause-within
returns-in-Some-clause-within c = (level_is c.args.trail.now c.args.lit c.in-Some.level c.facts.ensures c.requires.is_false c.in-Some.ensures).within

pub returns-in-Some-clause-room : goal.returns-in-Some-clause-room
returns-in-Some-clause-room c = (level_is c.args.trail.now c.args.lit c.in-Some.level c.facts.ensures c.requires.is_false c.in-Some.ensures).room
