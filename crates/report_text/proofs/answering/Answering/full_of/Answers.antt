use Rattle.std.proofs.Common.{◌∙◌, ap, List, map}
use Rattle.merge_model.specs.declared.agent.Agent.{Agent}
use Rattle.merge_model.specs.Merging.{repeated}
use Rattle.report_text.specs.Answering.{position_of}
use Rattle.report_lines.specs.Places.{top_at}
use Rattle.report_text.proofs.Ranking.{full_some, full_few, full_within, full_small}
use Rattle.report_text.proofs.answering.Answering.full_of.Goals as goal

pub returns-clause-some : goal.returns-clause-some
returns-clause-some c =
    full_some c.args.self.now.problem c.args.vector.now c.requires.0 _ (c.in_ok-full.ensures ∙ ap (λ (agents : List Agent). repeated (map (λ (agent : Agent). agent.times) agents) c.args.vector.now) c.as_slice.ensures)

pub returns-clause-few : goal.returns-clause-few
returns-clause-few c =
    full_few c.args.self.now.problem c.args.vector.now c.requires.0 _ (c.in_ok-full.ensures ∙ ap (λ (agents : List Agent). repeated (map (λ (agent : Agent). agent.times) agents) c.args.vector.now) c.as_slice.ensures)

pub returns-clause-within : goal.returns-clause-within
returns-clause-within c =
    full_within c.args.self.now.problem c.args.vector.now c.requires.0 _ (c.in_ok-full.ensures ∙ ap (λ (agents : List Agent). repeated (map (λ (agent : Agent). agent.times) agents) c.args.vector.now) c.as_slice.ensures) (top_at (position_of c.args.self.now)) c.requires.1

pub returns-clause-small : goal.returns-clause-small
returns-clause-small c =
    full_small c.args.self.now.problem c.args.vector.now c.requires.0 _ (c.in_ok-full.ensures ∙ ap (λ (agents : List Agent). repeated (map (λ (agent : Agent). agent.times) agents) c.args.vector.now) c.as_slice.ensures) c.args.self.now.distance c.requires.1
