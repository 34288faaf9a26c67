use Rattle.report_text.proofs.FrontSteps.{is_whole, states}
use Rattle.report_text.proofs.front.Front.finish.Goals as goal

pub returns : goal.returns
returns c = λ p h.
    let all = is_whole c.args.self p h c.requires in
    states c.args.self p c.in_ok-problem.problem h c.requires (c.in_ok-problem.ensures p.draft h.declared all.atom all.agent)
