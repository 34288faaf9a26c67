use Rattle.report_lines.specs.ClaimsDue.{lack_of}
use Rattle.report_text.specs.Answering.{position_of}
use Rattle.report_text.proofs.Claiming.{lack_proper, pushed_proper}
use Rattle.report_text.proofs.answering.Answering.take_lack.Goals as goal

pub returns-clause-fit : goal.returns-clause-fit
returns-clause-fit c =
    let p = position_of c.args.self.now in
    c.name.ensures.fit (pushed_proper p c.args.self.now.claims.items c.add_claim.new.claims.items _ (lack_of c.args.subject) c.in_ok-add_claim.ensures.added c.lack_of.ensures c.requires.claims (lack_proper p c.args.subject c.requires.subject))
