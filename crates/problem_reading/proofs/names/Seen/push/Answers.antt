use Rattle.formulas.proofs.NameViews.{keys_added}
use Rattle.problem_reading.proofs.names.Seen.push.Goals as goal

pub returns : goal.returns
returns c =
    keys_added c.self.inside.words.keys _ c.args.self.now c.in_ok-word.word c.args.word.now c.self.view_is c.in_ok-word.ensures.ok c.requires c.in_ok-insert.ensures.keys
