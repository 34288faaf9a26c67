use Rattle.derivation_log.proofs.Readers.{links_step}
use Rattle.derivation_log.proofs.reading.links_next.Goals as goal

pub loop-word-preserved : goal.loop-word-preserved
loop-word-preserved c = links_step c.loop-word.links.items c.push.new.self.items c.loop-word.words c.next.new.self c.next-in-Some.new.self c.in-Some.word.now c.in-Some-next.second.now c.in-Some-literal_of.pivot c.in-Some-number_of.number _
    c.in_ok-push.ensures.items c.in-Some.ensures c.in-Some-next.ensures c.in-Some-literal_of.ensures.exact c.in-Some-number_of.ensures.exact c.loop-word.invariant
