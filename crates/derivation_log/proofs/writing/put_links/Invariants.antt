use Rattle.std.proofs.Common.{◌≡◌, ◌++◌, take}
use Rattle.std.specs.List.{flat_map}
use Rattle.report_words.specs.Words.{later_text}
use Rattle.derivation_log.specs.StepLines.{link_words, widen_link}
use Rattle.derivation_log.proofs.writing.put_links.Given as goal

abbrev pub invariant-loop-link : goal.invariant-loop-link
invariant-loop-link l = l.text.items ≡ l.initial.text.items ++ flat_map (λ x. later_text (link_words (widen_link x))) (take l.link-index l.links)
