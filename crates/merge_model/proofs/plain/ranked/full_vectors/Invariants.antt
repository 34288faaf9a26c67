use Rattle.std.proofs.Common.{◌≡◌, ◌++◌, map, drop}
use Rattle.merge_model.specs.Merging.{repeated}
use Rattle.merge_model.specs.Plain.{distances_of}
use Rattle.merge_model.proofs.plain.ranked.full_vectors.Given as goal

abbrev pub invariant-loop-candidate : goal.invariant-loop-candidate
invariant-loop-candidate g l =
    l.fulls.items
    ++ map (λ v. repeated (map (λ agent. agent.times) l.agents) (distances_of (g.D.Distance.dist l.distance) l.tables v)) (drop l.candidate-index l.candidates)
    ≡ map (λ v. repeated (map (λ agent. agent.times) l.agents) (distances_of (g.D.Distance.dist l.distance) l.tables v)) l.candidates
