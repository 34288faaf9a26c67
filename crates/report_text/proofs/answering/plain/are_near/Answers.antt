use Rattle.std.proofs.Common.{◌≡◌, ℕ, zero, suc, ◌+◌, ◌<◌, ◌==◌, ◌&&◌, Bool, true, false, List, [], ◌∷◌, length, map, drop, get_or, add-one, sym, ap, ◌∙◌, arith}
use Rattle.std.specs.Prelude.{slice_index_or}
use Rattle.merge_model.specs.declared.agent.Agent.{Agent}
use Rattle.formulas.specs.Formulas.{holds}
use Rattle.report_lines.specs.Holding.{are_near}
use Rattle.report_text.proofs.answering.plain.are_near.Goals as goal

module _ (dist : List Bool → List Bool → ℕ) (model : List Bool) where
  -- one place on
  next : (agents : List Agent) (ds : List ℕ) (ws : List (List Bool)) (k : ℕ) (a : Agent) (w : List Bool) → k < length agents → length ds ≡ length agents → length ws ≡ length agents → a ≡ slice_index_or agents k a → w ≡ slice_index_or ws k w →
      are_near dist model (drop k (map (λ (agent : Agent). agent.base) agents)) (drop k ds) (drop k ws)
      ≡ ((holds a.base w && (dist model w == get_or ds k 0)) && are_near dist model (drop (suc k) (map (λ (agent : Agent). agent.base) agents)) (drop (suc k) ds) (drop (suc k) ws))
  next [] ds ws k a w lt same_d same_w is_a is_w = absurd (omega arith)
  next (x ∷ agents) [] ws k a w lt same_d same_w is_a is_w = absurd (omega arith)
  next (x ∷ agents) (d ∷ ds) [] k a w lt same_d same_w is_a is_w = absurd (omega arith)
  next (x ∷ agents) (d ∷ ds) (v ∷ ws) zero a w lt same_d same_w is_a is_w =
      ap (λ (y : Agent). (holds y.base v && (dist model v == d)) && are_near dist model (map (λ (agent : Agent). agent.base) agents) ds ws) (sym is_a)
      ∙ ap (λ (y : List Bool). (holds a.base y && (dist model y == d)) && are_near dist model (map (λ (agent : Agent). agent.base) agents) ds ws) (sym is_w)
  next (x ∷ agents) (d ∷ ds) (v ∷ ws) (suc k) a w lt same_d same_w is_a is_w = next agents ds ws k a w (omega arith) (omega arith) (omega arith) is_a is_w

  next_on : (agents : List Agent) (ds : List ℕ) (ws : List (List Bool)) (k : ℕ) (a : Agent) (w : List Bool) → k < length agents → length ds ≡ length agents → length ws ≡ length agents → a ≡ slice_index_or agents k a → w ≡ slice_index_or ws k w →
      are_near dist model (drop k (map (λ (agent : Agent). agent.base) agents)) (drop k ds) (drop k ws)
      ≡ ((holds a.base w && (dist model w == get_or ds k 0)) && are_near dist model (drop (k + 1) (map (λ (agent : Agent). agent.base) agents)) (drop (k + 1) ds) (drop (k + 1) ws))
  next_on agents ds ws k a w lt same_d same_w is_a is_w = rw (add-one k) (next agents ds ws k a w lt same_d same_w is_a is_w)

stop : (b near all rest test : Bool) → near ≡ all → near ≡ (b && rest) → test ≡ b → test ≡ false → false ≡ all
stop b near all rest test h n t f = sym (sym h ∙ n ∙ ap (λ x. x && rest) (sym t ∙ f))

go : (b near all rest test : Bool) → near ≡ all → near ≡ (b && rest) → test ≡ b → test ≡ true → rest ≡ all
go b near all rest test h n t f = sym (ap (λ x. x && rest) (sym t ∙ f)) ∙ sym n ∙ h

pub returns-then-not-is_near : goal.returns-then-not-is_near
returns-then-not-is_near g c =
    stop _ _ _ _ c.is_near.result c.loop-k.invariant
    (next_on (g.D.Distance.dist c.args.distance.now) c.args.model c.args.agents.now c.args.vector.now c.args.nearest.now c.loop-k.k c.index-agents-k.result c.index-nearest-k.result c.loop-k-test.true c.requires.vector c.requires.nearest c.index-agents-k.is c.index-nearest-k.is)
    c.is_near.ensures c.if-not-is_near.true

pub loop-k-preserved : goal.loop-k-preserved
loop-k-preserved g c =
    go _ _ _ _ c.is_near.result c.loop-k.invariant
    (next_on (g.D.Distance.dist c.args.distance.now) c.args.model c.args.agents.now c.args.vector.now c.args.nearest.now c.loop-k.k c.index-agents-k.result c.index-nearest-k.result c.loop-k-test.true c.requires.vector c.requires.nearest c.index-agents-k.is c.index-nearest-k.is)
    c.is_near.ensures c.if-not-is_near.false
