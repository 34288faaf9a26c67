-- Draws one after the other.
use Rattle.std.proofs.Common.{◌≡◌, ℕ, zero, suc, ◌+◌, ◌<◌, ap, sym, ◌∙◌, refl, arith}
use Rattle.bench_problem.specs.Draws.{next_state, state_after, drawn}

pub state_after-add : (state a b : ℕ) → state_after (state_after state a) b ≡ state_after state (a + b)
unfolding state_after
state_after-add state a zero = let e : a ≡ a + 0 = omega arith in ap (state_after state) e
state_after-add state a (suc b) =
    let e : suc (a + b) ≡ a + suc b = omega arith in
    ap next_state (state_after-add state a b) ∙ ap (state_after state) e

pub no_draws : (state : ℕ) → state_after state 0 ≡ state
unfolding state_after
no_draws state = refl

pub state_after_one : (state : ℕ) → state_after state 1 ≡ next_state state
unfolding state_after
state_after_one state = refl

pub state_after_more : (state a : ℕ) → state_after state (a + 1) ≡ next_state (state_after state a)
state_after_more state a = sym (state_after-add state a 1) ∙ state_after_one (state_after state a)

pub drawn_below : (state place bound : ℕ) → 0 < bound → drawn state place bound < bound
drawn_below state place bound some = omega arith

-- one more draw after so many
pub draw_more : (state draws now next : ℕ) → now ≡ state_after state draws → next ≡ next_state now → next ≡ state_after state (draws + 1)
draw_more state draws now next before step = step ∙ ap next_state before ∙ sym (state_after_more state draws)
