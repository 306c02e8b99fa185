-- Laws of the generator, as its loops meet them.
--   after_none, after_more, after-add   no step, one more step, and steps after steps
--   draw_none, draw_more, draw_small    no bit of a draw, one more, and its bound
--   product_small                       the product of two numbers of 32 bits
-- Assumes nothing.
use Rattle.std.proofs.Common.{◌≡◌, ℕ, zero, suc, ◌+◌, ◌*◌, ◌^◌, ◌<◌, ◌≤◌, sym, refl, ap, ◌∙◌, add-zero, add-suc, mul-le-mul, add-one, arith}
use native.Mathlib.Nat.{pow-le-pow_right}
use Rattle.staircase.specs.Load.{next_state, output, state_after, drawn_bits}
use Rattle.staircase.proofs.Load.{draw_below}

pub after_none : (s : ℕ) → s ≡ state_after s 0
unfolding state_after
after_none s = refl

pub after_more : (s n : ℕ) → next_state (state_after s n) ≡ state_after s (n + 1)
unfolding state_after
after_more s n = ap (state_after s) (sym (add-one n))

pub after-add : (s a b : ℕ) → state_after (state_after s a) b ≡ state_after s (a + b)
unfolding state_after
after-add s a zero = ap (state_after s) (sym (add-zero a))
after-add s a (suc b) = ap next_state (after-add s a b) ∙ ap (state_after s) (sym (add-suc a b))

pub draw_none : (s : ℕ) → 0 ≡ drawn_bits s 0
unfolding drawn_bits
draw_none s = refl

pub draw_more : (s n : ℕ) → 2 * drawn_bits s n + output (state_after s (n + 1)) ≡ drawn_bits s (n + 1)
unfolding drawn_bits
draw_more s n = ap (λ (k : ℕ). 2 * drawn_bits s n + output (state_after s k)) (add-one n) ∙ ap (drawn_bits s) (sym (add-one n))

pub draw_small : (s n : ℕ) → n ≤ 16 → drawn_bits s n < 65536
draw_small s n h = let p : 2 ^ n ≤ 2 ^ 16 = pow-le-pow_right (omega arith) h in omega (arith, p, draw_below s n)

pub product_small : (a b : ℕ) → a ≤ 4294967295 → b ≤ 4294967295 → a * b ≤ 4294967295 * 4294967295
product_small a b h k = mul-le-mul h k
