-- Where the positions of a word stand, by the numbers that the code computes.
--   block_none, block-past, block_one   the sites of a block that is not sent, and of one that is
--   red-below                           a place of the redundancy
-- Assumes nothing.
use mathlib.Core.Path.{◌≡◌, refl, sym, ap, ◌∙◌}
use mathlib.Core.Bool.{Bool, cond}
use Prim.Native.Nat.{ℕ, zero, suc, ◌+◌, ◌-◌, ◌*◌, ◌≤◌, ◌<◌}
use native.Mathlib.Nat.{mul_comm, mul_assoc}
use native.Mathlib.Omega.{arith}
use borrow.Author.Tests.{lt-ltb, le-ltb}
use Rattle.staircase.specs.Design.{Params}
use Rattle.staircase.specs.Frame.{block_at}
use Rattle.staircase.specs.Frame.Site.{unsent, in_info}
use Rattle.staircase.proofs.Bounds.{place_below}

pub block_none : (s : Params) (L b k : ℕ) → b < 1 → unsent ≡ block_at s L b k
block_none s L zero k h = refl
block_none s L (suc b) k h = absurd (omega arith)

pub block-past : (s : Params) (L b k : ℕ) → L ≤ b - 1 → 1 ≤ b → unsent ≡ block_at s L b k
block-past s L zero k h g = absurd (omega arith)
block-past s L (suc b) k h g = sym (ap (λ (z : Bool). cond z (in_info (b * (s.M * s.M) + k)) unsent) (le-ltb b L (omega arith)))

pub block_one : (s : Params) (L b k : ℕ) → b - 1 < L → 1 ≤ b → in_info ((b - 1) * (s.M * s.M) + k) ≡ block_at s L b k
block_one s L zero k h g = absurd (omega arith)
block_one s L (suc b) k h g =
    let e : suc b - 1 ≡ b = omega arith in
    ap (λ (z : ℕ). in_info (z * (s.M * s.M) + k)) e ∙ sym (ap (λ (z : Bool). cond z (in_info (b * (s.M * s.M) + k)) unsent) (lt-ltb b L (omega arith)))

pub red-below : (M r a p : ℕ) → p < 2 * M + 2 * r → 2 * M ≤ p → a < M → (p - 2 * M) * M + a < 2 * (M * r)
red-below M r a p j h b =
    let e : M * (2 * r) ≡ 2 * (M * r) = sym (mul_assoc M 2 r) ∙ ap (λ (z : ℕ). z * r) (mul_comm M 2) ∙ mul_assoc 2 M r in
    omega (arith, e, place_below M (2 * r) (p - 2 * M) a (omega arith) b)
