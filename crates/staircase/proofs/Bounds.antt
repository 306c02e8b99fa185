-- Bounds of products of sizes, which `omega` does not find.
--   small_product   a product of bounded numbers
--   stretch-end     the end of one of n stretches
--   place_below     a place of a matrix
-- Assumes nothing.
use mathlib.Core.Path.{subst}
use Prim.Native.Nat.{ℕ, ◌+◌, ◌*◌, ◌≤◌, ◌<◌}
use native.Mathlib.Nat.{mul_comm, mul-le-mul, suc-mul, mul-le-mul_right}
use native.Mathlib.Omega.{arith}
use lib.Arith.{digits_lt}

pub small_product : (a b k l : ℕ) → a ≤ k → b ≤ l → a * b ≤ k * l
small_product a b k l h g = mul-le-mul h g

-- stretch i of n stretches of w ends within them
pub stretch-end : (i n w : ℕ) → i < n → i * w + w ≤ n * w
stretch-end i n w h = omega (arith, suc-mul i w, mul-le-mul_right w h)

-- row b, column a of r rows of `size`
pub place_below : (size r b a : ℕ) → b < r → a < size → b * size + a < size * r
place_below size r b a hb ha = subst (λ (z : ℕ). b * size + a < z) (mul_comm r size) (digits_lt {q = b} {m = r} {r = a} {c = size} hb ha)
