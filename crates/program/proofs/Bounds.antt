-- How much room the programs need: a kit text of at most 32,768 bytes has at most 181 rows, a block text of as many shows at most 8,192 rows of blocks.
--   few-rows         the rows of a kit
--   few-block-rows   the rows of blocks
--   few-red          the redundancy of the groups
-- Assumes nothing.
use mathlib.Core.Path.{◌≡◌}
use Prim.Native.Nat.{ℕ, zero, suc, ◌+◌, ◌*◌, ◌≤◌, ◌<◌}
use native.Mathlib.Omega.{arith}
use native.Mathlib.Nat.{mul-le-mul, mul_assoc}
use native.Mathlib.Decide.{dec_lt}
use Rattle.staircase.specs.Frame.{groups}

-- 182 × 182 is 33,124
pub few-rows : (n : ℕ) → n * n ≤ 32768 → n ≤ 181
few-rows n h = go (dec_lt 181 n)
  where
    go : Dec (181 < n) → n ≤ 181
    go (yes k) = let e : 182 * 182 ≤ n * n = mul-le-mul k k in absurd (omega arith)
    go (no k) = omega arith

-- L blocks of M rows
pub few-block-rows : (L M : ℕ) → L ≤ 4096 → L * (M * M + 3) ≤ 32768 → L * M ≤ 8192
few-block-rows L zero l h = omega arith
few-block-rows L (suc zero) l h = omega arith
few-block-rows L (suc (suc zero)) l h = omega arith
few-block-rows L (suc (suc (suc zero))) l h = omega arith
few-block-rows L (suc (suc (suc (suc k)))) l h =
    let M : ℕ = suc (suc (suc (suc k))) in
    let w : L * M ≤ L * M = omega arith in
    let x : 4 ≤ M = omega arith in
    let a : L * M * 4 ≤ L * M * M = mul-le-mul w x in
    let y : L ≤ L = omega arith in
    let z : M * M ≤ M * M + 3 = omega arith in
    let c : L * (M * M) ≤ L * (M * M + 3) = mul-le-mul y z in
    omega (arith, mul_assoc L M M)

-- the redundancy of the groups, and with the lines' numbers and spaces
pub few-red : (L M r : ℕ) → L ≤ 4096 → L * (M * M + 3) ≤ 32768 → r ≤ 30 → M * r ≤ 181 → groups L * (2 * (M * r)) ≤ 245941
few-red L M r l h k n =
    let w = few-block-rows L M l h in
    let a : L * M * r ≤ 8192 * 30 = mul-le-mul w k in
    let e : groups L * 2 ≤ L + 1 = omega arith in
    let y : M * r ≤ M * r = omega arith in
    let b : groups L * 2 * (M * r) ≤ (L + 1) * (M * r) = mul-le-mul e y in
    omega (arith, mul_assoc L M r, mul_assoc (groups L) 2 (M * r), distrib L (M * r))
  where
    distrib : (a b : ℕ) → (a + 1) * b ≡ a * b + b
    distrib a b = omega arith
