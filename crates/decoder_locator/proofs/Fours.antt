-- The values of a polynomial, four bits at a time.
--   four_fits     four bits at bit j, in a number of 32 bits
--   values-none   the values of no bits
--   values-more   those of four bits more
--   values-all    those of all bits
--   Filled        the entries of the table of four bits before entry p
--   filled_more   one entry more
--   filled-all    the whole table
-- Assumes nothing.
use mathlib.Core.Path.{◌≡◌, sym, ap, ap₂, ◌∙◌, subst⁻¹}
use mathlib.Core.List.{List, ◌++◌}
use Prim.Native.Nat.{ℕ, ◌+◌, ◌*◌, ◌/◌, ◌%◌, ◌^◌, ◌≤◌, ◌<◌}
use native.Mathlib.Nat.{zero-mul, zero-add, add-zero, mod-one, mod-lt, mod-eq_of_lt, le_trans, mul-le-mul_right}
use native.Mathlib.Omega.{arith}
use lib.Pow.{pow_pos, pow-add, pow_mono, mod-pow-add}
use lib.Bits.{bit_xor, xor_block, xor_zero_l, xor_zero_r}
use lib.ListN.{length, get_or, set, get_or-append}
use Rattle.bch.specs.Polynomial.{◌⊕◌}
use Rattle.bch.specs.Locator.{syndromes}
use Rattle.bch.proofs.Polynomial.{linear_zero}
use Rattle.bch.proofs.Store.{set_each}
use Rattle.bch.proofs.Syndromes.{syndromes-sum}
use Rattle.decoder_locator.specs.Located.{SumTable}

four_below : (v j : ℕ) → v < 16 → v * 2 ^ j < 2 ^ (j + 4)
four_below v j h =
    let l : v ≤ 15 = omega arith in
    omega (arith, mul-le-mul_right (2 ^ j) l, pow-add 2 j 4, pow_pos j)

pub four_fits : (v j : ℕ) → v < 16 → j + 4 ≤ 32 → ((v * 2 ^ j) % 2 ^ 32 ≡ v * 2 ^ j) × ((v * 2 ^ j) % 2 ^ 32 < 2 ^ (j + 4))
four_fits v j h l =
    let e : (v * 2 ^ j) % 2 ^ 32 ≡ v * 2 ^ j = mod-eq_of_lt (le_trans (four_below v j h) (pow_mono {i = j + 4} {j = 32} l)) in
    (e, subst⁻¹ (λ (z : ℕ). z < 2 ^ (j + 4)) e (four_below v j h))

-- a number's low bits and the next four
low-and_next : (x j : ℕ) → (x % 2 ^ j) ⊕ (x / 2 ^ j % 16) * 2 ^ j ≡ x % 2 ^ (4 + j)
unfolding ◌⊕◌
low-and_next x j =
    let h = x / 2 ^ j % 16 in
    let r = x % 2 ^ j in
    sym (ap₂ bit_xor (ap (λ (z : ℕ). z + r) (zero-mul (2 ^ j)) ∙ zero-add r) (add-zero (h * 2 ^ j)))
    ∙ xor_block j 0 h r 0 (mod-lt x (pow_pos j)) (pow_pos j) ∙ ap₂ (λ (a b : ℕ). a * 2 ^ j + b) (xor_zero_l h) (xor_zero_r r)
    ∙ sym (mod-pow-add x 4 j)

module _ (m : ℕ) (low : 4 ≤ m) (high : m ≤ 10) where
  pub values-none : (x : ℕ) → 0 ≡ syndromes m (x % 2 ^ (4 * 0))
  values-none x = sym (ap (syndromes m) (mod-one x) ∙ linear_zero (syndromes m) (syndromes-sum m low high))

  pub values-more : (x k s e : ℕ) → s ≡ syndromes m (x % 2 ^ (4 * k)) → e ≡ syndromes m ((x / 2 ^ (4 * k) % 16) * 2 ^ (4 * k))
      → s ⊕ e ≡ syndromes m (x % 2 ^ (4 * (k + 1)))
  values-more x k s e a b =
      let n : 4 + 4 * k ≡ 4 * (k + 1) = omega arith in
      ap₂ ◌⊕◌ a b ∙ sym (syndromes-sum m low high (x % 2 ^ (4 * k)) ((x / 2 ^ (4 * k) % 16) * 2 ^ (4 * k)))
      ∙ ap (syndromes m) (low-and_next x (4 * k) ∙ ap (λ (z : ℕ). x % 2 ^ z) n)

pub values-all : (m x r k : ℕ) → x < 2 ^ r → r ≤ 4 * k → syndromes m (x % 2 ^ (4 * k)) ≡ syndromes m x
values-all m x r k h l = ap (syndromes m) (mod-eq_of_lt (le_trans h (pow_mono {i = r} {j = 4 * k} l)))

abbrev pub Filled : ℕ → ℕ → List ℕ → Type 0
Filled m p sums = (k : ℕ) → k < p → get_or sums k 0 ≡ syndromes m (k % 16 * 2 ^ (4 * (k / 16)))

pub filled_more : (m p v : ℕ) (sums : List ℕ) → p < length sums → Filled m p sums → v ≡ syndromes m (p % 16 * 2 ^ (4 * (p / 16)))
    → Filled m (p + 1) (set sums p v)
filled_more m p v sums h f e =
    set_each (λ k y. k < p + 1 → y ≡ syndromes m (k % 16 * 2 ^ (4 * (k / 16)))) sums p v h (λ a. e) (λ k d a. f k (omega (arith, d)))

-- the entries behind them do not count
pub filled-all : (m r : ℕ) (sums rest : List ℕ) → r ≤ 4 * (length sums / 16) → length sums % 16 ≡ 0 → Filled m (length sums) sums → SumTable m r (sums ++ rest)
filled-all m r sums rest h z f k v l b =
    let low : (16 * k + v) % 16 ≡ v = omega arith in
    let high : (16 * k + v) / 16 ≡ k = omega arith in
    let i : 16 * k + v < length sums = omega arith in
    get_or-append sums rest 0 (16 * k + v) i ∙ f (16 * k + v) i ∙ ap₂ (λ (a b : ℕ). syndromes m (a * 2 ^ (4 * b))) low high
