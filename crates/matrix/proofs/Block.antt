-- A block of eight rows of eight bits in a number of 64 bits, a byte a row, transposed by three exchanges of bits: rows become columns.
--   exchange d mask x           the bits of x under the mask and those d places higher change places
--   exchange_bit                what stands at bit k then
--   transposed, transposed-bit  the three exchanges: bit (s, r) is what bit (r, s) was
--   agree         two tables that are equal agree below their length
--   Loaded, loaded_more, loaded_all   a block of which r rows are there
-- Assumes nothing.
use mathlib.Core.Path.{◌≡◌, refl, sym, ap, ap₂, ◌∙◌}
use mathlib.Core.Bool.{Bool, true, false, cond}
use mathlib.Core.List.{List}
use Prim.Native.Nat.{ℕ, ◌+◌, ◌-◌, ◌*◌, ◌/◌, ◌%◌, ◌^◌, ◌≤◌, ◌<◌}
use native.Mathlib.Nat.{mul-zero}
use native.Mathlib.Omega.{arith}
use lib.Bits.{bit_and, bit_xor}
use lib.Dec.{eqb, ltb}
use lib.ListN.{get_or}
use borrow.Author.Tests.{lt-ltb, ltb-true, ltb-false}
use Rattle.bch.proofs.Sum.{bit_ind}
use Rattle.staircase.specs.Lists.{bit_sum, tabulate}
use Rattle.staircase.proofs.Matrix.{bit_sum-zero, zero-bit_sum}
use Rattle.staircase.proofs.Tabulate.{tabulate-at}
use Rattle.matrix.proofs.Bits.{bit, bit-lt, bit_above, bit-xor, bit_mask, bit_shr, bit_shl}

-- ---- one exchange

unfoldable pub exchange : ℕ → ℕ → ℕ → ℕ
exchange d mask x = bit_xor (bit_xor x (bit_and (bit_xor x (x / 2 ^ d)) mask)) (bit_and (bit_xor x (x / 2 ^ d)) mask * 2 ^ d % 2 ^ 64)

-- bit k of the mask moved up
higher : ℕ → ℕ → ℕ → ℕ
higher d mask k = cond (ltb k d) 0 (bit mask (k - d))

-- where bit k comes from
source : ℕ → ℕ → ℕ → ℕ
source d mask k = cond (eqb (bit mask k) 1) (d + k) (cond (eqb (higher d mask k) 1) (k - d) k)

choose : (x y z m h : ℕ) → x < 2 → y < 2 → z < 2 → m < 2 → h < 2 → m * h ≡ 0
    → bit_sum (bit_sum x (bit_sum x y * m)) (bit_sum z x * h) ≡ cond (eqb m 1) y (cond (eqb h 1) z x)
choose x y z m h lx ly lz lm lh =
    bit_ind (λ (m : ℕ). m * h ≡ 0 → bit_sum (bit_sum x (bit_sum x y * m)) (bit_sum z x * h) ≡ cond (eqb m 1) y (cond (eqb h 1) z x))
    (bit_ind (λ (h : ℕ). 0 * h ≡ 0 → bit_sum (bit_sum x (bit_sum x y * 0)) (bit_sum z x * h) ≡ cond (eqb 0 1) y (cond (eqb h 1) z x))
    (λ e. omega arith) (λ e. omega arith) h lh)
    (bit_ind (λ (h : ℕ). 1 * h ≡ 0 → bit_sum (bit_sum x (bit_sum x y * 1)) (bit_sum z x * h) ≡ cond (eqb 1 1) y (cond (eqb h 1) z x))
    (λ e. omega arith) (λ e. absurd (omega arith)) h lh) m lm

module _ (d mask x k : ℕ) (in-word : k < 64) (apart : bit mask k * higher d mask k ≡ 0) where
  moved : ℕ
  moved = bit_and (bit_xor x (x / 2 ^ d)) mask

  moved-bit : (j : ℕ) → bit moved j ≡ bit_sum (bit x j) (bit x (d + j)) * bit mask j
  unfolding moved
  moved-bit j =
      bit_mask (bit_xor x (x / 2 ^ d)) mask j ∙ ap (λ (z : ℕ). z * bit mask j) (bit-xor x (x / 2 ^ d) j ∙ ap (bit_sum (bit x j)) (bit_shr x d j))

  higher_bit : cond (ltb k d) 0 (bit moved (k - d)) ≡ bit_sum (bit x (k - d)) (bit x k) * higher d mask k
  unfolding higher
  higher_bit = go (ltb k d) refl
    where
      go : (z : Bool) → ltb k d ≡ z → cond z 0 (bit moved (k - d)) ≡ bit_sum (bit x (k - d)) (bit x k) * cond z 0 (bit mask (k - d))
      go true e = sym (mul-zero (bit_sum (bit x (k - d)) (bit x k)))
      go false e =
          let s : d + (k - d) ≡ k = omega (arith, ltb-false k d e) in
          moved-bit (k - d) ∙ ap (λ (z : ℕ). bit_sum (bit x (k - d)) (bit x z) * bit mask (k - d)) s

  higher_lt : higher d mask k < 2
  unfolding higher
  higher_lt = go (ltb k d)
    where
      go : (z : Bool) → cond z 0 (bit mask (k - d)) < 2
      go true = omega arith
      go false = bit-lt mask (k - d)

  chosen : (m h : Bool) → cond m (bit x (d + k)) (cond h (bit x (k - d)) (bit x k)) ≡ bit x (cond m (d + k) (cond h (k - d) k))
  chosen true h = refl
  chosen false true = refl
  chosen false false = refl

  exchange_bit : bit (exchange d mask x) k ≡ bit x (source d mask k)
  unfolding exchange moved source
  exchange_bit =
      bit-xor (bit_xor x moved) (moved * 2 ^ d % 2 ^ 64) k
      ∙ ap₂ bit_sum (bit-xor x moved k ∙ ap (bit_sum (bit x k)) (moved-bit k)) (bit_shl moved d 64 k in-word ∙ higher_bit)
      ∙ choose (bit x k) (bit x (d + k)) (bit x (k - d)) (bit mask k) (higher d mask k)
      (bit-lt x k) (bit-lt x (d + k)) (bit-lt x (k - d)) (bit-lt mask k) higher_lt apart
      ∙ chosen (eqb (bit mask k) 1) (eqb (higher d mask k) 1)

-- ---- the three

-- the rows' bits change places with the columns': those that differ by 1, by 2, by 4
abbrev mask₁ : ℕ
mask₁ = 0x00AA00AA00AA00AA

abbrev mask₂ : ℕ
mask₂ = 0x0000CCCC0000CCCC

abbrev mask₄ : ℕ
mask₄ = 0x00000000F0F0F0F0

unfoldable pub transposed : ℕ → ℕ
transposed x = exchange 28 mask₄ (exchange 14 mask₂ (exchange 7 mask₁ x))

-- two tables that are equal agree below their length
pub agree : (n : ℕ) (f g : ℕ → ℕ) → tabulate n f ≡ tabulate n g → (k : ℕ) → k < n → f k ≡ g k
agree n f g e k h = sym (tabulate-at n f 0 k h) ∙ ap (λ (l : List ℕ). get_or l k 0) e ∙ tabulate-at n g 0 k h

-- 0 where the mask and what is d places higher are apart, and bit k comes from within the number
unsound : ℕ → ℕ → ℕ → ℕ
unsound d mask k = bit mask k * higher d mask k + source d mask k / 64

-- the check computes each table
sound₁ : (k : ℕ) → k < 64 → unsound 7 mask₁ k ≡ 0
unfolding higher source unsound tabulate
sound₁ = agree 64 (unsound 7 mask₁) (λ k. 0) refl

sound₂ : (k : ℕ) → k < 64 → unsound 14 mask₂ k ≡ 0
unfolding higher source unsound tabulate
sound₂ = agree 64 (unsound 14 mask₂) (λ k. 0) refl

sound₄ : (k : ℕ) → k < 64 → unsound 28 mask₄ k ≡ 0
unfolding higher source unsound tabulate
sound₄ = agree 64 (unsound 28 mask₄) (λ k. 0) refl

across : (k : ℕ) → k < 64 → source 7 mask₁ (source 14 mask₂ (source 28 mask₄ k)) ≡ 8 * (k % 8) + k / 8
unfolding higher source tabulate
across = agree 64 (λ k. source 7 mask₁ (source 14 mask₂ (source 28 mask₄ k))) (λ k. 8 * (k % 8) + k / 8) refl

exchange_step : (d mask x k : ℕ) → k < 64 → unsound d mask k ≡ 0 → (source d mask k < 64) × (bit (exchange d mask x) k ≡ bit x (source d mask k))
unfolding unsound
exchange_step d mask x k h e = (omega arith, exchange_bit d mask x k h (omega arith))

pub transposed_bit : (x k : ℕ) → k < 64 → bit (transposed x) k ≡ bit x (8 * (k % 8) + k / 8)
unfolding transposed
transposed_bit x k h =
    let a = exchange_step 28 mask₄ (exchange 14 mask₂ (exchange 7 mask₁ x)) k h (sound₄ k h) in
    let b = exchange_step 14 mask₂ (exchange 7 mask₁ x) (source 28 mask₄ k) a.0 (sound₂ (source 28 mask₄ k) a.0) in
    let c = exchange_step 7 mask₁ x (source 14 mask₂ (source 28 mask₄ k)) b.0 (sound₁ (source 14 mask₂ (source 28 mask₄ k)) b.0) in
    a.1 ∙ b.1 ∙ c.1 ∙ ap (bit x) (across k h)

-- ---- a block, loaded row by row: the bits of the rows below r are there, the others are 0

abbrev pub Loaded : (ℕ → ℕ) → ℕ → ℕ → Type 0
Loaded v q r = (k : ℕ) → k < 64 → bit q k ≡ cond (ltb k (8 * r)) (bit (v (k / 8)) (k % 8)) 0

pub loaded_more : (v : ℕ → ℕ) (q r u : ℕ) → u ≡ v r → u < 256 → Loaded v q r → Loaded v (bit_xor q (u * 2 ^ (8 * r) % 2 ^ 64)) (r + 1)
loaded_more v q r u d h g k l =
    bit-xor q (u * 2 ^ (8 * r) % 2 ^ 64) k ∙ ap₂ bit_sum (g k l) (bit_shl u (8 * r) 64 k l) ∙ before (ltb k (8 * r)) refl
  where
    after : 8 * r ≤ k → (z : Bool) → ltb k (8 * (r + 1)) ≡ z → bit_sum 0 (bit u (k - 8 * r)) ≡ cond z (bit (v (k / 8)) (k % 8)) 0
    after m true e =
        let i : k / 8 ≡ r = omega (arith, ltb-true k (8 * (r + 1)) e) in
        let j : k - 8 * r ≡ k % 8 = omega arith in
        zero-bit_sum (bit u (k - 8 * r)) (bit-lt u (k - 8 * r)) ∙ rw (j, i, d)
    after m false e =
        ap (bit_sum 0) (bit_above u 8 (k - 8 * r) h (omega (arith, ltb-false k (8 * (r + 1)) e)))

    before : (z : Bool) → ltb k (8 * r) ≡ z
        → bit_sum (cond z (bit (v (k / 8)) (k % 8)) 0) (cond z 0 (bit u (k - 8 * r))) ≡ cond (ltb k (8 * (r + 1))) (bit (v (k / 8)) (k % 8)) 0
    before true e =
        rw (lt-ltb k (8 * (r + 1)) (omega (arith, ltb-true k (8 * r) e))) (bit_sum-zero (bit (v (k / 8)) (k % 8)) (bit-lt (v (k / 8)) (k % 8)))
    before false e = after (ltb-false k (8 * r) e) (ltb k (8 * (r + 1))) refl

pub loaded_all : (v : ℕ → ℕ) (q r s : ℕ) → r < 8 → s < 8 → Loaded v q 8 → bit q (8 * r + s) ≡ bit (v r) s
loaded_all v q r s h l g =
    let i : (8 * r + s) / 8 ≡ r = omega arith in
    let j : (8 * r + s) % 8 ≡ s = omega arith in
    g (8 * r + s) (omega arith) ∙ rw (lt-ltb (8 * r + s) (8 * 8) (omega arith), i, j)
