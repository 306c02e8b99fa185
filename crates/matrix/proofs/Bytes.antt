-- Numbers made of bytes, the first byte lowest, and bytes that are stored side by side.
--   bit_joined_low, bit_joined_high   the bits of x + 2 ^ k * y, of which x has k bits: those of x, then those of y
--   bytes_number n f       the number whose bytes are f 0, .., f (n - 1)
--   bytes_number_bit       its bits are those of its bytes
--   stores f l a n        the list l after n stores, f k at a + k
--   stores_length, stores_at, stores_before   its length, what was stored, and what stands before that
-- Assumes nothing.
use mathlib.Core.Path.{◌≡◌, refl, sym, ap, ◌∙◌}
use mathlib.Core.List.{List}
use Prim.Native.Nat.{ℕ, zero, suc, ◌+◌, ◌*◌, ◌/◌, ◌%◌, ◌^◌, ◌≤◌, ◌<◌}
use native.Mathlib.Nat.{add_comm, mul_comm}
use native.Mathlib.Omega.{arith}
use lib.ListN.{length, get_or, set, length-set}
use lib.Pow.{low, high}
use lib.Seq.{get_or-set_other}
use Rattle.bch.proofs.Store.{set_each}
use Rattle.matrix.proofs.Bits.{bit, bit-low, bit_shr}

-- ---- two numbers joined

module _ (x y k : ℕ) (h : x < 2 ^ k) where
  high-first : x + 2 ^ k * y ≡ y * 2 ^ k + x
  high-first = add_comm x (2 ^ k * y) ∙ ap (λ (z : ℕ). z + x) (mul_comm (2 ^ k) y)

  pub bit_joined_low : (r : ℕ) → r < k → bit (x + 2 ^ k * y) r ≡ bit x r
  bit_joined_low r l =
      sym (bit-low (x + 2 ^ k * y) k r l) ∙ ap (λ (z : ℕ). bit z r) (ap (λ (z : ℕ). z % 2 ^ k) high-first ∙ low y k h)

  pub bit_joined_high : (r : ℕ) → bit (x + 2 ^ k * y) (k + r) ≡ bit y r
  bit_joined_high r =
      sym (bit_shr (x + 2 ^ k * y) k r) ∙ ap (λ (z : ℕ). bit z r) (ap (λ (z : ℕ). z / 2 ^ k) high-first ∙ high y k h)

-- ---- a number of bytes

unfoldable pub bytes_number : ℕ → (ℕ → ℕ) → ℕ
bytes_number zero f = 0
bytes_number (suc n) f = f 0 + 256 * bytes_number n (λ k. f (suc k))

pub bytes_number_bit : (n : ℕ) (f : ℕ → ℕ) → ((k : ℕ) → f k < 256) → (s i : ℕ) → s < n → i < 8 → bit (bytes_number n f) (8 * s + i) ≡ bit (f s) i
unfolding bytes_number
bytes_number_bit zero f h s i l g = absurd (omega arith)
bytes_number_bit (suc n) f h zero i l g =
    let e : 8 * 0 + i ≡ i = omega arith in
    ap (bit (bytes_number (suc n) f)) e ∙ bit_joined_low (f 0) (bytes_number n (λ k. f (suc k))) 8 (h 0) i g
bytes_number_bit (suc n) f h (suc s) i l g =
    let e : 8 * suc s + i ≡ 8 + (8 * s + i) = omega arith in
    ap (bit (bytes_number (suc n) f)) e ∙ bit_joined_high (f 0) (bytes_number n (λ k. f (suc k))) 8 (h 0) (8 * s + i)
    ∙ bytes_number_bit n (λ k. f (suc k)) (λ k. h (suc k)) s i (omega arith) g

-- ---- stores side by side

module _ (f : ℕ → ℕ) (l : List ℕ) (a : ℕ) where
  unfoldable pub stores : ℕ → List ℕ
  stores zero = l
  stores (suc n) = set (stores n) (a + n) (f n)

  pub stores_length : (n : ℕ) → length (stores n) ≡ length l
  unfolding stores
  stores_length zero = refl
  stores_length (suc n) = length-set (stores n) (a + n) (f n) ∙ stores_length n

  pub stores_at : (n : ℕ) → a + n ≤ length l → (s : ℕ) → s < n → get_or (stores n) (a + s) 0 ≡ f s
  unfolding stores
  stores_at zero h s k = absurd (omega arith)
  stores_at (suc n) h s k =
      set_each (λ (q z : ℕ). q ≡ a + s → z ≡ f s) (stores n) (a + n) (f n) (omega (arith, stores_length n))
      (λ e. ap f (let d : n ≡ s = omega arith in d))
      (λ q d e. ap (λ (z : ℕ). get_or (stores n) z 0) e ∙ stores_at n (omega arith) s (omega arith))
      (a + s) refl

  pub stores_before : (n k : ℕ) → k < a → get_or (stores n) k 0 ≡ get_or l k 0
  unfolding stores
  stores_before zero k h = refl
  stores_before (suc n) k h = get_or-set_other (stores n) (a + n) k (f n) 0 (λ e. omega arith) ∙ stores_before n k h
