-- Packed rows and planes.
--   packed_bit-at, plane_bit-at, inverse_entry-at, padded_entry-at   a bit by its byte
--   packed_bit-zeros          the bits of zeros
--   packed_bit-add            a bit added to a packed row
--   plane-end, plane-length  a plane lies within the whole; its length where it is lent
-- Assumes nothing.
use mathlib.Core.Path.{◌≡◌, refl, sym, ap, ◌∙◌}
use mathlib.Core.Bool.{Bool, true, false, cond}
use mathlib.Core.List.{List}
use Prim.Native.Nat.{ℕ, ◌+◌, ◌-◌, ◌*◌, ◌/◌, ◌%◌, ◌^◌, ◌≤◌, ◌<◌}
use native.Mathlib.Nat.{mod-lt, mul_comm, add-sub_cancel_left}
use native.Mathlib.Omega.{arith}
use lib.Bits.{bit_xor}
use lib.Dec.{eqb, ltb}
use lib.ListN.{length, get_or, set, take, drop, replicate}
use borrow.Author.Tests.{ne_eqb}
use borrow.Rule.Slice.PartMut.{mid_len}
use Rattle.bch.proofs.Store.{zeros-at, set_each}
use Rattle.staircase.specs.Lists.{bit_sum}
use Rattle.staircase.specs.System.{row_bytes, inverse_entry}
use Rattle.staircase.proofs.Matrix.{bit_sum-zero}
use Rattle.staircase.proofs.Bounds.{stretch-end}
use Rattle.staircase.proofs.Entries.{eqb_iff}
use Rattle.matrix.specs.Packed.{packed_bit, plane_bit, padded_entry}
use Rattle.matrix.proofs.Bits.{bit, bit-lt, bit-zero, bit_added}

-- ---- a bit by its byte

byte_of : (b r : ℕ) → r < 8 → ((8 * b + r) / 8 ≡ b) × ((8 * b + r) % 8 ≡ r)
byte_of b r h = (omega arith, omega arith)

pub packed_bit-at : (row : List ℕ) (b r : ℕ) → r < 8 → packed_bit row (8 * b + r) ≡ bit (get_or row b 0) r
unfolding packed_bit
packed_bit-at row b r h = let e = byte_of b r h in rw (e.0, e.1)

pub plane_bit-at : (t : List ℕ) (n b r x : ℕ) → r < 8 → plane_bit t n (8 * b + r) x ≡ bit (get_or t (b * n + x) 0) r
unfolding plane_bit
plane_bit-at t n b r x h = let e = byte_of b r h in rw (e.0, e.1)

pub inverse_entry-at : (w : List ℕ) (n i b r : ℕ) → r < 8 → inverse_entry w n i (8 * b + r) ≡ bit (get_or w (i * row_bytes n + b) 0) r
unfolding inverse_entry
inverse_entry-at w n i b r h = let e = byte_of b r h in rw (e.0, e.1)

pub padded_entry-at : (w : List ℕ) (n i b r : ℕ) → r < 8 → padded_entry w n i (8 * b + r) ≡ bit (cond (ltb i n) (get_or w (i * row_bytes n + b) 0) 0) r
padded_entry-at w n i b r h = go (ltb i n)
  where
    go : (z : Bool) → cond z (inverse_entry w n i (8 * b + r)) 0 ≡ bit (cond z (get_or w (i * row_bytes n + b) 0) 0) r
    go true = inverse_entry-at w n i b r h
    go false = sym (bit-zero r)

pub packed_bit-zeros : (n k : ℕ) → packed_bit (replicate n 0) k ≡ 0
unfolding packed_bit
packed_bit-zeros n k = ap (λ (z : ℕ). bit z (k % 8)) (zeros-at n (k / 8)) ∙ bit-zero (k % 8)

-- v is added to bit k, and j is any bit
pub packed_bit-add : (row : List ℕ) (k v : ℕ) → k / 8 < length row → v < 2 → (j : ℕ)
    → packed_bit (set row (k / 8) (bit_xor (get_or row (k / 8) 0) (v * 2 ^ (k % 8) % 2 ^ 8))) j ≡ bit_sum (packed_bit row j) (cond (eqb k j) v 0)
unfolding packed_bit
packed_bit-add row k v in_row small j =
    set_each (λ (q z : ℕ). j / 8 ≡ q → bit z (j % 8) ≡ bit_sum (bit (get_or row q 0) (j % 8)) (cond (eqb k j) v 0)) row (k / 8)
    (bit_xor (get_or row (k / 8) 0) (v * 2 ^ (k % 8) % 2 ^ 8)) in_row
    (λ e.
    bit_added 8 (get_or row (k / 8) 0) v (k % 8) (j % 8) small (mod-lt k (omega arith))
    ∙ ap (λ (z : Bool). bit_sum (bit (get_or row (k / 8) 0) (j % 8)) (cond z v 0)) (eqb_iff (k % 8) (j % 8) k j (λ q. omega arith) (ap (λ (z : ℕ). z % 8))))
    (λ q d e.
    sym (ap (λ (z : Bool). bit_sum (bit (get_or row q 0) (j % 8)) (cond z v 0)) (ne_eqb k j (λ i. d (omega arith)))
    ∙ bit_sum-zero (bit (get_or row q 0) (j % 8)) (bit-lt (get_or row q 0) (j % 8))))
    (j / 8) refl

-- ---- places

-- plane b of m planes of n bytes
pub plane_end : (b n m : ℕ) → b < m → b * n + n ≤ n * m
plane_end b n m h = omega (arith, stretch-end b m n h, mul_comm m n)

-- lent as a part it has n bytes
pub plane_length : (t : List ℕ) (b n m : ℕ) → b < m → length t ≡ n * m → length (take (b * n + n - b * n) (drop (b * n) t)) ≡ n
plane_length t b n m h e = mid_len (b * n) (b * n + n) t (omega (arith, plane_end b n m h)) ∙ add-sub_cancel_left (b * n) n
