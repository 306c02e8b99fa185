-- What clearing leaves byte by byte is what elimination asks for bit by bit.
--   from-before, from-within, from-after   the test for the h rows from lo on
--   cleared-entry                          the bits after the rows before lo, and then those from lo + h on, took rows of the table
-- Assumes nothing.
use mathlib.Core.Path.{◌≡◌, sym, ap, ap₂, ◌∙◌}
use mathlib.Core.Bool.{Bool, true, false, cond}
use mathlib.Core.List.{List}
use Prim.Native.Nat.{ℕ, suc, ◌+◌, ◌-◌, ◌*◌, ◌/◌, ◌%◌, ◌^◌, ◌≤◌, ◌<◌}
use native.Mathlib.Nat.{mod-lt}
use native.Mathlib.Decide.{dec_lt}
use native.Mathlib.Omega.{arith}
use borrow.Author.Tests.{lt-ltb, le-ltb}
use lib.Bits.{bit_xor}
use lib.Dec.{ltb}
use lib.ListN.{get_or}
use lib.Pow.{pow_pos}
use Rattle.staircase.specs.Lists.{bit_sum, sum_bits}
use Rattle.staircase.specs.Square.{digit, from_to, cleared_entry}
use Rattle.staircase.proofs.Matrix.{sum_bits-same}
use Rattle.staircase.proofs.Steps.{digit_low}
use Rattle.matrix.proofs.Bits.{bit-xor}
use Rattle.matrix_elimination.specs.Steps.{bit_at}
use Rattle.matrix_elimination.specs.Cleared.{RowsCleared}
use Rattle.matrix_elimination.proofs.Clearing.{named-below}
use Rattle.matrix_elimination.proofs.Doubling.{SumsOf}

-- ---- the rows around those that stay

pub from-before : (lo h q : ℕ) → q < lo → from_to lo h q ≡ false
unfolding from_to
from-before lo h q l = ap (λ (y : Bool). cond y false (ltb q (lo + h))) (lt-ltb q lo l)

pub from-within : (lo h q : ℕ) → lo ≤ q → q < lo + h → from_to lo h q ≡ true
unfolding from_to
from-within lo h q l m = ap₂ (λ (y z : Bool). cond y false z) (le-ltb q lo l) (lt-ltb q (lo + h) m)

pub from-after : (lo h q : ℕ) → lo + h ≤ q → from_to lo h q ≡ false
unfolding from_to
from-after lo h q l = ap₂ (λ (y z : Bool). cond y false z) (le-ltb q lo (omega arith)) (le-ltb q (lo + h) l)

-- m became m₁ and then m₂
module _ (n w b lo h : ℕ) (m m₁ m₂ : List ℕ) (hb : b < w) (few : h ≤ 8) (room : lo + h ≤ n)
    (one : RowsCleared n w b h 0 lo m m₁) (two : RowsCleared n w b h (lo + h) n m₁ m₂) where
  -- byte c of row k, where it takes a row of the table
  abbrev taken : ℕ → ℕ → ℕ
  taken k c = bit_xor (get_or m (k * w + c) 0) (get_or m ((n + get_or m (k * w + b) 0 % 2 ^ h) * w + c) 0)

  before-byte : (k c : ℕ) → k < lo → c < w → get_or m₂ (k * w + c) 0 ≡ taken k c
  before-byte k c l hc = two.before k c (omega (arith, l)) hc ∙ one.within k c (omega arith) l hc

  kept_byte : (k c : ℕ) → lo ≤ k → k < lo + h → c < w → get_or m₂ (k * w + c) 0 ≡ get_or m (k * w + c) 0
  kept_byte k c l g hc = two.before k c g hc ∙ one.after k c l (omega (arith, g, room)) hc

  after-byte : (k c : ℕ) → lo + h ≤ k → k < n → c < w → get_or m₂ (k * w + c) 0 ≡ taken k c
  after-byte k c l hk hc =
      let x : ℕ = get_or m₁ (k * w + b) 0 % 2 ^ h in
      let hx : x < 256 = named-below (get_or m₁ (k * w + b) 0) h few in
      two.within k c l hk hc
      ∙ ap₂ bit_xor (one.after k c (omega (arith, l)) (omega (arith, hk)) hc)
      (one.after (n + x) c (omega (arith, room)) (omega (arith, hx)) hc
      ∙ ap (λ (z : ℕ). get_or m ((n + z % 2 ^ h) * w + c) 0) (one.after k b (omega (arith, l)) (omega (arith, hk)) hb))

  module _ (start : lo ≡ 8 * b) (table : SumsOf n w m lo h) where
    -- digit q of the byte that names the row
    named : (k q : ℕ) → q < h → digit (get_or m (k * w + b) 0 % 2 ^ h) q ≡ bit_at m w k (lo + q)
    unfolding bit_at
    named k q l =
        let d : ℕ = h - q - 1 in
        let e : h ≡ suc d + q = omega arith in
        ap (λ (z : ℕ). digit (get_or m (k * w + b) 0 % 2 ^ z) q) e ∙ digit_low (get_or m (k * w + b) 0) d q
        ∙ ap₂ (λ (u v : ℕ). digit (get_or m (k * w + u) 0) v) (omega (arith, few, l, start)) (omega (arith, few, l, start))

    -- a bit of what a row takes
    taken_entry : (k j : ℕ) → j < 8 * w → digit (taken k (j / 8)) (j % 8)
        ≡ bit_sum (bit_at m w k j) (sum_bits h (λ q. bit_at m w k (lo + q) * bit_at m w (lo + q) j))
    unfolding bit_at
    taken_entry k j hj =
        let x : ℕ = get_or m (k * w + b) 0 % 2 ^ h in
        bit-xor (get_or m (k * w + j / 8) 0) (get_or m ((n + x) * w + j / 8) 0) (j % 8)
        ∙ ap (bit_sum (bit_at m w k j))
        (table x j (mod-lt (get_or m (k * w + b) 0) (pow_pos h)) hj
        ∙ sum_bits-same h (λ q. digit x q * bit_at m w (lo + q) j) (λ q. bit_at m w k (lo + q) * bit_at m w (lo + q) j)
        (λ q l. ap (λ (u : ℕ). u * bit_at m w (lo + q) j) (named k q l)))

    pub cleared-entry : (k j : ℕ) → k < n → j < 8 * w → bit_at m₂ w k j ≡ cleared_entry lo h (bit_at m w) (bit_at m w) k j
    unfolding bit_at cleared_entry
    cleared-entry k j hk hj = go (dec_lt k lo) (dec_lt k (lo + h))
      where
        old : ℕ
        old = bit_at m w k j

        new : ℕ
        new = bit_sum (bit_at m w k j) (sum_bits h (λ q. bit_at m w k (lo + q) * bit_at m w (lo + q) j))

        hc : j / 8 < w
        hc = omega (arith, hj)

        go : Dec (k < lo) → Dec (k < lo + h) → digit (get_or m₂ (k * w + j / 8) 0) (j % 8) ≡ cond (from_to lo h k) old new
        go (yes l) d =
            ap (λ (z : ℕ). digit z (j % 8)) (before-byte k (j / 8) l hc) ∙ taken_entry k j hj
            ∙ sym (ap (λ (z : Bool). cond z old new) (from-before lo h k l))
        go (no l) (yes g) =
            ap (λ (z : ℕ). digit z (j % 8)) (kept_byte k (j / 8) (omega arith) g hc)
            ∙ sym (ap (λ (z : Bool). cond z old new) (from-within lo h k (omega arith) g))
        go (no l) (no g) =
            ap (λ (z : ℕ). digit z (j % 8)) (after-byte k (j / 8) (omega arith) hk hc) ∙ taken_entry k j hj
            ∙ sym (ap (λ (z : Bool). cond z old new) (from-after lo h k (omega arith)))
