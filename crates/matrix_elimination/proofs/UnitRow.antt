-- The right half of row i is made that of the identity: rb bytes are made 0, and one is written.
--   unit-room, unit_place    the bytes and the one byte are within the matrix
--   unit-length              the length stays
--   unit_left, unit-right    the bits of both halves
--   unit_next                the rows of the identity, after one more
-- Assumes nothing.
use mathlib.Core.Path.{◌≡◌, refl, sym, ap, ap₂, ◌∙◌}
use mathlib.Core.Bool.{Bool, cond}
use mathlib.Core.List.{List}
use Prim.Native.Nat.{ℕ, ◌+◌, ◌*◌, ◌/◌, ◌%◌, ◌^◌, ◌≤◌, ◌<◌}
use native.Mathlib.Decide.{ℕ_discrete, dec_lt}
use native.Mathlib.Omega.{arith}
use borrow.Author.Tests.{eq-eqb, ne_eqb}
use lib.Bits.{xor_zero_l}
use lib.Dec.{eqb}
use lib.ListN.{length, get_or, set, take, drop, replicate, length-set}
use lib.Seq.{get_or-set_same, get_or-set_other}
use Rattle.staircase.specs.Lists.{bit_sum}
use Rattle.staircase.specs.System.{identity}
use Rattle.staircase.specs.Square.{digit}
use Rattle.staircase.proofs.Bounds.{stretch-end}
use Rattle.staircase.proofs.Matrix.{zero-bit_sum}
use Rattle.staircase.proofs.Square.{identity-bit, identity_other}
use Rattle.matrix.proofs.Bits.{bit-zero, bit_added}
use Rattle.matrix_elimination.specs.Steps.{bit_at}
use Rattle.matrix_elimination.proofs.PartBack.{back, back_length, back_before, back_within, back_after, zeros-length, zeros-byte}

-- bit r of a byte with a one at s alone
one_at : (s r : ℕ) → s < 8 → digit (1 * 2 ^ s % 2 ^ 8) r ≡ identity s r
one_at s r l =
    ap (λ (z : ℕ). digit z r) (sym (xor_zero_l (1 * 2 ^ s % 2 ^ 8)))
    ∙ bit_added 8 0 1 s r (omega arith) l
    ∙ ap (λ (z : ℕ). bit_sum z (identity s r)) (bit-zero r) ∙ zero-bit_sum (identity s r) (identity-bit s r)

-- a row has w bytes, a half of it rb; from place s on k bytes were lent and came back as ys
module _ (m ys : List ℕ) (n w rb i s k : ℕ) (hi : i < n) (ew : w ≡ 2 * rb) (wide : n ≤ 8 * rb) (long : length m ≡ (n + 256) * w)
    (es : s ≡ i * w + rb) (ek : k ≡ rb) where
  pub unit-room : s + k ≤ length m
  unit-room = omega (arith, long, ew, es, ek, stretch-end i (n + 256) w (omega (arith, hi)))

  module _ (zero : ys ≡ replicate (length (take k (drop s m))) 0) where
    part : length ys ≡ k
    part = zeros-length m ys s k unit-room zero

    pub unit_place : s + i / 8 < length (back m ys s k)
    unit_place = omega (arith, back_length m ys s k unit-room part, unit-room, ek, hi, wide)

    abbrev new : List ℕ
    new = set (back m ys s k) (s + i / 8) (1 * 2 ^ (i % 8) % 2 ^ 8)

    pub unit-length : length (set (back m ys s k) (s + i / 8) (1 * 2 ^ (i % 8) % 2 ^ 8)) ≡ length m
    unit-length = length-set (back m ys s k) (s + i / 8) (1 * 2 ^ (i % 8) % 2 ^ 8) ∙ back_length m ys s k unit-room part

    other : (q : ℕ) → (q ≡ s + i / 8 → ⊥) → get_or new q 0 ≡ get_or (back m ys s k) q 0
    other q d = get_or-set_other (back m ys s k) (s + i / 8) q (1 * 2 ^ (i % 8) % 2 ^ 8) 0 d

    before : (q : ℕ) → q < s → get_or new q 0 ≡ get_or m q 0
    before q h = other q (λ d. omega (arith, d, h)) ∙ back_before m ys s k unit-room part q h

    after : (q : ℕ) → s + k ≤ q → get_or new q 0 ≡ get_or m q 0
    after q h = other q (λ d. omega (arith, d, h, hi, wide, ek)) ∙ back_after m ys s k unit-room part q h

    -- byte c of another row, or of the left half
    away : (r c : ℕ) → c < w → (r ≡ i → c < rb) → get_or new (r * w + c) 0 ≡ get_or m (r * w + c) 0
    away r c hc h = go (dec_lt r i) (dec_lt i r)
      where
        go : Dec (r < i) → Dec (i < r) → get_or new (r * w + c) 0 ≡ get_or m (r * w + c) 0
        go (yes a) d = before (r * w + c) (omega (arith, stretch-end r i w a, hc, es))
        go (no a) (yes b) = after (r * w + c) (omega (arith, stretch-end i r w b, es, ek, ew))
        go (no a) (no b) =
            let e : r ≡ i = omega arith in
            let f : r * w ≡ i * w = ap (λ (z : ℕ). z * w) e in
            before (r * w + c) (omega (arith, f, h e, es))

    pub unit_left : (r j : ℕ) → r < n → j < 8 * rb → bit_at (set (back m ys s k) (s + i / 8) (1 * 2 ^ (i % 8) % 2 ^ 8)) w r j ≡ bit_at m w r j
    unfolding bit_at
    unit_left r j hr hj = ap (λ (z : ℕ). digit z (j % 8)) (away r (j / 8) (omega (arith, hj, ew)) (λ e. omega (arith, hj)))

    -- byte c of the right half of row i
    here : (c j : ℕ) → c < rb → c ≡ j / 8 → digit (get_or new (s + c) 0) (j % 8) ≡ identity i j
    here c j hc ec = go (ℕ_discrete c (i / 8))
      where
        go : Dec (c ≡ i / 8) → digit (get_or new (s + c) 0) (j % 8) ≡ identity i j
        go (no d) =
            ap (λ (z : ℕ). digit z (j % 8))
            (other (s + c) (λ e. d (omega (arith, e)))
            ∙ back_within m ys s k unit-room part c (omega (arith, hc, ek)) ∙ zeros-byte m ys s k unit-room zero c)
            ∙ bit-zero (j % 8)
            ∙ sym (identity_other i j (λ e. d (omega (arith, e, ec))))
        go (yes d) =
            ap (λ (z : ℕ). digit (get_or new (s + z) 0) (j % 8)) d
            ∙ ap (λ (z : ℕ). digit z (j % 8)) (get_or-set_same (back m ys s k) (s + i / 8) (1 * 2 ^ (i % 8) % 2 ^ 8) 0 unit_place)
            ∙ one_at (i % 8) (j % 8) (omega arith)
            ∙ same (ℕ_discrete i j)
          where
            same : Dec (i ≡ j) → identity (i % 8) (j % 8) ≡ identity i j
            same (yes g) =
                ap (λ (z : Bool). cond z 1 0) (eq-eqb (i % 8) (j % 8) (omega (arith, g))) ∙ sym (ap (λ (z : Bool). cond z 1 0) (eq-eqb i j g))
            same (no g) = identity_other (i % 8) (j % 8) (λ e. g (omega (arith, d, ec, e))) ∙ sym (identity_other i j g)

    pub unit-right : (r j : ℕ) → r < n → j < 8 * rb
        → bit_at (set (back m ys s k) (s + i / 8) (1 * 2 ^ (i % 8) % 2 ^ 8)) w r (8 * rb + j)
        ≡ cond (eqb r i) (identity r j) (bit_at m w r (8 * rb + j))
    unfolding bit_at
    unit-right r j hr hj = go (ℕ_discrete r i)
      where
        old : ℕ
        old = bit_at m w r (8 * rb + j)

        go : Dec (r ≡ i) → digit (get_or new (r * w + (8 * rb + j) / 8) 0) ((8 * rb + j) % 8) ≡ cond (eqb r i) (identity r j) old
        go (yes e) =
            let f : r * w ≡ i * w = ap (λ (z : ℕ). z * w) e in
            ap₂ (λ (x y : ℕ). digit (get_or new x 0) y) (omega (arith, f, es)) (omega arith)
            ∙ here (j / 8) j (omega (arith, hj)) refl
            ∙ ap (λ (z : ℕ). identity z j) (sym e)
            ∙ sym (ap (λ (z : Bool). cond z (identity r j) old) (eq-eqb r i e))
        go (no d) =
            ap (λ (z : ℕ). digit z ((8 * rb + j) % 8)) (away r ((8 * rb + j) / 8) (omega (arith, hj, ew)) (λ e. absurd (d e)))
            ∙ sym (ap (λ (z : Bool). cond z (identity r j) old) (ne_eqb r i d))

-- rows of bits, old and new: the first i are the identity's, and row i was made so
pub unit_next : (n i c : ℕ) (old new : ℕ → ℕ → ℕ) → i < n → ((k j : ℕ) → k < i → j < c → old k j ≡ identity k j)
    → ((k j : ℕ) → k < n → j < c → new k j ≡ cond (eqb k i) (identity k j) (old k j)) → (k j : ℕ) → k < i + 1 → j < c → new k j ≡ identity k j
unit_next n i c old new hi before f k j hk hj = f k j (omega (arith, hk, hi)) hj ∙ go (ℕ_discrete k i)
  where
    go : Dec (k ≡ i) → cond (eqb k i) (identity k j) (old k j) ≡ identity k j
    go (yes e) = ap (λ (z : Bool). cond z (identity k j) (old k j)) (eq-eqb k i e)
    go (no d) = ap (λ (z : Bool). cond z (identity k j) (old k j)) (ne_eqb k i d) ∙ before k j (omega (arith, hk, d)) hj
