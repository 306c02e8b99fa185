-- Rows of w bits in the bits of numbers: bit i of number k is bit k of row i. Row i is the stretch of w bits from i * w on.
--   Packs rows w k i x   x holds bit k of row i, of row i + 1, .., the lowest bit first
--   packs-none           behind the last row it is 0
--   packs-more           a row before them: twice the number, and the row's bit
--   packs_eight          eight rows in one expression
--   EightBits rows w k   bit k of each of the rows 0 to 7 is below 2
--   eight-bits           it is, in rows of bits
--   doubled_below        a bit more in each number
-- Assumes nothing.
use mathlib.Core.Path.{◌≡◌, refl, sym, ap, ◌∙◌}
use mathlib.Core.List.{List}
use Prim.Native.Nat.{ℕ, zero, suc, ◌+◌, ◌*◌, ◌/◌, ◌%◌, ◌^◌, ◌≤◌, ◌<◌}
use native.Mathlib.Nat.{div-one, mul-le-mul_right}
use native.Mathlib.Decide.{dec_lt}
use native.Mathlib.Omega.{arith}
use lib.ListN.{length, get_or, get_or-eq_default}
use Rattle.bch.specs.Polynomial.{Bits}
use Rattle.matrix.proofs.Bits.{bit, bit-zero, bit_shr}

-- bit j of x is bit k of row i + j
abbrev pub Packs : List ℕ → ℕ → ℕ → ℕ → ℕ → Type 0
Packs rows w k i x = (j : ℕ) → bit x j ≡ get_or rows ((i + j) * w + k) 0

pub packs-none : (rows : List ℕ) (w k i x : ℕ) → length rows ≡ i * w → x ≡ 0 → Packs rows w k i x
packs-none rows w k i x long e j =
    let h : i * w ≤ (i + j) * w = mul-le-mul_right w (omega arith) in
    ap (λ (z : ℕ). bit z j) e ∙ bit-zero j ∙ sym (get_or-eq_default rows 0 {n = (i + j) * w + k} (omega arith))

-- y is twice x and the bit v of row i, and x holds the rows from n on
pub packs-more : (rows : List ℕ) (w k i n x v y : ℕ) → Bits rows → v ≡ get_or rows (i * w + k) 0 → n ≡ i + 1 → y ≡ 2 * x + v → Packs rows w k n x
    → Packs rows w k i y
packs-more rows w k i n x v y bits e next sum p zero =
    let low : y % 2 ≡ v = omega (arith, bits (i * w + k)) in
    let here : i ≡ i + 0 = omega arith in
    ap (λ (z : ℕ). z % 2) (div-one y) ∙ low ∙ e ∙ ap (λ (z : ℕ). get_or rows (z * w + k) 0) here
packs-more rows w k i n x v y bits e next sum p (suc j) =
    let half : y / 2 ≡ x = omega (arith, bits (i * w + k)) in
    let up : suc j ≡ 1 + j = omega arith in
    let there : n + j ≡ i + suc j = omega arith in
    ap (bit y) up ∙ sym (bit_shr y 1 j) ∙ ap (λ (z : ℕ). bit z j) half ∙ p j ∙ ap (λ (z : ℕ). get_or rows (z * w + k) 0) there

pub packs_eight : (rows : List ℕ) (w k : ℕ) → length rows ≡ 8 * w → Bits rows
    → Packs rows w k 0 (2 * (2 * (2 * (2 * (2 * (2 * (2 * get_or rows (7 * w + k) 0 + get_or rows (6 * w + k) 0) + get_or rows (5 * w + k) 0)
    + get_or rows (4 * w + k) 0) + get_or rows (3 * w + k) 0) + get_or rows (2 * w + k) 0) + get_or rows (w + k) 0) + get_or rows k 0)
packs_eight rows w k long bits =
    more 0 1 _ k (omega arith) refl (more 1 2 _ (w + k) (omega arith) refl (more 2 3 _ (2 * w + k) refl refl (more 3 4 _ (3 * w + k) refl refl
    (more 4 5 _ (4 * w + k) refl refl (more 5 6 _ (5 * w + k) refl refl (more 6 7 _ (6 * w + k) refl refl last))))))
  where
    last : Packs rows w k 7 (get_or rows (7 * w + k) 0)
    last = packs-more rows w k 7 8 0 _ _ bits refl refl (omega arith) (packs-none rows w k 8 0 long refl)

    more : (i n x p : ℕ) → p ≡ i * w + k → n ≡ i + 1 → Packs rows w k n x → Packs rows w k i (2 * x + get_or rows p 0)
    more i n x p e next = packs-more rows w k i n x _ _ bits (ap (λ (z : ℕ). get_or rows z 0) e) next refl

abbrev pub EightBits : List ℕ → ℕ → ℕ → Type 0
EightBits rows w k =
    (get_or rows (7 * w + k) 0 < 2) × (get_or rows (6 * w + k) 0 < 2) × (get_or rows (5 * w + k) 0 < 2) × (get_or rows (4 * w + k) 0 < 2)
    × (get_or rows (3 * w + k) 0 < 2) × (get_or rows (2 * w + k) 0 < 2) × (get_or rows (w + k) 0 < 2) × (get_or rows k 0 < 2)

pub eight-bits : (rows : List ℕ) (w k : ℕ) → Bits rows → EightBits rows w k
eight-bits rows w k bits = (bits _, bits _, bits _, bits _, bits _, bits _, bits _, bits _)

pub doubled_below : (new old row : List ℕ) (n m : ℕ) → length new ≡ length old → Bits row
    → ((k : ℕ) → k < length old → get_or new k 0 ≡ 2 * get_or old k 0 + get_or row k 0) → m ≡ suc n → ((k : ℕ) → get_or old k 0 < 2 ^ n)
    → (k : ℕ) → get_or new k 0 < 2 ^ m
doubled_below new old row n m long bits doubled e below k = rw e (go (dec_lt k (length old)))
  where
    go : Dec (k < length old) → get_or new k 0 < 2 ^ suc n
    go (yes h) = omega (arith, doubled k h, bits k, below k)
    go (no h) = rw (get_or-eq_default new 0 {n = k} (omega arith)) (omega (arith, below k))
