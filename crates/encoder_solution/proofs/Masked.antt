-- Rows of a packed matrix, masked by packed constants.
--   packed-front    a bit of the first bytes
--   group-byte      a byte of those of one group
--   row-product     the word of the parities of a masked row is the product of that row
-- Assumes nothing.
use mathlib.Core.Path.{◌≡◌, sym, ap, ap₂, ◌∙◌}
use mathlib.Core.List.{List}
use Prim.Native.Nat.{ℕ, ◌+◌, ◌*◌, ◌/◌, ◌%◌, ◌≤◌, ◌<◌}
use native.Mathlib.Nat.{mul-zero}
use native.Mathlib.Decide.{dec_lt}
use native.Mathlib.Omega.{arith}
use lib.Arith.{digits_lt, digits_div, digits_mod}
use lib.ListN.{length, get_or, take, drop}
use lib.Seq.{get_or-take, get_or-drop}
use Rattle.staircase.specs.Lists.{sum_bits}
use Rattle.staircase.proofs.Matrix.{sum_bits-same, sum_bits-zero}
use Rattle.matrix.specs.Packed.{packed_bit}
use Rattle.matrix.proofs.Bits.{bit}
use Rattle.encoder_solution.specs.Words.{row_entry, row_product}
use Rattle.encoder_solution.proofs.Words.{product-bit, product-spare}
use Rattle.encoder_solution.proofs.Gathered.{bits-same, Gathered}

pub packed-front : (l : List ℕ) (n k : ℕ) → k < 8 * n → packed_bit (take n l) k ≡ packed_bit l k
unfolding packed_bit
packed-front l n k h = ap (λ (x : ℕ). bit x (k % 8)) (get_or-take n l (k / 8) 0 (omega arith))

-- byte s of group g, by the bits of the words
pub group-byte : (words : List ℕ) (p g s v : ℕ) → s < p → ((i : ℕ) → i < 8 → bit v i ≡ bit (get_or words (8 * s + i) 0) g)
    → (i : ℕ) → i < 8 → bit v i ≡ bit (get_or words (8 * ((g * p + s) % p) + i) 0) ((g * p + s) / p)
group-byte words p g s v h by i l =
    by i l ∙ sym (ap₂ (λ (x y : ℕ). bit (get_or words (8 * x + i) 0) y) (digits_mod g h) (digits_div g h))

module _ (inverse constants packed : List ℕ) (w p count : ℕ)
    (by-groups : (q i : ℕ) → q < count * p → i < 8 → bit (get_or packed q 0) i ≡ bit (get_or constants (8 * (q % p) + i) 0) (q / p))
    (spare : (k : ℕ) → 8 * w ≤ k → get_or constants k 0 ≡ 0) (few : (k j : ℕ) → count ≤ j → bit (get_or constants k 0) j ≡ 0) where
  abbrev c : ℕ → ℕ
  c k = get_or constants k 0

  constant-bit : (g k : ℕ) → g < count → k < 8 * p → packed_bit (drop (g * p) packed) k ≡ bit (c k) g
  unfolding packed_bit
  constant-bit g k h l =
      let q : k / 8 < p = omega arith in
      let e : 8 * (k / 8) + k % 8 ≡ k = omega arith in
      ap (λ (x : ℕ). bit x (k % 8)) (get_or-drop (g * p) packed (k / 8) 0) ∙ by-groups (g * p + k / 8) (k % 8) (digits_lt h q) (omega arith)
      ∙ ap₂ (λ (x y : ℕ). bit (c (8 * x + k % 8)) y) (digits_mod g q) (digits_div g q) ∙ ap (λ (x : ℕ). bit (c x) g) e

  -- n bytes from row e on, of which the row is the first w
  module _ (e n x : ℕ) (whole : w ≤ n) (short : n ≤ p) (long : length (take n (drop (e * w) inverse)) ≡ n) where
    abbrev row : List ℕ
    row = take n (drop (e * w) inverse)

    row_bit : (k : ℕ) → k < 8 * n → packed_bit row k ≡ row_entry inverse w e k
    unfolding packed_bit
    row_bit k h = packed-front (drop (e * w) inverse) n k h ∙ ap (λ (z : ℕ). bit z (k % 8)) (get_or-drop (e * w) inverse (k / 8) 0)

    pub row-product : Gathered (λ g. sum_bits (8 * length row) (λ k. packed_bit row k * packed_bit (drop (g * p) packed) k)) x count
        → x ≡ row_product inverse w (λ k. get_or constants k 0) e (8 * w)
    row-product by-parities =
        bits-same x (row_product inverse w c e (8 * n)) (λ g. go g (dec_lt g count)) ∙ product-spare inverse w c e (8 * w) (8 * n) (omega arith) spare
      where
        go : (g : ℕ) → Dec (g < count) → bit x g ≡ bit (row_product inverse w c e (8 * n)) g
        go g (yes h) =
            (by-parities g).0 h ∙ ap (λ (z : ℕ). sum_bits (8 * z) (λ k. packed_bit row k * packed_bit (drop (g * p) packed) k)) long
            ∙ sum_bits-same (8 * n) (λ k. packed_bit row k * packed_bit (drop (g * p) packed) k) (λ k. row_entry inverse w e k * bit (c k) g)
            (λ k l. ap₂ ◌*◌ (row_bit k l) (constant-bit g k h (omega arith)))
            ∙ sym (product-bit inverse w c e (8 * n) g)
        go g (no h) =
            (by-parities g).1 (omega arith)
            ∙ sym (product-bit inverse w c e (8 * n) g
            ∙ sum_bits-zero (8 * n) (λ k. row_entry inverse w e k * bit (c k) g)
            (λ k l. ap (λ (z : ℕ). row_entry inverse w e k * z) (few k g (omega arith)) ∙ mul-zero (row_entry inverse w e k)))
