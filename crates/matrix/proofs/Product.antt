-- Sums over packed bits, a byte at a time.
--   sum_bits-add   a sum in two parts
--   mask_none, mask_byte, mask_zero   the parity of masked bytes: of none, with one more, with one more that is 0
--   Masked, masked_none, masked_more, masked_skip   the same in every column, of the planes masked so far
--   sum-spare     bits of a packed row that are 0 add nothing
-- Assumes nothing.
use mathlib.Core.Path.{◌≡◌, refl, sym, ap, ap₂, ◌∙◌}
use mathlib.Core.List.{List}
use Prim.Native.Nat.{ℕ, zero, suc, ◌+◌, ◌-◌, ◌*◌, ◌%◌, ◌≤◌, ◌<◌}
use native.Mathlib.Nat.{add-zero, add-suc, zero-mul, add-sub_cancel_left}
use native.Mathlib.Omega.{arith}
use lib.Bits.{bit_and, bit_xor, and_comm, xor_zero_r}
use lib.Count.{ones_in, ones}
use lib.ListN.{get_or, take, drop, replicate, get_or-replicate}
use lib.Seq.{get_or-take, get_or-drop}
use Rattle.staircase.specs.Lists.{bit_sum, sum_bits}
use Rattle.staircase.specs.System.{row_bytes}
use Rattle.staircase.proofs.Matrix.{bit_sum_assoc, bit_sum-zero, sum_bits-lt, sum_bits-same, sum_bits-zero}
use Rattle.staircase.proofs.Entries.{sum_bits_last}
use Rattle.matrix.specs.Packed.{packed_bit, plane_bit}
use Rattle.matrix.proofs.Bits.{bit, odd_xor, odd_and}
use Rattle.matrix.proofs.Packed.{packed_bit-at, plane_bit-at}

sum_bits-add : (n m : ℕ) (f : ℕ → ℕ) → sum_bits (n + m) f ≡ bit_sum (sum_bits n f) (sum_bits m (λ r. f (n + r)))
unfolding sum_bits
sum_bits-add n zero f = ap (λ (z : ℕ). sum_bits z f) (add-zero n) ∙ sym (bit_sum-zero (sum_bits n f) (sum_bits-lt n f))
sum_bits-add n (suc m) f =
    ap (λ (z : ℕ). sum_bits z f) (add-suc n m) ∙ sum_bits_last (n + m) f ∙ ap (λ (z : ℕ). bit_sum z (f (n + m))) (sum_bits-add n m f)
    ∙ bit_sum_assoc (sum_bits n f) (sum_bits m (λ r. f (n + r))) (f (n + m)) ∙ ap (bit_sum (sum_bits n f)) (sym (sum_bits_last m (λ r. f (n + r))))

-- ---- masked bytes

module _ (f : ℕ → ℕ) where
  pub mask_none : ones 0 % 2 ≡ sum_bits (8 * 0) f
  unfolding ones ones_in sum_bits
  mask_none = refl

  module _ (i a u v : ℕ) (terms : (r : ℕ) → r < 8 → f (8 * i + r) ≡ bit u r * bit v r) (before : ones a % 2 ≡ sum_bits (8 * i) f) where
    -- a byte more, masked in
    pub mask_byte : u < 256 → ones (bit_xor a (bit_and u v)) % 2 ≡ sum_bits (8 * (i + 1)) f
    mask_byte h =
        let w : 8 * (i + 1) ≡ 8 * i + 8 = omega arith in
        odd_xor a (bit_and u v)
        ∙ ap₂ bit_sum before (odd_and 8 u v h ∙ sym (sum_bits-same 8 (λ r. f (8 * i + r)) (λ r. bit u r * bit v r) terms))
        ∙ sym (ap (λ (z : ℕ). sum_bits z f) w ∙ sum_bits-add (8 * i) 8 f)

    -- a byte 0 masks to nothing
    pub mask_zero : u ≡ 0 → ones a % 2 ≡ sum_bits (8 * (i + 1)) f
    mask_zero z =
        ap (λ (y : ℕ). ones y % 2) (sym (ap (λ (y : ℕ). bit_xor a (bit_and y v)) z ∙ xor_zero_r a)) ∙ mask_byte (omega arith)

abbrev pub Masked : List ℕ → List ℕ → ℕ → List ℕ → ℕ → Type 0
Masked row t n acc b = (x : ℕ) → x < n → ones (get_or acc x 0) % 2 ≡ sum_bits (8 * b) (λ k. packed_bit row k * plane_bit t n k x)

module _ (row t : List ℕ) (n : ℕ) where
  pub masked_none : Masked row t n (replicate n 0) 0
  masked_none x h = ap (λ (z : ℕ). ones z % 2) (get_or-replicate n x 0 0 h) ∙ mask_none (λ k. packed_bit row k * plane_bit t n k x)

  module _ (acc : List ℕ) (b : ℕ) (before : Masked row t n acc b) where
    terms : (x r : ℕ) → r < 8 → packed_bit row (8 * b + r) * plane_bit t n (8 * b + r) x ≡ bit (get_or row b 0) r * bit (get_or t (b * n + x) 0) r
    terms x r h = ap₂ ◌*◌ (packed_bit-at row b r h) (plane_bit-at t n b r x h)

    -- the plane of the row's byte b, lent as a part, is masked in
    pub masked_more : (next : List ℕ) → get_or row b 0 < 256
        → ((x : ℕ) → x < n → get_or next x 0 ≡ bit_xor (get_or acc x 0) (bit_and (get_or (take (b * n + n - b * n) (drop (b * n) t)) x 0) (get_or row b 0)))
        → Masked row t n next (b + 1)
    masked_more next h e x l =
        let p : get_or (take (b * n + n - b * n) (drop (b * n) t)) x 0 ≡ get_or t (b * n + x) 0 = rw (add-sub_cancel_left (b * n) n, get_or-take n (drop (b * n) t) x 0 l, get_or-drop) in
        ap (λ (z : ℕ). ones z % 2) (e x l ∙ ap (bit_xor (get_or acc x 0)) (and_comm (get_or (take (b * n + n - b * n) (drop (b * n) t)) x 0) (get_or row b 0) ∙ ap (bit_and (get_or row b 0)) p))
        ∙ mask_byte (λ k. packed_bit row k * plane_bit t n k x) b (get_or acc x 0) (get_or row b 0) (get_or t (b * n + x) 0) (terms x) (before x l) h

    pub masked_skip : get_or row b 0 ≡ 0 → Masked row t n acc (b + 1)
    masked_skip z x l =
        mask_zero (λ k. packed_bit row k * plane_bit t n k x) b (get_or acc x 0) (get_or row b 0) (get_or t (b * n + x) 0) (terms x) (before x l) z

-- ---- spare bits

-- a packed row whose bits from n on are 0: they add nothing
pub sum-spare : (row : List ℕ) (n : ℕ) (f : ℕ → ℕ) → ((k : ℕ) → n ≤ k → k < 8 * row_bytes n → packed_bit row k ≡ 0)
    → sum_bits (8 * row_bytes n) (λ k. packed_bit row k * f k) ≡ sum_bits n (λ k. packed_bit row k * f k)
sum-spare row n f h =
    let g : ℕ → ℕ = λ k. packed_bit row k * f k in
    let m : ℕ = 8 * row_bytes n - n in
    let e : 8 * row_bytes n ≡ n + m = omega arith in
    ap (λ (z : ℕ). sum_bits z g) e ∙ sum_bits-add n m g
    ∙ ap (bit_sum (sum_bits n g)) (sum_bits-zero m (λ r. g (n + r)) (λ r q. ap (λ (z : ℕ). z * f (n + r)) (h (n + r) (omega arith) (omega arith)) ∙ zero-mul (f (n + r))))
    ∙ bit_sum-zero (sum_bits n g) (sum_bits-lt n g)
