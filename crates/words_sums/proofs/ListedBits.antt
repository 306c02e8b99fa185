-- Bits that are read through a list, and bytes of them.
--   listed-bit        the bit that the two bytes of an entry name is the bit to which the list sends the place
--   listed_below      there is such a bit
--   listed_byte-none   the byte of no bits
--   listed_byte-more   a bit before them: twice the byte, and the bit
--   listed_byte_eight  eight bits, one after the other
--   listed_byte_half   a byte of fewer than eight bits is below 128
--   listed-group      one group more in the sum over a column, by the entry of the group's table that its byte names
-- Assumes nothing.
use mathlib.Core.Path.{◌≡◌, refl, sym, ap, ap₂, ◌∙◌}
use mathlib.Core.List.{List}
use Prim.Native.Nat.{ℕ, zero, suc, ◌+◌, ◌-◌, ◌*◌, ◌/◌, ◌%◌, ◌^◌, ◌≤◌, ◌<◌}
use native.Mathlib.Nat.{add-mul, div-one, suc-mul, lt_of_lt_of_le}
use native.Mathlib.Decide.{dec_lt}
use native.Mathlib.Omega.{arith}
use lib.Pow.{pow_mono}
use lib.ListN.{length, get_or, take, drop}
use Rattle.bch.specs.Polynomial.{◌⊕◌, Bits}
use Rattle.bch.specs.Powers.{xor_sum}
use Rattle.bch_remainders.proofs.Rows.{column-more}
use Rattle.staircase.specs.Rules.{entries}
use Rattle.matrix.proofs.Bits.{bit, bit_shr}
use Rattle.rules.proofs.Entries.{entry-at}
use Rattle.words_tables.specs.Tables.{Sums}
use Rattle.words_sums.specs.Listed.{Sends, listed_bit, listed_byte}
use Rattle.words_sums.proofs.Groups.{byte-names, part-behind}

module _ (list bits : List ℕ) where
  pub listed-bit : (p e : ℕ) → p < length bits → e ≡ get_or list (2 * p) 0 + 256 * get_or list (2 * p + 1) 0 → get_or bits e 0 ≡ listed_bit list bits p
  unfolding listed_bit
  listed-bit p e h i = ap (λ (z : ℕ). get_or bits z 0) (i ∙ entry-at (length bits) list p h)

  pub listed_below : Sends list (length bits) → (p e : ℕ) → p < length bits → e ≡ get_or list (2 * p) 0 + 256 * get_or list (2 * p + 1) 0 → e < length bits
  listed_below S p e h i = omega (arith, i, entry-at (length bits) list p h, S.1 p h)

  pub listed_byte-none : (p w n : ℕ) → n ≡ 0 → 0 ≡ listed_byte list bits p w n
  unfolding listed_byte
  listed_byte-none p w n e = rw e

  pub listed_byte-more : (p q w n m x v : ℕ) → q ≡ p + w → m ≡ suc n → x ≡ listed_byte list bits q w n → v ≡ listed_bit list bits p
      → 2 * x + v ≡ listed_byte list bits p w m
  unfolding listed_byte
  listed_byte-more p q w n m x v next one e f =
      ap₂ (λ (y z : ℕ). 2 * y + z) (e ∙ ap (λ (z : ℕ). listed_byte list bits z w n) next) f ∙ ap (listed_byte list bits p w) (sym one)

  pub listed_byte_eight : (p w a b c d e f g h : ℕ) → a ≡ listed_bit list bits (p + 7 * w) → b ≡ listed_bit list bits (p + 6 * w)
      → c ≡ listed_bit list bits (p + 5 * w) → d ≡ listed_bit list bits (p + 4 * w) → e ≡ listed_bit list bits (p + 3 * w)
      → f ≡ listed_bit list bits (p + 2 * w) → g ≡ listed_bit list bits (p + w) → h ≡ listed_bit list bits p
      → 2 * (2 * (2 * (2 * (2 * (2 * (2 * a + b) + c) + d) + e) + f) + g) + h ≡ listed_byte list bits p w 8
  listed_byte_eight p w a b c d e f g h ea eb ec ed ee ef eg eh =
      let last : a ≡ listed_byte list bits (p + 7 * w) w 1 =
      (omega arith) ∙ listed_byte-more (p + 7 * w) (p + 8 * w) w 0 1 0 a (omega arith) refl (listed_byte-none (p + 8 * w) w 0 refl) ea in
      more p (p + w) 7 _ h refl (more (p + w) (p + 2 * w) 6 _ g (omega arith) (more (p + 2 * w) (p + 3 * w) 5 _ f (omega arith)
      (more (p + 3 * w) (p + 4 * w) 4 _ e (omega arith) (more (p + 4 * w) (p + 5 * w) 3 _ d (omega arith)
      (more (p + 5 * w) (p + 6 * w) 2 _ c (omega arith) (more (p + 6 * w) (p + 7 * w) 1 _ b (omega arith) last eb) ec) ed) ee) ef) eg) eh
    where
      more : (p q n x v : ℕ) → q ≡ p + w → x ≡ listed_byte list bits q w n → v ≡ listed_bit list bits p → 2 * x + v ≡ listed_byte list bits p w (suc n)
      more p q n x v next = listed_byte-more p q w n (suc n) x v next refl

  module _ (binary : Bits bits) where
    listed_bit-below : (p : ℕ) → listed_bit list bits p < 2
    unfolding listed_bit
    listed_bit-below p = binary (get_or (entries (length bits) list) p 0)

    listed_byte-below : (p w n : ℕ) → listed_byte list bits p w n < 2 ^ n
    unfolding listed_byte
    listed_byte-below p w zero = omega arith
    listed_byte-below p w (suc n) = omega (arith, listed_byte-below (p + w) w n, listed_bit-below p)

    listed_byte-byte : (p w n : ℕ) → n ≤ 8 → listed_byte list bits p w n < 256
    listed_byte-byte p w n h = lt_of_lt_of_le (listed_byte-below p w n) (pow_mono h)

    pub listed_byte_half : (p w n : ℕ) → n < 8 → listed_byte list bits p w n < 128
    listed_byte_half p w n h = lt_of_lt_of_le (listed_byte-below p w n) (pow_mono {i = n} {j = 7} (omega arith))

    listed_byte-bit : (p w n i : ℕ) → i < n → bit (listed_byte list bits p w n) i ≡ listed_bit list bits (p + i * w)
    unfolding listed_byte
    listed_byte-bit p w zero i h = absurd (omega arith)
    listed_byte-bit p w (suc n) zero h =
        let low : listed_byte list bits p w (suc n) % 2 ≡ listed_bit list bits p = omega (arith, listed_bit-below p) in
        let here : p ≡ p + 0 * w = omega arith in
        ap (λ (z : ℕ). z % 2) (div-one (listed_byte list bits p w (suc n))) ∙ low ∙ ap (listed_bit list bits) here
    listed_byte-bit p w (suc n) (suc i) h =
        let half : listed_byte list bits p w (suc n) / 2 ≡ listed_byte list bits (p + w) w n = omega (arith, listed_bit-below p) in
        let up : suc i ≡ 1 + i = omega arith in
        let there : p + w + i * w ≡ p + suc i * w = omega (arith, suc-mul i w) in
        ap (bit (listed_byte list bits p w (suc n))) up ∙ sym (bit_shr (listed_byte list bits p w (suc n)) 1 i) ∙ ap (λ (z : ℕ). bit z i) half
        ∙ listed_byte-bit (p + w) w n i (omega arith) ∙ ap (listed_bit list bits) there

    listed_term : (part : List ℕ) (g w count i a : ℕ) → (count < 8 → 8 * g + count ≡ length part) → i < 8
        → bit (listed_byte list bits (8 * g * w + a) w count) i * get_or part (8 * g + i) 0
        ≡ listed_bit list bits ((8 * g + i) * w + a) * get_or part (8 * g + i) 0
    listed_term part g w count i a last l = go (dec_lt i count)
      where
        go : Dec (i < count) → bit (listed_byte list bits (8 * g * w + a) w count) i * get_or part (8 * g + i) 0
            ≡ listed_bit list bits ((8 * g + i) * w + a) * get_or part (8 * g + i) 0
        go (yes k) =
            let e : 8 * g * w + a + i * w ≡ (8 * g + i) * w + a = omega (arith, add-mul (8 * g) i w) in
            ap (λ (y : ℕ). y * get_or part (8 * g + i) 0) (listed_byte-bit (8 * g * w + a) w count i k ∙ ap (listed_bit list bits) e)
        go (no k) =
            let b : length part ≤ 8 * g + i = omega (arith, last (omega arith)) in
            part-behind part _ (8 * g + i) b ∙ sym (part-behind part _ (8 * g + i) b)

    -- y is x and what the byte of group g of column a names
    pub listed-group : (part tables : List ℕ) → Sums part tables → (g w count a x y b : ℕ) → count ≤ 8 → (count < 8 → 8 * g + count ≡ length part)
        → 256 * g + 256 ≤ length tables
        → x ≡ b ⊕ xor_sum g (λ j. xor_sum 8 (λ i. listed_bit list bits ((8 * j + i) * w + a) * get_or part (8 * j + i) 0))
        → y ≡ x ⊕ get_or (take (256 * g + 256 - 256 * g) (drop (256 * g) tables)) (listed_byte list bits (8 * g * w + a) w count) 0
        → y ≡ b ⊕ xor_sum (g + 1) (λ j. xor_sum 8 (λ i. listed_bit list bits ((8 * j + i) * w + a) * get_or part (8 * j + i) 0))
    listed-group part tables S g w count a x y b few last inside before e =
        let f : ℕ → ℕ = λ j. listed_bit list bits (j * w + a) * get_or part j 0 in
        e ∙ column-more g x _ b (λ j. xor_sum 8 (λ i. f (8 * j + i))) before
        (byte-names part tables S g (listed_byte list bits (8 * g * w + a) w count) f (listed_byte-byte (8 * g * w + a) w count few) inside
        (λ i l. listed_term part g w count i a last l))
