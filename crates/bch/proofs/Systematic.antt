-- Words that begin with given bits.
--   horner-append, remainder-end     the remainder of a word by that of its beginning
--   bits_of-bits, bits_of-length, word_poly-bits_of, word_poly_injective   words of one length are as their numbers
--   zeros-bits, append_bits          lists of bits
--   parity-length, parity-bits       the parity has r bits
--   parity_makes, parity-alone       it makes the remainder 0, and nothing else does
--   parity-sum                       parity is linear
-- Assumes nothing.
use mathlib.Core.Path.{◌≡◌, refl, sym, ap, ap₂, ◌∙◌, subst, subst⁻¹}
use mathlib.Core.List.{List, [], ◌∷◌, ◌++◌}
use Prim.Native.Nat.{ℕ, zero, suc, ◌+◌, ◌*◌, ◌/◌, ◌%◌, ◌^◌, ◌≤◌, ◌<◌}
use native.Mathlib.Nat.{suc_inj, suc-ne-zero, le_refl, le_trans, mod-lt, mod-one, mod-eq_of_lt, pow-suc, pow-succ', zero-lt-suc, lt_of_lt_of_le}
use native.Mathlib.Omega.{arith}
use lib.Arith.{digits_lt}
use lib.Pow.{pow_pos, pow_mono, mod-pow-add, high, low}
use lib.Bits.{xor_shifted}
use lib.ListN.{length, replicate, length-replicate, length-append}
use Rattle.bch.specs.Polynomial.{Bits, ◌⊕◌, times_x, iterate, horner, word_poly, remainder, bits_of}
use Rattle.bch.specs.Code.{parity}
use Rattle.bch.proofs.Store.{zeros-at}
use Rattle.bch.proofs.Sum.{mod2_bit, ⊕-self, ⊕-zero-right, ⊕-below, ⊕_equal, ⊕_double, ⊕_shift, ⊕-mod}
use Rattle.bch.proofs.Polynomial.{linear_zero, iterate_double}
use Rattle.bch.proofs.Modulus.{times_x_linear, times_x-small}
use Rattle.bch.proofs.Word.{horner_shift, horner_cons, sum_word, remainder-sum, remainder-below}

pub horner-append : (T : ℕ → ℕ) (u v : List ℕ) (s : ℕ) → horner T s (u ++ v) ≡ horner T (horner T s u) v
unfolding horner
horner-append T [] v s = refl
horner-append T (b ∷ u) v s = horner-append T u v (T s ⊕ b)

pub horner-zeros : (T : ℕ → ℕ) → T 0 ≡ 0 → (n : ℕ) → horner T 0 (replicate n 0) ≡ 0
unfolding horner
horner-zeros T z zero = refl
horner-zeros T z (suc n) = ap (λ s. horner T s (replicate n 0)) (⊕-zero-right (T 0) ∙ z) ∙ horner-zeros T z n

-- ---- short words have nothing to take away
module _ (g r : ℕ) where
  short-from : (w : List ℕ) → Bits w → (k s : ℕ) → s < 2 ^ k → k + length w ≤ r → horner (times_x g r) s w ≡ horner (λ v. v * 2) s w
  unfolding horner
  short-from [] hw k s h l = refl
  short-from (b ∷ w) hw k s h l =
      let dbl : s * 2 < 2 ^ suc k = omega (arith, pow-suc 2 k) in
      ap (λ n. horner (times_x g r) (n ⊕ b) w) (times_x-small g r s (lt_of_lt_of_le dbl (pow_mono (omega arith))))
      ∙ short-from w (λ k. hw (suc k)) (suc k) (s * 2 ⊕ b) (⊕-below (suc k) (s * 2) b dbl (le_trans (hw 0) (pow_mono (zero-lt-suc k)))) (omega arith)

  -- the end of a word adds to what the word would leave with zeros there
  remainder-end : (u p : List ℕ) → Bits p → length p ≡ r → remainder g r (u ++ p) ≡ remainder g r (u ++ replicate r 0) ⊕ word_poly p
  unfolding remainder word_poly
  remainder-end u p hp e =
      let T : ℕ → ℕ = times_x g r in
      let s : ℕ = horner T 0 u in
      let zs : List ℕ = replicate r 0 in
      let end : (v : List ℕ) → horner T s v ≡ iterate T (length v) s ⊕ horner T 0 v = λ v. ap (λ n. horner T n v) (sym (⊕-zero-right s)) ∙ horner_shift T (times_x_linear g r) v s 0 in
      horner-append T u p 0 ∙ end p
      ∙ ap₂ ◌⊕◌ (ap (λ n. iterate T n s) (e ∙ sym (length-replicate r 0))) (short-from p hp 0 0 (le_refl 1) (omega arith))
      ∙ ap (λ n. n ⊕ horner (λ v. v * 2) 0 p)
      (sym (horner-append T u zs 0 ∙ end zs ∙ ap (λ n. iterate T (length zs) s ⊕ n) (horner-zeros T (linear_zero T (times_x_linear g r)) r) ∙ ⊕-zero-right (iterate T (length zs) s)))

-- ---- numbers and their bits
bits_of-bits : (n p : ℕ) → Bits (bits_of n p)
unfolding bits_of
bits_of-bits zero p k = zero-lt-suc 1
bits_of-bits (suc n) p zero = mod2_bit (p / 2 ^ n)
bits_of-bits (suc n) p (suc k) = bits_of-bits n p k

bits_of-length : (n p : ℕ) → length (bits_of n p) ≡ n
unfolding bits_of
bits_of-length zero p = refl
bits_of-length (suc n) p = ap suc (bits_of-length n p)

pub word_poly_cons : (b : ℕ) (w : List ℕ) → word_poly (b ∷ w) ≡ b * 2 ^ length w ⊕ word_poly w
unfolding word_poly
word_poly_cons b w = horner_cons (λ v. v * 2) ⊕_double b w ∙ ap (λ n. n ⊕ horner (λ v. v * 2) 0 w) (iterate_double (length w) b)

plus : (b k x : ℕ) → x < 2 ^ k → b * 2 ^ k ⊕ x ≡ b * 2 ^ k + x
unfolding ◌⊕◌
plus = xor_shifted

word_poly-bits_of : (n p : ℕ) → word_poly (bits_of n p) ≡ p % 2 ^ n
unfolding bits_of word_poly horner
word_poly-bits_of zero p = sym (mod-one p)
word_poly-bits_of (suc n) p =
    word_poly_cons (p / 2 ^ n % 2) (bits_of n p)
    ∙ ap₂ (λ k v. p / 2 ^ n % 2 * 2 ^ k ⊕ v) (bits_of-length n p) (word_poly-bits_of n p)
    ∙ plus (p / 2 ^ n % 2) n (p % 2 ^ n) (mod-lt p (pow_pos n))
    ∙ sym (mod-pow-add p 1 n) ∙ ap (λ k. p % 2 ^ k) (omega arith)

pub word_poly-below : (w : List ℕ) → Bits w → word_poly w < 2 ^ length w
unfolding word_poly horner
word_poly-below [] h = le_refl 1
word_poly-below (b ∷ w) h =
    let l : word_poly w < 2 ^ length w = word_poly-below w (λ k. h (suc k)) in
    rw (word_poly_cons b w, plus b (length w) (word_poly w) l, pow-succ') (digits_lt (h 0) l)

word_poly_injective : (v w : List ℕ) → Bits v → Bits w → length v ≡ length w → word_poly v ≡ word_poly w → v ≡ w
word_poly_injective [] [] hv hw e q = refl
word_poly_injective [] (b ∷ w) hv hw e q = absurd (suc-ne-zero (length w) (sym e))
word_poly_injective (a ∷ v) [] hv hw e q = absurd (suc-ne-zero (length v) e)
word_poly_injective (a ∷ v) (b ∷ w) hv hw e q =
    let k : ℕ = length v in
    let lv : word_poly v < 2 ^ k = word_poly-below v (λ k. hv (suc k)) in
    let lw : word_poly w < 2 ^ k = subst (λ n. word_poly w < 2 ^ n) (sym (suc_inj e)) (word_poly-below w (λ k. hw (suc k))) in
    let sums : a * 2 ^ k + word_poly v ≡ b * 2 ^ k + word_poly w =
    sym (plus a k (word_poly v) lv) ∙ sym (word_poly_cons a v) ∙ q ∙ word_poly_cons b w ∙ ap (λ n. b * 2 ^ n ⊕ word_poly w) (sym (suc_inj e)) ∙ plus b k (word_poly w) lw in
    ap₂ ◌∷◌ (sym (high a k lv) ∙ ap (λ n. n / 2 ^ k) sums ∙ high b k lw)
    (word_poly_injective v w (λ k. hv (suc k)) (λ k. hw (suc k)) (suc_inj e) (sym (low a k lv) ∙ ap (λ n. n % 2 ^ k) sums ∙ low b k lw))

-- ---- the end that makes a codeword
pub zeros-bits : (n : ℕ) → Bits (replicate n 0)
zeros-bits n k = subst⁻¹ (λ (b : ℕ). b < 2) (zeros-at n k) (zero-lt-suc 1)

pub append_bits : (u v : List ℕ) → Bits u → Bits v → Bits (u ++ v)
append_bits [] v hu hv k = hv k
append_bits (b ∷ u) v hu hv zero = hu zero
append_bits (b ∷ u) v hu hv (suc k) = append_bits u v (λ j. hu (suc j)) hv k

pub parity-length : (g r : ℕ) (u : List ℕ) → length (parity g r u) ≡ r
unfolding parity
parity-length g r u = bits_of-length r (remainder g r (u ++ replicate r 0))

pub parity-bits : (g r : ℕ) (u : List ℕ) → Bits (parity g r u)
unfolding parity
parity-bits g r u = bits_of-bits r (remainder g r (u ++ replicate r 0))

module _ (g r : ℕ) (pos : 0 < r) (deg : g / 2 ^ r ≡ 1) (u : List ℕ) (hu : Bits u) where
  abbrev R : ℕ
  R = remainder g r (u ++ replicate r 0)

  R-below : R < 2 ^ r
  R-below = remainder-below g r pos deg (u ++ replicate r 0) (append_bits u (replicate r 0) hu (zeros-bits r))

  pub parity_makes : remainder g r (u ++ parity g r u) ≡ 0
  unfolding parity
  parity_makes =
      remainder-end g r u (bits_of r R) (bits_of-bits r R) (bits_of-length r R)
      ∙ ap (λ n. R ⊕ n) (word_poly-bits_of r R ∙ mod-eq_of_lt R-below) ∙ ⊕-self R

  pub parity-alone : (p : List ℕ) → Bits p → length p ≡ r → remainder g r (u ++ p) ≡ 0 → p ≡ parity g r u
  unfolding parity
  parity-alone p hp e z =
      word_poly_injective p (bits_of r R) hp (bits_of-bits r R) (e ∙ sym (bits_of-length r R))
      (sym (⊕_equal (sym (remainder-end g r u p hp e) ∙ z)) ∙ sym (word_poly-bits_of r R ∙ mod-eq_of_lt R-below))

-- ---- the ends of sums are sums of the ends
bits_of-sum : (n p q : ℕ) → bits_of n (p ⊕ q) ≡ sum_word (bits_of n p) (bits_of n q)
unfolding bits_of sum_word
bits_of-sum zero p q = refl
bits_of-sum (suc n) p q = ap₂ ◌∷◌ (ap (λ k. k % 2) (⊕_shift p q n) ∙ low_bit (p / 2 ^ n) (q / 2 ^ n)) (bits_of-sum n p q)
  where
    low_bit : (a b : ℕ) → (a ⊕ b) % 2 ≡ a % 2 ⊕ b % 2
    low_bit = ⊕-mod 1

pub sum_word_append : (u v p q : List ℕ) → length u ≡ length v → sum_word (u ++ p) (v ++ q) ≡ sum_word u v ++ sum_word p q
unfolding sum_word
sum_word_append [] [] p q e = refl
sum_word_append [] (b ∷ v) p q e = absurd (suc-ne-zero (length v) (sym e))
sum_word_append (a ∷ u) [] p q e = absurd (suc-ne-zero (length u) e)
sum_word_append (a ∷ u) (b ∷ v) p q e = ap (λ l. (a ⊕ b) ∷ l) (sum_word_append u v p q (suc_inj e))

sum_word_zeros : (n : ℕ) → sum_word (replicate n 0) (replicate n 0) ≡ replicate n 0
unfolding sum_word
sum_word_zeros zero = refl
sum_word_zeros (suc n) = ap₂ ◌∷◌ (⊕-self 0) (sum_word_zeros n)

pub parity-sum : (g r : ℕ) (u v : List ℕ) → length u ≡ length v → parity g r (sum_word u v) ≡ sum_word (parity g r u) (parity g r v)
unfolding parity
parity-sum g r u v e =
    let z : List ℕ = replicate r 0 in
    ap (bits_of r)
    (ap (remainder g r) (ap (λ l. sum_word u v ++ l) (sym (sum_word_zeros r)) ∙ sym (sum_word_append u v z z e))
    ∙ remainder-sum g r (u ++ z) (v ++ z) (length-append u z ∙ ap (λ n. n + length z) e ∙ sym (length-append v z)))
    ∙ bits_of-sum r (remainder g r (u ++ z)) (remainder g r (v ++ z))
