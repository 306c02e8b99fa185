-- The mirrored codes: a word is in the code of the reversed generator exactly when the word read backwards is in the generator's.
--   reversed-below, reversed_cons, reversed-sum, reversed_double, reversed_shift   bits in the other order
--   reversed-twice            twice reversed is what it was
--   reversed-product          a product reversed is the product of both reversed
--   backwards                 a word read backwards; its length, bits, distance
--   word_poly-backwards        its polynomial is the reversed one
--   mirror_degree, mirror_odd, mirror-mirror
--   mirror-divides            a word that g divides is, backwards, divided by the mirror of g
--   mirror_codeword           exactly when
-- Assumes nothing.
use mathlib.Core.Path.{◌≡◌, refl, sym, ap, ap₂, ◌∙◌, subst}
use mathlib.Core.List.{List, [], ◌∷◌, ◌++◌}
use Prim.Native.Nat.{ℕ, zero, suc, ◌+◌, ◌-◌, ◌*◌, ◌/◌, ◌%◌, ◌^◌, ◌≤◌, ◌<◌}
use native.Mathlib.Nat.{zero-lt-suc, zero-mul, mul-one, mul_assoc, add-zero, add-suc, suc-add, pow-suc, pow-succ', mul-mod_left, mul-div_cancel, mod-eq_of_lt, le_refl, suc_inj, suc-ne-zero, div-div-eq-div-mul, div-one, lt_of_lt_of_le}
use native.Mathlib.Decide.{ℕ_discrete, dec_lt}
use lib.Dec.{eqb}
use borrow.Author.Tests.{ne_eqb}
use native.Mathlib.Omega.{arith}
use lib.Arith.{bin_ind, digits_lt}
use lib.Pow.{pow_pos, pow_mono, high}
use lib.Bits.{xor_shifted}
use lib.ListN.{length, length-append}
use Rattle.bch.specs.Polynomial.{Bits, ◌⊕◌, ◌⊗◌, horner, word_poly, remainder}
use Rattle.bch.specs.Code.{is_codeword, unlike, distance}
use Rattle.bch.specs.Mirror.{reversed, mirror, backwards}
use Rattle.bch.proofs.Sum.{mod2_bit, ⊕_comm, ⊕_swap, ⊕-zero-left, ⊕_scale, ⊕_half}
use Rattle.bch.proofs.Polynomial.{linear_zero, linear_bit, half_and-bit, product-zero, product_double, product-sum_l, product-bit, product-horner}
use Rattle.bch.proofs.Modulus.{degree_high, degree_low}
use Rattle.bch.proofs.Word.{multiple, divides}
use Rattle.bch.proofs.Systematic.{horner-append, word_poly_cons, word_poly-below, append_bits}
use Rattle.bch.proofs.Generator.{product_degree}

-- ---- bits in the other order

pub reversed-below : (n p : ℕ) → reversed n p < 2 ^ n
unfolding reversed
reversed-below zero p = le_refl 1
reversed-below (suc n) p = rw (pow-succ' 2 n) (digits_lt (mod2_bit p) (reversed-below n (p / 2)))

shifted : (b k x : ℕ) → x < 2 ^ k → b * 2 ^ k ⊕ x ≡ b * 2 ^ k + x
unfolding ◌⊕◌
shifted = xor_shifted

pub reversed_cons : (n p : ℕ) → reversed (suc n) p ≡ p % 2 * 2 ^ n ⊕ reversed n (p / 2)
unfolding reversed
reversed_cons n p = sym (shifted (p % 2) n (reversed n (p / 2)) (reversed-below n (p / 2)))

pub reversed-sum : (n a b : ℕ) → reversed n (a ⊕ b) ≡ reversed n a ⊕ reversed n b
reversed-sum zero a b = start a b
  where
    start : (a b : ℕ) → reversed zero (a ⊕ b) ≡ reversed zero a ⊕ reversed zero b
    start a b = go
      where
        go : reversed zero (a ⊕ b) ≡ reversed zero a ⊕ reversed zero b
        go = none (a ⊕ b) ∙ sym (ap₂ ◌⊕◌ (none a) (none b) ∙ ⊕-zero-left 0)
          where
            none : (p : ℕ) → reversed zero p ≡ 0
            none p = let h = reversed-below zero p in omega (arith, h)
reversed-sum (suc n) a b =
    reversed_cons n (a ⊕ b)
    ∙ ap₂ ◌⊕◌ (⊕_scale a b (2 ^ n)) (ap (reversed n) (⊕_half a b) ∙ reversed-sum n (a / 2) (b / 2))
    ∙ ⊕_swap (a % 2 * 2 ^ n) (b % 2 * 2 ^ n) (reversed n (a / 2)) (reversed n (b / 2))
    ∙ sym (ap₂ ◌⊕◌ (reversed_cons n a) (reversed_cons n b))

reversed-zero : (n : ℕ) → reversed n 0 ≡ 0
reversed-zero n = linear_zero (reversed n) (reversed-sum n)

reversed-bit : (n x v : ℕ) → x < 2 → reversed n (x * v) ≡ x * reversed n v
reversed-bit n = linear_bit (reversed n) (reversed-sum n)

pub reversed_double : (n p : ℕ) → reversed (suc n) (p * 2) ≡ reversed n p
reversed_double n p =
    reversed_cons n (p * 2)
    ∙ ap₂ ◌⊕◌ (ap (λ (z : ℕ). z * 2 ^ n) (mul-mod_left p 2) ∙ zero-mul (2 ^ n)) (ap (reversed n) (mul-div_cancel p (zero-lt-suc 1)))
    ∙ ⊕-zero-left (reversed n p)

-- a leading zero becomes a last one
reversed-more : (n p : ℕ) → p < 2 ^ n → reversed (suc n) p ≡ reversed n p * 2
unfolding reversed
reversed-more zero p h = let e : p ≡ 0 = omega (arith, h) in ap (reversed 1) e
reversed-more (suc n) p h =
    let half : p / 2 < 2 ^ n = omega (arith, h, pow-suc 2 n) in
    let e : p % 2 * 2 ^ suc n ≡ p % 2 * 2 ^ n * 2 = ap (λ (z : ℕ). p % 2 * z) (pow-suc 2 n) ∙ sym (mul_assoc (p % 2) (2 ^ n) 2) in
    let i : reversed (suc n) (p / 2) ≡ reversed n (p / 2) * 2 = reversed-more n (p / 2) half in
    ap₂ (λ (x y : ℕ). x + y) e i ∙ omega arith

pub reversed_shift : (n k p : ℕ) → p < 2 ^ n → reversed (n + k) p ≡ reversed n p * 2 ^ k
reversed_shift n zero p h = ap (λ (z : ℕ). reversed z p) (add-zero n) ∙ sym (mul-one (reversed n p))
reversed_shift n (suc k) p h =
    ap (λ (z : ℕ). reversed z p) (add-suc n k) ∙ reversed-more (n + k) p (lt_of_lt_of_le h (pow_mono (omega arith))) ∙ ap (λ (z : ℕ). z * 2) (reversed_shift n k p h)
    ∙ mul_assoc (reversed n p) (2 ^ k) 2 ∙ ap (λ (z : ℕ). reversed n p * z) (sym (pow-suc 2 k))

-- the top bit becomes the last
reversed-top : (k b : ℕ) → b < 2 → reversed (suc k) (b * 2 ^ k) ≡ b
unfolding reversed
reversed-top zero b h = ap (λ (z : ℕ). z % 2 * 1 + 0) (mul-one b) ∙ omega (arith, mod-eq_of_lt h)
reversed-top (suc k) b h =
    ap (reversed (suc (suc k))) (ap (λ (z : ℕ). b * z) (pow-suc 2 k) ∙ sym (mul_assoc b (2 ^ k) 2)) ∙ reversed_double (suc k) (b * 2 ^ k) ∙ reversed-top k b h

pub reversed_snoc : (k b v : ℕ) → b < 2 → v < 2 ^ k → reversed (suc k) (b * 2 ^ k ⊕ v) ≡ reversed k v * 2 ⊕ b
reversed_snoc k b v hb hv =
    reversed-sum (suc k) (b * 2 ^ k) v ∙ ap₂ ◌⊕◌ (reversed-top k b hb) (reversed-more k v hv) ∙ ⊕_comm b (reversed k v * 2)

pub reversed-twice : (n p : ℕ) → p < 2 ^ n → reversed n (reversed n p) ≡ p
unfolding reversed
reversed-twice zero p h = omega (arith, h)
reversed-twice (suc n) p h =
    let half : p / 2 < 2 ^ n = omega (arith, h, pow-suc 2 n) in
    ap (reversed (suc n)) (reversed_cons n p)
    ∙ reversed_snoc n (p % 2) (reversed n (p / 2)) (mod2_bit p) (reversed-below n (p / 2))
    ∙ ap (λ (z : ℕ). z * 2 ⊕ p % 2) (reversed-twice n (p / 2) half) ∙ half_and-bit p

-- the last bit is the highest of the n + 1
reversed_last : (n p : ℕ) → reversed (suc n) p % 2 ≡ p / 2 ^ n % 2
unfolding reversed
reversed_last zero p = let e : p / 1 ≡ p = div-one p in let one : (p % 2 * 1 + 0) % 2 ≡ p % 2 = omega arith in one ∙ ap (λ (z : ℕ). z % 2) (sym e)
reversed_last (suc n) p =
    let e : p % 2 * 2 ^ suc n ≡ p % 2 * 2 ^ n * 2 = ap (λ (z : ℕ). p % 2 * z) (pow-suc 2 n) ∙ sym (mul_assoc (p % 2) (2 ^ n) 2) in
    let even : (p % 2 * 2 ^ suc n + reversed (suc n) (p / 2)) % 2 ≡ reversed (suc n) (p / 2) % 2 = omega (arith, e) in
    even ∙ reversed_last n (p / 2) ∙ ap (λ (z : ℕ). z % 2) (div-div-eq-div-mul p 2 (2 ^ n) ∙ ap (λ (z : ℕ). p / z) (sym (pow-succ' 2 n)))

-- ---- a product reversed

power-product : (n b q : ℕ) → b < 2 → b * 2 ^ n ⊗ q ≡ b * (q * 2 ^ n)
power-product zero b q h = ap (λ (z : ℕ). z ⊗ q) (mul-one b) ∙ product-bit b q h ∙ ap (λ (z : ℕ). b * z) (sym (mul-one q))
power-product (suc n) b q h =
    ap (λ (z : ℕ). z ⊗ q) (ap (λ (z : ℕ). b * z) (pow-suc 2 n) ∙ sym (mul_assoc b (2 ^ n) 2))
    ∙ product_double (b * 2 ^ n) q ∙ ap (λ (z : ℕ). z * 2) (power-product n b q h)
    ∙ mul_assoc b (q * 2 ^ n) 2 ∙ ap (λ (z : ℕ). b * z) (mul_assoc q (2 ^ n) 2 ∙ ap (λ (z : ℕ). q * z) (sym (pow-suc 2 n)))

pub reversed-product : (r q : ℕ) → q < 2 ^ suc r → (n p : ℕ) → p < 2 ^ n → reversed (r + n) (p ⊗ q) ≡ reversed n p ⊗ reversed (suc r) q
reversed-product r q hq zero p h =
    let e : p ≡ 0 = omega (arith, h) in
    ap (λ (z : ℕ). reversed (r + 0) (z ⊗ q)) e ∙ ap (reversed (r + 0)) (product-zero q) ∙ reversed-zero (r + 0)
    ∙ sym (ap (λ (z : ℕ). z ⊗ reversed (suc r) q) (ap (reversed zero) e ∙ reversed-zero zero) ∙ product-zero (reversed (suc r) q))
reversed-product r q hq (suc n) p h =
    let half : p / 2 < 2 ^ n = omega (arith, h, pow-suc 2 n) in
    let q' : ℕ = reversed (suc r) q in
    ap (λ (z : ℕ). reversed z (p ⊗ q)) (add-suc r n) ∙ ap (reversed (suc (r + n))) (product-horner p q)
    ∙ reversed-sum (suc (r + n)) ((p / 2 ⊗ q) * 2) (p % 2 * q)
    ∙ ap₂ ◌⊕◌ (reversed_double (r + n) (p / 2 ⊗ q) ∙ reversed-product r q hq n (p / 2) half)
    (reversed-bit (suc (r + n)) (p % 2) q (mod2_bit p)
    ∙ ap (λ (z : ℕ). p % 2 * z) (ap (λ (z : ℕ). reversed z q) (sym (suc-add r n)) ∙ reversed_shift (suc r) n q hq)
    ∙ sym (power-product n (p % 2) q' (mod2_bit p)))
    ∙ ⊕_comm (reversed n (p / 2) ⊗ q') (p % 2 * 2 ^ n ⊗ q')
    ∙ sym (product-sum_l (p % 2 * 2 ^ n) (reversed n (p / 2)) q')
    ∙ ap (λ (z : ℕ). z ⊗ q') (sym (reversed_cons n p))

-- ---- words read backwards

pub backwards-length : (w : List ℕ) → length (backwards w) ≡ length w
unfolding backwards
backwards-length [] = refl
backwards-length (b ∷ w) = omega (arith, length-append (backwards w) (b ∷ []), backwards-length w)

pub backwards-bits : (w : List ℕ) → Bits w → Bits (backwards w)
unfolding backwards
backwards-bits [] h = h
backwards-bits (b ∷ w) h = append_bits (backwards w) (b ∷ []) (backwards-bits w (λ k. h (suc k))) one
  where
    one : Bits (b ∷ [])
    one zero = h zero
    one (suc k) = zero-lt-suc 1

backwards-append : (u : List ℕ) (b : ℕ) → backwards (u ++ (b ∷ [])) ≡ b ∷ backwards u
unfolding backwards
backwards-append [] b = refl
backwards-append (a ∷ u) b = ap (λ (z : List ℕ). z ++ (a ∷ [])) (backwards-append u b)

pub backwards-twice : (w : List ℕ) → backwards (backwards w) ≡ w
unfolding backwards
backwards-twice [] = refl
backwards-twice (b ∷ w) = backwards-append (backwards w) b ∙ ap (λ (z : List ℕ). b ∷ z) (backwards-twice w)

distance_snoc : (u v : List ℕ) (a b : ℕ) → length u ≡ length v → distance (u ++ (a ∷ [])) (v ++ (b ∷ [])) ≡ unlike a b + distance u v
unfolding distance
distance_snoc [] [] a b e = refl
distance_snoc [] (y ∷ v) a b e = absurd (suc-ne-zero (length v) (sym e))
distance_snoc (x ∷ u) [] a b e = absurd (suc-ne-zero (length u) e)
distance_snoc (x ∷ u) (y ∷ v) a b e = omega (arith, distance_snoc u v a b (suc_inj e))

pub backwards-distance : (v w : List ℕ) → length v ≡ length w → distance (backwards v) (backwards w) ≡ distance v w
unfolding backwards distance
backwards-distance [] [] e = refl
backwards-distance [] (b ∷ w) e = absurd (suc-ne-zero (length w) (sym e))
backwards-distance (a ∷ v) [] e = absurd (suc-ne-zero (length v) e)
backwards-distance (a ∷ v) (b ∷ w) e =
    let s : length v ≡ length w = suc_inj e in
    distance_snoc (backwards v) (backwards w) a b (backwards-length v ∙ s ∙ sym (backwards-length w)) ∙ ap (λ (z : ℕ). unlike a b + z) (backwards-distance v w s)

word_poly_snoc : (u : List ℕ) (b : ℕ) → word_poly (u ++ (b ∷ [])) ≡ word_poly u * 2 ⊕ b
unfolding word_poly horner
word_poly_snoc u b = horner-append (λ v. v * 2) u (b ∷ []) 0

pub word_poly-backwards : (w : List ℕ) → Bits w → word_poly (backwards w) ≡ reversed (length w) (word_poly w)
unfolding backwards word_poly horner
word_poly-backwards [] h = sym (reversed-zero 0)
word_poly-backwards (b ∷ w) h =
    word_poly_snoc (backwards w) b
    ∙ ap (λ (z : ℕ). z * 2 ⊕ b) (word_poly-backwards w (λ k. h (suc k)))
    ∙ sym (ap (reversed (suc (length w))) (word_poly_cons b w) ∙ reversed_snoc (length w) b (word_poly w) (h 0) (word_poly-below w (λ k. h (suc k))))

-- ---- quotients

has_degree : (p : ℕ) → 0 < p → (a : ℕ) × (p / 2 ^ a ≡ 1)
has_degree =
    bin_ind (λ (p : ℕ). 0 < p → (a : ℕ) × (p / 2 ^ a ≡ 1)) (λ h. absurd (omega (arith, h)))
    (λ p ih h. go p ih h (dec_lt 1 p))
  where
    go : (p : ℕ) → (0 < p / 2 → (a : ℕ) × (p / 2 / 2 ^ a ≡ 1)) → 0 < p → Dec (1 < p) → (a : ℕ) × (p / 2 ^ a ≡ 1)
    go p ih h (no n) = let e : p ≡ 1 = omega (arith, h, n) in (0, ap (λ (z : ℕ). z / 1) e)
    go p ih h (yes l) = let (a, e) = ih (omega (arith, l)) in (suc a, sym (div-div-eq-div-mul p 2 (2 ^ a) ∙ ap (λ (z : ℕ). p / z) (sym (pow-succ' 2 a))) ∙ e)

-- a factor of a number of r + n bits, beside one of degree r
quotient_below : (r g : ℕ) → g / 2 ^ r ≡ 1 → (n p : ℕ) → p ⊗ g < 2 ^ (r + n) → p < 2 ^ n
quotient_below r g deg n p h = go (dec_lt p (2 ^ n))
  where
    go : Dec (p < 2 ^ n) → p < 2 ^ n
    go (yes l) = l
    go (no l) =
        let (a, e) = has_degree p (omega (arith, l, pow_pos n)) in
        let low : 2 ^ (a + r) ≤ p ⊗ g = degree_low (p ⊗ g) (a + r) (product_degree a r p g e deg) in
        let top : p < 2 ^ suc a = rw (pow-succ' 2 a) (degree_high p a e) in
        inside a low top (dec_lt a n)
      where
        inside : (a : ℕ) → 2 ^ (a + r) ≤ p ⊗ g → p < 2 ^ suc a → Dec (a < n) → p < 2 ^ n
        inside a low top (yes k) = absurd (omega (arith, l, top, pow_mono {i = suc a} {j = n} k))
        inside a low top (no k) = absurd (omega (arith, low, h, pow_mono {i = r + n} {j = a + r} (omega (arith, k))))

-- ---- the mirrored generator

module _ (r g : ℕ) (deg : g / 2 ^ r ≡ 1) where
  top : g < 2 ^ suc r
  top = rw (pow-succ' 2 r) (degree_high g r deg)

  pub mirror_degree : g % 2 ≡ 1 → mirror r g / 2 ^ r ≡ 1
  unfolding mirror reversed
  mirror_degree odd = high (g % 2) r (reversed-below r (g / 2)) ∙ odd

  pub mirror_odd : mirror r g % 2 ≡ 1
  unfolding mirror
  mirror_odd = reversed_last r g ∙ ap (λ (z : ℕ). z % 2) deg

  pub mirror-mirror : mirror r (mirror r g) ≡ g
  unfolding mirror
  mirror-mirror = reversed-twice (suc r) g top

  -- the paper's (10): the mirror image of a codeword is a codeword of the mirrored code
  module _ (pos : 0 < r) (odd : g % 2 ≡ 1) where
    pub mirror-divides : (w : List ℕ) → Bits w → r ≤ length w → remainder g r w ≡ 0 → remainder (mirror r g) r (backwards w) ≡ 0
    unfolding mirror
    mirror-divides w hw l h =
        let (p, e) = multiple g r w h in
        let n : ℕ = length w - r in
        let long : length w ≡ r + n = omega (arith, l) in
        let small : p < 2 ^ n = quotient_below r g deg n p (subst (λ (z : ℕ). z < 2 ^ (r + n)) e (subst (λ (z : ℕ). word_poly w < 2 ^ z) long (word_poly-below w hw))) in
        divides (mirror r g) r pos (mirror_degree odd) (backwards w) (backwards-bits w hw) (reversed n p)
        (word_poly-backwards w hw ∙ ap₂ reversed long e ∙ reversed-product r g top n p small)

-- a word is in the mirrored code exactly when it is, read backwards, in the other
module _ (r g : ℕ) (deg : g / 2 ^ r ≡ 1) (odd : g % 2 ≡ 1) (pos : 0 < r) (w : List ℕ) (hw : Bits w) (long : r ≤ length w) where
  pub mirror-remainder : remainder (mirror r g) r w ≡ 0 → remainder g r (backwards w) ≡ 0
  mirror-remainder h =
      subst (λ (z : ℕ). remainder z r (backwards w) ≡ 0) (mirror-mirror r g deg)
      (mirror-divides r (mirror r g) (mirror_degree r g deg odd) pos (mirror_odd r g deg) w hw long h)

  pub remainder-mirror : remainder g r (backwards w) ≡ 0 → remainder (mirror r g) r w ≡ 0
  remainder-mirror h =
      subst (λ (z : List ℕ). remainder (mirror r g) r z ≡ 0) (backwards-twice w)
      (mirror-divides r g deg pos odd (backwards w) (backwards-bits w hw) (subst (λ (z : ℕ). r ≤ z) (sym (backwards-length w)) long) h)

  pub mirror_codeword : is_codeword (mirror r g) r w ≡ is_codeword g r (backwards w)
  unfolding is_codeword
  mirror_codeword = go (ℕ_discrete (remainder g r (backwards w)) 0)
    where
      go : Dec (remainder g r (backwards w) ≡ 0) → eqb (remainder (mirror r g) r w) 0 ≡ eqb (remainder g r (backwards w)) 0
      go (yes e) = ap (λ (z : ℕ). eqb z 0) (remainder-mirror e ∙ sym e)
      go (no d) = ne_eqb (remainder (mirror r g) r w) 0 (λ e. d (mirror-remainder e)) ∙ sym (ne_eqb (remainder g r (backwards w)) 0 d)
