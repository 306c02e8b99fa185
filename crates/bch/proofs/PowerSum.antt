-- The remainder of a word as a sum of powers of x, one for each of its ones.
--   xor_sum-same, xor_sum-zero, xor_sum-front, xor_sum-append   sums of many
--   linear_bits        a linear map of a number is the sum of its values at the powers of 2 that the number has
--   power_mod-below     a power is below 2^r
--   remainder-powers   the remainder of a word
--   shifted_powers     that of a word with r zeros behind it
--   parity-at          bit a of the parity is bit r - 1 - a of that remainder
-- Assumes nothing.
use mathlib.Core.Path.{◌≡◌, refl, sym, ap, ap₂, ◌∙◌}
use mathlib.Core.List.{List, [], ◌∷◌, ◌++◌}
use Prim.Native.Nat.{ℕ, zero, suc, ◌+◌, ◌-◌, ◌*◌, ◌/◌, ◌%◌, ◌^◌, ◌<◌}
use native.Mathlib.Nat.{zero-mul, mul-one, add-zero, add-suc, div-one, le_refl, zero-lt-suc, not-suc-le-zero, le_of_suc-le-suc, suc-sub-suc, sub-zero, div-div-eq-div-mul, pow-suc, pow-succ'}
use native.Mathlib.Omega.{arith}
use lib.Arith.{lt-one}
use lib.Pow.{pow_mono}
use lib.ListN.{length, get_or, replicate, length-append, length-replicate, get_or-replicate, get_or-append}
use lib.Seq.{get_or-append-add}
use Rattle.bch.specs.Polynomial.{Bits, ◌⊕◌, times_x, iterate, horner, remainder, bits_of}
use Rattle.bch.specs.Code.{parity}
use Rattle.bch.specs.Powers.{power_mod, xor_sum}
use Rattle.bch.proofs.Sum.{mod2_bit, ⊕_assoc, ⊕_comm, ⊕-self, ⊕-zero-right, ⊕_double}
use Rattle.bch.proofs.Polynomial.{linear_zero, linear_bit, half_and-bit}
use Rattle.bch.proofs.Modulus.{times_x_linear, iterate-times_x_linear, iterate-times_x-below}
use Rattle.bch.proofs.Word.{horner_cons}
use Rattle.bch.proofs.Systematic.{append_bits, zeros-bits}

-- ---- sums of many
pub xor_sum-same : (n : ℕ) (f g : ℕ → ℕ) → ((k : ℕ) → k < n → f k ≡ g k) → xor_sum n f ≡ xor_sum n g
unfolding xor_sum
xor_sum-same zero f g h = refl
xor_sum-same (suc n) f g h = ap₂ ◌⊕◌ (xor_sum-same n f g (λ k l. h k (omega arith))) (h n (le_refl (suc n)))

pub xor_sum-zero : (n : ℕ) (f : ℕ → ℕ) → ((k : ℕ) → k < n → f k ≡ 0) → xor_sum n f ≡ 0
unfolding xor_sum
xor_sum-zero zero f h = refl
xor_sum-zero (suc n) f h = ap₂ ◌⊕◌ (xor_sum-zero n f (λ k l. h k (omega arith))) (h n (le_refl (suc n))) ∙ ⊕-self 0

pub xor_sum-front : (n : ℕ) (f : ℕ → ℕ) → xor_sum (suc n) f ≡ f 0 ⊕ xor_sum n (λ k. f (suc k))
unfolding xor_sum
xor_sum-front zero f = ⊕_comm 0 (f 0)
xor_sum-front (suc n) f =
    ap (λ (z : ℕ). z ⊕ f (suc n)) (xor_sum-front n f) ∙ ⊕_assoc (f 0) (xor_sum n (λ k. f (suc k))) (f (suc n))

pub xor_sum-append : (m n : ℕ) (f : ℕ → ℕ) → xor_sum (m + n) f ≡ xor_sum m f ⊕ xor_sum n (λ k. f (m + k))
unfolding xor_sum
xor_sum-append m zero f = ap (λ (z : ℕ). xor_sum z f) (add-zero m) ∙ sym (⊕-zero-right (xor_sum m f))
xor_sum-append m (suc n) f =
    ap (λ (z : ℕ). xor_sum z f) (add-suc m n) ∙ ap (λ (z : ℕ). z ⊕ f (m + n)) (xor_sum-append m n f)
    ∙ ⊕_assoc (xor_sum m f) (xor_sum n (λ k. f (m + k))) (f (m + n))

pub linear_bits : (r : ℕ) (L : ℕ → ℕ) → ((a b : ℕ) → L (a ⊕ b) ≡ L a ⊕ L b) → (F : ℕ → ℕ) → ((k : ℕ) → k < r → L (2 ^ k) ≡ F k)
    → (x : ℕ) → x < 2 ^ r → L x ≡ xor_sum r (λ k. (x / 2 ^ k % 2) * F k)
unfolding xor_sum
linear_bits zero L lin F is x h = ap L (lt-one h) ∙ linear_zero L lin
linear_bits (suc r) L lin F is x h =
    let f : ℕ → ℕ = λ k. (x / 2 ^ k % 2) * F k in
    ap L (sym (half_and-bit x)) ∙ lin (x / 2 * 2) (x % 2)
    ∙ ap₂ ◌⊕◌
    (linear_bits r (λ v. L (v * 2)) (λ a b. ap L (⊕_double a b) ∙ lin (a * 2) (b * 2))
    (λ k. F (suc k)) (λ k l. ap L (sym (pow-suc 2 k)) ∙ is (suc k) (omega arith)) (x / 2) (omega arith)
    ∙ xor_sum-same r (λ k. (x / 2 / 2 ^ k % 2) * F (suc k)) (λ k. f (suc k))
    (λ k l. ap (λ (n : ℕ). n % 2 * F (suc k)) (div-div-eq-div-mul x 2 (2 ^ k) ∙ ap (λ n. x / n) (sym (pow-succ' 2 k)))))
    (ap L (sym (mul-one (x % 2))) ∙ linear_bit L lin (x % 2) 1 (mod2_bit x) ∙ ap₂ (λ (n v : ℕ). n % 2 * v) (sym (div-one x)) (is 0 (zero-lt-suc r)))
    ∙ ⊕_comm (xor_sum r (λ k. f (suc k))) (f 0) ∙ sym (xor_sum-front r f)

-- ---- remainders
pub power_mod-below : (g r : ℕ) → 0 < r → g / 2 ^ r ≡ 1 → (e : ℕ) → power_mod g r e < 2 ^ r
unfolding power_mod
power_mod-below g r pos deg e = iterate-times_x-below g r deg e 1 (pow_mono pos)

pub remainder-powers : (g r : ℕ) (w : List ℕ) → Bits w → remainder g r w ≡ xor_sum (length w) (λ j. get_or w j 0 * power_mod g r (length w - suc j))
unfolding remainder power_mod horner xor_sum
remainder-powers g r [] h = refl
remainder-powers g r (b ∷ w) h =
    let T : ℕ → ℕ = times_x g r in
    horner_cons T (times_x_linear g r) b w
    ∙ ap₂ ◌⊕◌
    (ap (iterate T (length w)) (sym (mul-one b)) ∙ linear_bit (iterate T (length w)) (iterate-times_x_linear g r (length w)) b 1 (h 0)
    ∙ ap (λ (e : ℕ). b * iterate T e 1) (sym (suc-sub-suc (length w) 0 ∙ sub-zero (length w))))
    (remainder-powers g r w (λ k. h (suc k))
    ∙ xor_sum-same (length w) (λ j. get_or w j 0 * iterate T (length w - suc j) 1) (λ j. get_or w j 0 * iterate T (suc (length w) - suc (suc j)) 1)
    (λ j l. ap (λ (e : ℕ). get_or w j 0 * iterate T e 1) (sym (suc-sub-suc (length w) (suc j)))))
    ∙ sym (xor_sum-front (length w) (λ j. get_or (b ∷ w) j 0 * iterate T (suc (length w) - suc j) 1))

pub shifted_powers : (g r : ℕ) (u : List ℕ) → Bits u
    → remainder g r (u ++ replicate r 0) ≡ xor_sum (length u) (λ j. get_or u j 0 * power_mod g r (length u + r - suc j))
shifted_powers g r u h =
    let z : List ℕ = replicate r 0 in
    let n : ℕ = length u in
    let len : length (u ++ z) ≡ n + r = length-append u z ∙ ap (λ (k : ℕ). n + k) (length-replicate r 0) in
    let F : ℕ → ℕ = λ j. get_or (u ++ z) j 0 * power_mod g r (n + r - suc j) in
    remainder-powers g r (u ++ z) (append_bits u z h (zeros-bits r))
    ∙ ap (λ (k : ℕ). xor_sum k (λ j. get_or (u ++ z) j 0 * power_mod g r (k - suc j))) len
    ∙ xor_sum-append n r F
    ∙ ap₂ ◌⊕◌
    (xor_sum-same n F (λ j. get_or u j 0 * power_mod g r (n + r - suc j)) (λ j l. ap (λ (b : ℕ). b * power_mod g r (n + r - suc j)) (get_or-append u z 0 j l)))
    (xor_sum-zero r (λ k. F (n + k))
    (λ k l. ap (λ (b : ℕ). b * power_mod g r (n + r - suc (n + k))) (get_or-append-add u z k 0 ∙ get_or-replicate r k 0 0 l) ∙ zero-mul (power_mod g r (n + r - suc (n + k)))))
    ∙ ⊕-zero-right (xor_sum n (λ j. get_or u j 0 * power_mod g r (n + r - suc j)))

bits_of-at : (n p a : ℕ) → a < n → get_or (bits_of n p) a 0 ≡ p / 2 ^ (n - 1 - a) % 2
unfolding bits_of
bits_of-at zero p a h = absurd (not-suc-le-zero h)
bits_of-at (suc n) p zero h = ap (λ (e : ℕ). p / 2 ^ e % 2) (let e : n ≡ suc n - 1 - 0 = omega arith in e)
bits_of-at (suc n) p (suc a) h =
    bits_of-at n p a (le_of_suc-le-suc h) ∙ ap (λ (e : ℕ). p / 2 ^ e % 2) (let e : n - 1 - a ≡ suc n - 1 - suc a = omega arith in e)

pub parity-at : (g r : ℕ) (u : List ℕ) (a : ℕ) → a < r → get_or (parity g r u) a 0 ≡ remainder g r (u ++ replicate r 0) / 2 ^ (r - 1 - a) % 2
unfolding parity
parity-at g r u = bits_of-at r (remainder g r (u ++ replicate r 0))
