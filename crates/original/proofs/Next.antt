-- A changed block of an original staircase frame alters its own parity and that of the next block, and no other.
--   remainder-append, remainder-zeros   the remainder of a word in two parts, and of zeros
--   linear_sums                         a linear map of a sum of many
--   remainder_of                         the remainder of n bits, given as a function of their position
--   remainder_of_sum, remainder_of_none, remainder_of_sums   of the sum of two words, of zeros, and of a sum of many words
--   remainder_of_powers                  as a sum of powers of x
--   column_divided                      a word of parity bits, one by each column of a block, is divided by the generator if the block's rows are
--   info_changes, end_changes             the changes of a word's information and of its parity
--   parity-digit                        a bit of changed parity, by the column of the block before
--   blocks-before, blocks-after         no change before the changed block, and none after the next one
--   own_divided, next_divided           the generator divides the rows of the changed block's changes, and the columns of the next one's
--   encoded_next                        the same of what the encoder makes
--   original_next                       the theorem
-- Assumes nothing.
use mathlib.Core.Path.{◌≡◌, refl, sym, ap, ap₂, ◌∙◌, subst}
use mathlib.Core.Logic.{◌≢◌, ◌⊎◌, inl, inr}
use mathlib.Core.List.{List, [], ◌∷◌, ◌++◌, map, map-append, append_assoc}
use Prim.Native.Nat.{ℕ, zero, suc, ◌+◌, ◌-◌, ◌*◌, ◌/◌, ◌%◌, ◌^◌, ◌≤◌, ◌<◌}
use native.Mathlib.Nat.{zero-mul, one-mul, mul-zero, mul_comm, mul-le-mul_right, not-suc-le-zero, div-lt_iff_lt-mul, le-div_iff_mul-le, mul-pos, zero-lt-suc}
use native.Mathlib.Decide.{dec_lt}
use native.Mathlib.Omega.{arith}
use lib.Arith.{digits_lt}
use lib.ListN.{length, get_or, replicate, length-replicate, get_or-eq_default}
use Rattle.bch.specs.Polynomial.{◌⊕◌, times_x, iterate, horner, remainder}
use Rattle.bch.specs.Code.{parity}
use Rattle.bch.specs.Powers.{power_mod, xor_sum}
use Rattle.bch.proofs.Sum.{bit_ind, mod2_bit, ⊕-self, ⊕_equal, ⊕-below, ⊕_shift, ⊕-mod, ⊕-zero-left, ⊕-zero-right}
use Rattle.bch.proofs.Polynomial.{linear_zero, linear_bit}
use Rattle.bch.proofs.Modulus.{times_x_linear, iterate-times_x_linear}
use Rattle.bch.proofs.Word.{sum_word, horner_shift, remainder-sum}
use Rattle.bch.proofs.Systematic.{horner-zeros, append_bits, parity-alone}
use Rattle.bch.proofs.PowerSum.{xor_sum-same, xor_sum-zero, remainder-powers, parity-at}
use Rattle.bch.proofs.Bch.{codeword_zero}
use Rattle.staircase.specs.Lists.{tabulate}
use Rattle.staircase.specs.Design.{Params, params}
use Rattle.staircase.specs.Frame.{Frame, Site, bit_at, read}
use Rattle.original.specs.Frame.{block_site, row_of, row_sites, buffer_of, encoded}
use Rattle.original.specs.Rules.{Original}
use Rattle.original.specs.Calls.{Written}
use Rattle.original.specs.Demand.{InfoBits}
use Rattle.original.specs.Next.{OutsideBlocks, SameInfoBut, OriginalNext}
use Rattle.staircase.proofs.Tabulate.{Binary, tabulate-length, tabulate-at, tabulate-bits, tabulate-same, tabulate-map, tabulate-append}
use Rattle.staircase.proofs.Flip.{bit_at-bits, read_length}
use Rattle.original.proofs.Rows.{column-of, the_block, the_row, the_column, the_spot}
use Rattle.original.proofs.Buffer.{column-mod, encoded-length, encoded-bits, encoded-info, encoded_in_code}
use Rattle.original.proofs.Rules.{original_limits, degree_some, degree_of}
use Rattle.original.proofs.Demand.{encode-made}

-- ---- remainders

abbrev Linear : (ℕ → ℕ) → Type 0
Linear φ = (a b : ℕ) → φ (a ⊕ b) ≡ φ a ⊕ φ b

horner_two : (T : ℕ → ℕ) → Linear T → (u v : List ℕ) (s : ℕ) → horner T s (u ++ v) ≡ iterate T (length v) (horner T s u) ⊕ horner T 0 v
unfolding horner
horner_two T lin [] v s = ap (λ (n : ℕ). horner T n v) (sym (⊕-zero-right s)) ∙ horner_shift T lin v s 0
horner_two T lin (b ∷ u) v s = horner_two T lin u v (T s ⊕ b)

pub remainder-append : (g r : ℕ) (u v : List ℕ) → remainder g r (u ++ v) ≡ iterate (times_x g r) (length v) (remainder g r u) ⊕ remainder g r v
unfolding remainder
remainder-append g r u v = horner_two (times_x g r) (times_x_linear g r) u v 0

remainder-zeros : (g r n : ℕ) → remainder g r (replicate n 0) ≡ 0
unfolding remainder
remainder-zeros g r = horner-zeros (times_x g r) (linear_zero (times_x g r) (times_x_linear g r))

tabulate-sum : (n : ℕ) (f h : ℕ → ℕ) → tabulate n (λ j. f j ⊕ h j) ≡ sum_word (tabulate n f) (tabulate n h)
unfolding tabulate sum_word
tabulate-sum zero f h = refl
tabulate-sum (suc n) f h = ap (λ (t : List ℕ). (f zero ⊕ h zero) ∷ t) (tabulate-sum n (λ k. f (suc k)) (λ k. h (suc k)))

-- a linear map of a sum of many
linear_sums : (φ : ℕ → ℕ) → Linear φ → (n : ℕ) (x v : ℕ → ℕ) → Binary x → φ (xor_sum n (λ k. x k * v k)) ≡ xor_sum n (λ k. x k * φ (v k))
unfolding xor_sum
linear_sums φ lin zero x v hx = linear_zero φ lin
linear_sums φ lin (suc n) x v hx =
    lin (xor_sum n (λ k. x k * v k)) (x n * v n) ∙ ap₂ ◌⊕◌ (linear_sums φ lin n x v hx) (linear_bit φ lin (x n) (v n) (hx n))

module _ (g r : ℕ) where
  abbrev remainder_of : ℕ → (ℕ → ℕ) → ℕ
  remainder_of n f = remainder g r (tabulate n f)

  remainder_of_sum : (n : ℕ) (f h : ℕ → ℕ) → remainder_of n (λ j. f j ⊕ h j) ≡ remainder_of n f ⊕ remainder_of n h
  remainder_of_sum n f h =
      ap (remainder g r) (tabulate-sum n f h) ∙ remainder-sum g r (tabulate n f) (tabulate n h) (tabulate-length n f ∙ sym (tabulate-length n h))

  remainder_of_none : (n : ℕ) (f : ℕ → ℕ) → ((j : ℕ) → j < n → f j ≡ 0) → remainder_of n f ≡ 0
  remainder_of_none n f h =
      ap (remainder g r) (tabulate-same n f (λ j. f j ⊕ f j) (λ j l. h j l ∙ sym (⊕-self (f j)))) ∙ remainder_of_sum n f f ∙ ⊕-self (remainder_of n f)

  remainder_of_bit : (n x : ℕ) (f : ℕ → ℕ) → x < 2 → remainder_of n (λ j. x * f j) ≡ x * remainder_of n f
  remainder_of_bit n x f hx =
      bit_ind (λ (x : ℕ). remainder_of n (λ j. x * f j) ≡ x * remainder_of n f)
      (remainder_of_none n (λ j. 0 * f j) (λ j l. zero-mul (f j)) ∙ sym (zero-mul (remainder_of n f)))
      (ap (remainder g r) (tabulate-same n (λ j. 1 * f j) f (λ j l. one-mul (f j))) ∙ sym (one-mul (remainder_of n f))) x hx

  remainder_of_sums : (n m : ℕ) (x : ℕ → ℕ) (F : ℕ → ℕ → ℕ) → Binary x
      → remainder_of n (λ j. xor_sum m (λ k. x k * F k j)) ≡ xor_sum m (λ k. x k * remainder_of n (F k))
  unfolding xor_sum
  remainder_of_sums n zero x F hx = remainder_of_none n (λ j. 0) (λ j l. refl)
  remainder_of_sums n (suc m) x F hx =
      remainder_of_sum n (λ j. xor_sum m (λ k. x k * F k j)) (λ j. x m * F m j)
      ∙ ap₂ ◌⊕◌ (remainder_of_sums n m x F hx) (remainder_of_bit n (x m) (F m) (hx m))

  remainder_of_powers : (n : ℕ) (f : ℕ → ℕ) → Binary f → remainder_of n f ≡ xor_sum n (λ k. f k * power_mod g r (n - suc k))
  remainder_of_powers n f hf =
      let w : List ℕ = tabulate n f in
      remainder-powers g r w (tabulate-bits n f hf)
      ∙ ap (λ (m : ℕ). xor_sum m (λ j. get_or w j 0 * power_mod g r (m - suc j))) (tabulate-length n f)
      ∙ xor_sum-same n (λ j. get_or w j 0 * power_mod g r (n - suc j)) (λ j. f j * power_mod g r (n - suc j))
      (λ j l. ap (λ (b : ℕ). b * power_mod g r (n - suc j)) (tabulate-at n f 0 j l))

  -- A word whose bit a is a linear function of the remainder of column a of a block is a sum of rows of the block. So the generator divides it if it
  -- divides the rows.
  column_divided : (φ : ℕ → ℕ) → Linear φ → Binary φ → (n : ℕ) (A : ℕ → ℕ → ℕ) → ((i j : ℕ) → A i j < 2)
      → ((i : ℕ) → i < n → remainder_of n (A i) ≡ 0) → remainder_of n (λ a. φ (remainder_of n (λ i. A i a))) ≡ 0
  column_divided φ lin small n A bits rows =
      let y : ℕ → ℕ = λ k. φ (power_mod g r (n - suc k)) in
      ap (remainder g r)
      (tabulate-same n (λ a. φ (remainder_of n (λ i. A i a))) (λ a. xor_sum n (λ k. y k * A k a))
      (λ a l. ap φ (remainder_of_powers n (λ i. A i a) (λ i. bits i a))
      ∙ linear_sums φ lin n (λ k. A k a) (λ k. power_mod g r (n - suc k)) (λ k. bits k a)
      ∙ xor_sum-same n (λ k. A k a * y k) (λ k. y k * A k a) (λ k h. mul_comm (A k a) (y k))))
      ∙ remainder_of_sums n n y A (λ k. small (power_mod g r (n - suc k)))
      ∙ xor_sum-zero n (λ k. y k * remainder_of n (A k)) (λ k h. ap (λ (z : ℕ). y k * z) (rows k h) ∙ mul-zero (y k))

-- ---- a staircase of changes: D b i j is the change of bit (i, j) of block b, where block 0 is not sent, and no information changes but that of block c + 1

-- column a of block b before row a of block b + 1, in two parts: the information of a word and its parity
module _ (r M : ℕ) (D : ℕ → ℕ → ℕ → ℕ) (b a : ℕ) where
  abbrev info_changes : List ℕ
  info_changes = tabulate M (λ j. D b j a) ++ tabulate (M - r) (λ j. D (suc b) a j)

  abbrev end_changes : List ℕ
  end_changes = tabulate r (λ j. D (suc b) a (M - r + j))

module _ (g r M : ℕ) (pos : 0 < r) (thin : r < M) (deg : g / 2 ^ r ≡ 1) (L : ℕ) (D : ℕ → ℕ → ℕ → ℕ) (bits : (b i j : ℕ) → D b i j < 2)
    (none : (i j : ℕ) → D 0 i j ≡ 0) (coded : (b a : ℕ) → b < L → a < M → remainder g r (info_changes r M D b a ++ end_changes r M D b a) ≡ 0)
    (c : ℕ) (same : (b a j : ℕ) → b < L → b ≢ c → a < M → j < M - r → D (suc b) a j ≡ 0) where
  abbrev T : ℕ → ℕ → ℕ
  T = iterate (times_x g r)

  -- no change; the generator divides each column of the changes
  abbrev Still : ℕ → Type 0
  Still b = (i j : ℕ) → i < M → j < M → D b i j ≡ 0

  abbrev Divided : ℕ → Type 0
  Divided b = (a : ℕ) → a < M → remainder_of g r M (λ k. D b k a) ≡ 0

  still_divided : (b : ℕ) → Still b → Divided b
  still_divided b h a ha = remainder_of_none g r M (λ k. D b k a) (λ k l. h k a l ha)

  -- bit e of the parity, by the remainder of the column before it
  abbrev digit : ℕ → ℕ → ℕ
  digit e x = T r (T (M - r) x) / 2 ^ (r - 1 - e) % 2

  digit_linear : (e x y : ℕ) → digit e (x ⊕ y) ≡ digit e x ⊕ digit e y
  digit_linear e x y =
      let k : ℕ = r - 1 - e in
      let u : ℕ = T r (T (M - r) x) in
      let v : ℕ = T r (T (M - r) y) in
      ap (λ (z : ℕ). z / 2 ^ k % 2) (ap (T r) (iterate-times_x_linear g r (M - r) x y) ∙ iterate-times_x_linear g r r (T (M - r) x) (T (M - r) y))
      ∙ ap (λ (z : ℕ). z % 2) (⊕_shift u v k) ∙ ⊕-mod 1 (u / 2 ^ k) (v / 2 ^ k)

  digit-below : (e x : ℕ) → digit e x < 2
  digit-below e x = mod2_bit (T r (T (M - r) x) / 2 ^ (r - 1 - e))

  parity-digit : (b a e : ℕ) → b < L → b ≢ c → a < M → e < r → D (suc b) a (M - r + e) ≡ digit e (remainder_of g r M (λ k. D b k a))
  parity-digit b a e hb ne ha he =
      let before : ℕ → ℕ = λ j. D b j a in
      let own : ℕ → ℕ = λ j. D (suc b) a j in
      let end : ℕ → ℕ = λ j. D (suc b) a (M - r + j) in
      let A : List ℕ = tabulate M before in
      let B : List ℕ = tabulate (M - r) own in
      let u : List ℕ = A ++ B in
      let zs : List ℕ = replicate r 0 in
      let made : tabulate r end ≡ parity g r u =
      parity-alone g r pos deg u (append_bits A B (tabulate-bits M before (λ j. bits b j a)) (tabulate-bits (M - r) own (bits (suc b) a)))
      (tabulate r end) (tabulate-bits r end (λ j. bits (suc b) a (M - r + j))) (tabulate-length r end) (coded b a hb ha) in
      let first : remainder g r u ≡ T (M - r) (remainder g r A) =
      remainder-append g r A B
      ∙ ap₂ (λ (n x : ℕ). T n (remainder g r A) ⊕ x) (tabulate-length (M - r) own) (remainder_of_none g r (M - r) own (λ j l. same b a j hb ne ha l))
      ∙ ⊕-zero-right (T (M - r) (remainder g r A)) in
      let all : remainder g r (u ++ zs) ≡ T r (T (M - r) (remainder g r A)) =
      remainder-append g r u zs ∙ ap₂ (λ (n x : ℕ). T n (remainder g r u) ⊕ x) (length-replicate r 0) (remainder-zeros g r r)
      ∙ ⊕-zero-right (T r (remainder g r u)) ∙ ap (T r) first in
      sym (tabulate-at r end 0 e he) ∙ ap (λ (w : List ℕ). get_or w e 0) made ∙ parity-at g r u e he ∙ ap (λ (z : ℕ). z / 2 ^ (r - 1 - e) % 2) all

  -- a column is of the information or of the parity
  split : (P : ℕ → Type 0) → ((j : ℕ) → j < M - r → P j) → ((e : ℕ) → e < r → P (M - r + e)) → (j : ℕ) → j < M → P j
  split P p q j hj = go (dec_lt j (M - r))
    where
      go : Dec (j < M - r) → P j
      go (yes l) = p j l
      go (no l) = let e : M - r + (j - (M - r)) ≡ j = omega (arith, l) in subst P e (q (j - (M - r)) (omega (arith, l, hj, thin)))

  next_still : (b : ℕ) → b < L → b ≢ c → Divided b → Still (suc b)
  next_still b hb ne h i j hi =
      split (λ j. D (suc b) i j ≡ 0) (λ j l. same b i j hb ne hi l)
      (λ e l. parity-digit b i e hb ne hi l ∙ ap (digit e) (h i hi) ∙ linear_zero (digit e) (digit_linear e)) j

  blocks-before : (b : ℕ) → b ≤ L → b ≤ c → Still b
  blocks-before zero hb hc = λ i j hi hj. none i j
  blocks-before (suc b) hb hc =
      next_still b (omega (arith, hb)) (λ e. omega (arith, hc, e)) (still_divided b (blocks-before b (omega (arith, hb)) (omega (arith, hc))))

  -- the generator divides the rows of the changes of block c + 1, since block c has none
  own_divided : c < L → (a : ℕ) → a < M → remainder_of g r M (D (suc c) a) ≡ 0
  own_divided hc a ha =
      let own : ℕ → ℕ = D (suc c) a in
      let A : List ℕ = tabulate M (λ j. D c j a) in
      let B : List ℕ = tabulate (M - r) own in
      let W : List ℕ = tabulate M own in
      let parts : W ≡ B ++ end_changes r M D c a =
      ap (λ (n : ℕ). tabulate n own) (let e : M ≡ M - r + r = omega (arith, thin) in e) ∙ tabulate-append (M - r) r own in
      let still : remainder g r A ≡ 0 = still_divided c (blocks-before c (omega (arith, hc)) (omega arith)) a ha in
      sym (⊕-zero-left (remainder g r W))
      ∙ ap (λ (x : ℕ). x ⊕ remainder g r W) (sym (ap (T (length W)) still ∙ linear_zero (T (length W)) (iterate-times_x_linear g r (length W))))
      ∙ sym (remainder-append g r A W)
      ∙ ap (remainder g r) (ap (λ (w : List ℕ). A ++ w) parts ∙ sym (append_assoc A B (end_changes r M D c a)))
      ∙ coded c a hc ha

  -- and so the columns of those of block c + 2
  next_divided : suc c < L → Divided (suc (suc c))
  next_divided hc =
      split (λ j. remainder_of g r M (λ k. D (suc (suc c)) k j) ≡ 0)
      (λ j l. remainder_of_none g r M (λ k. D (suc (suc c)) k j) (λ k h. same (suc c) k j hc (λ e. omega (arith, e)) h l))
      (λ e l. ap (remainder g r)
      (tabulate-same M (λ k. D (suc (suc c)) k (M - r + e)) (λ k. digit e (remainder_of g r M (λ i. D (suc c) i k)))
      (λ k h. parity-digit (suc c) k e hc (λ e. omega (arith, e)) h l))
      ∙ column_divided g r (digit e) (digit_linear e) (digit-below e) M (D (suc c)) (bits (suc c)) (own_divided (omega (arith, hc))))

  later_divided : (b : ℕ) → suc c ≤ b → b < L → (suc c < b → Still (suc b)) → Divided (suc b)
  later_divided b low hb h = go (dec_lt (suc c) b)
    where
      go : Dec (suc c < b) → Divided (suc b)
      go (yes l) = still_divided (suc b) (h l)
      go (no l) = let e : suc c ≡ b = omega (arith, low, l) in subst (λ (n : ℕ). Divided (suc n)) e (next_divided (omega (arith, hb, e)))

  blocks-after : (b : ℕ) → suc c < b → b < L → Still (suc b)
  blocks-after zero low hb = absurd (not-suc-le-zero low)
  blocks-after (suc b) low hb =
      next_still (suc b) hb (λ e. omega (arith, low, e))
      (later_divided b (omega (arith, low)) (omega (arith, hb)) (λ l. blocks-after b l (omega (arith, hb))))

-- ---- what the encoder makes of two buffers

sum-read : (f h : Frame) (w : List Site) → sum_word (read f w) (read h w) ≡ map (λ y. bit_at f y ⊕ bit_at h y) w
unfolding sum_word
sum-read f h [] = refl
sum-read f h (y ∷ w) = ap (λ (t : List ℕ). (bit_at f y ⊕ bit_at h y) ∷ t) (sum-read f h w)

module _ (s : Params) (rpos : 0 < s.r) (thin : s.r < s.M) (deg : s.g / 2 ^ s.r ≡ 1) (L : ℕ) (l v : List ℕ) (long : length l ≡ L * (s.M * s.M))
    (long₂ : length v ≡ L * (s.M * s.M)) (bits : InfoBits s l) (bits₂ : InfoBits s v) (c : ℕ) (but : SameInfoBut s c l v) where
  abbrev area : ℕ
  area = s.M * s.M

  abbrev f : Frame
  f = buffer_of (encoded s L l)

  abbrev h : Frame
  h = buffer_of (encoded s L v)

  abbrev change : Site → ℕ
  change y = bit_at f y ⊕ bit_at h y

  abbrev D : ℕ → ℕ → ℕ → ℕ
  D b i j = change (block_site s b (i * s.M + j))

  change_bit : (y : Site) → change y < 2
  change_bit y =
      ⊕-below 1 (bit_at f y) (bit_at h y) (bit_at-bits f (encoded-bits s rpos thin deg L l long bits) (λ k. zero-lt-suc 1) y)
      (bit_at-bits h (encoded-bits s rpos thin deg L v long₂ bits₂) (λ k. zero-lt-suc 1) y)

  change_word : (b a : ℕ) → map change (row_sites s b a) ≡ info_changes s.r s.M D b a ++ end_changes s.r s.M D b a
  unfolding row_of
  change_word b a =
      let A = tabulate s.M (λ j. block_site s b (j * s.M + a)) in
      let B = tabulate (s.M - s.r) (λ j. block_site s (suc b) (a * s.M + j)) in
      let C = tabulate s.r (λ j. block_site s (suc b) (a * s.M + (s.M - s.r + j))) in
      map-append change (A ++ B) C
      ∙ ap₂ (λ (x y : List ℕ). x ++ y)
      (map-append change A B
      ∙ ap₂ (λ (x y : List ℕ). x ++ y) (tabulate-map change s.M (λ j. block_site s b (j * s.M + a)))
      (tabulate-map change (s.M - s.r) (λ j. block_site s (suc b) (a * s.M + j))))
      (tabulate-map change s.r (λ j. block_site s (suc b) (a * s.M + (s.M - s.r + j))))

  change_coded : (b a : ℕ) → b < L → a < s.M → remainder s.g s.r (info_changes s.r s.M D b a ++ end_changes s.r s.M D b a) ≡ 0
  change_coded b a hb ha =
      let w : List Site = row_sites s b a in
      ap (remainder s.g s.r) (sym (sum-read f h w ∙ change_word b a))
      ∙ remainder-sum s.g s.r (read f w) (read h w) (read_length f w ∙ sym (read_length h w))
      ∙ ap₂ ◌⊕◌ (codeword_zero s.g s.r (read f w) (encoded_in_code s rpos thin deg L l long bits b a hb ha))
      (codeword_zero s.g s.r (read h w) (encoded_in_code s rpos thin deg L v long₂ bits₂ b a hb ha))
      ∙ ⊕-self 0

  change_info : (b a j : ℕ) → b < L → b ≢ c → a < s.M → j < s.M - s.r → D (suc b) a j ≡ 0
  change_info b a j hb ne ha hj =
      let k : ℕ = b * area + (a * s.M + j) in
      let column : k % s.M ≡ j = sym (column-mod s k) ∙ column-of s rpos thin deg b a j ha wide in
      let col : k % s.M < s.M - s.r = omega (arith, column, hj) in
      ap₂ ◌⊕◌ (encoded-info s rpos thin deg L l long k col ∙ but k (outside (dec_lt b c)) col) (encoded-info s rpos thin deg L v long₂ k col)
      ∙ ⊕-self (get_or v k 0)
    where
      wide : j < s.M
      wide = omega (arith, hj)

      outside : Dec (b < c) → OutsideBlocks s c 1 (b * area + (a * s.M + j))
      outside (yes l) = inl (digits_lt l (digits_lt ha wide))
      outside (no l) = inr (let p : (c + 1) * area ≤ b * area = mul-le-mul_right area (let q : c + 1 ≤ b = omega (arith, l, ne) in q) in omega (arith, p))

  change_none : (b i j : ℕ) → b < L → (b < c) ⊎ (suc c < b) → i < s.M → j < s.M → D (suc b) i j ≡ 0
  change_none b i j hb (inl x) =
      blocks-before s.g s.r s.M rpos thin deg L D (λ b i j. change_bit (block_site s b (i * s.M + j))) (λ i j. ⊕-self 0) change_coded c change_info
      (suc b) hb x i j
  change_none b i j hb (inr x) =
      blocks-after s.g s.r s.M rpos thin deg L D (λ b i j. change_bit (block_site s b (i * s.M + j))) (λ i j. ⊕-self 0) change_coded c change_info
      b x hb i j

  pub encoded_next : (k : ℕ) → OutsideBlocks s c 2 k → get_or (encoded s L l) k 0 ≡ get_or (encoded s L v) k 0
  encoded_next k out = go (dec_lt k (L * area))
    where
      some : 0 < area
      some = mul-pos (omega (arith, thin)) (omega (arith, thin))

      block : OutsideBlocks s c 2 k → (k / area < c) ⊎ (suc c < k / area)
      block (inl x) = inl ((div-lt_iff_lt-mul some).1 x)
      block (inr x) = inr (let q : c + 2 ≤ k / area = (le-div_iff_mul-le some).1 x in omega (arith, q))

      go : Dec (k < L * area) → get_or (encoded s L l) k 0 ≡ get_or (encoded s L v) k 0
      go (yes hk) =
          let e = the_spot s rpos thin deg L k hk in
          ap (bit_at f) e
          ∙ ⊕_equal (change_none (k / area) (k % area / s.M) (k % area % s.M) (the_block s rpos thin deg L k hk) (block out)
          (the_row s rpos thin deg L k hk) (the_column s rpos thin deg L k hk))
          ∙ sym (ap (bit_at h) e)
      go (no hk) =
          get_or-eq_default (encoded s L l) 0 {n = k} (let e = encoded-length s rpos thin deg L l long in omega (arith, hk, e, long))
          ∙ sym (get_or-eq_default (encoded s L v) 0 {n = k} (let e = encoded-length s rpos thin deg L v long₂ in omega (arith, hk, e, long₂)))

-- ---- the theorem

pub original_next : (m t M col L : ℕ) → OriginalNext m t M col L
original_next m t M col L l l₂ G G₂ c but k out =
    let d : Original m t M col = original_limits m t M col G.design in
    ap (λ (z : Written). get_or z.buffer k 0) (encode-made m t M col L l G)
    ∙ encoded_next (params m t M col) (degree_some d) d.thin (degree_of d) L l l₂ G.fits G₂.fits G.bits G₂.bits c but k out
    ∙ sym (ap (λ (z : Written). get_or z.buffer k 0) (encode-made m t M col L l₂ G₂))
