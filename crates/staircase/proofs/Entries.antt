-- Entries of the system and of its constant by sums of powers of x, as code takes them.
--   sum_bits_last       a sum by its last term
--   eqb_iff            tests of equations that hold together
--   coefficient        what bit b of X or Y adds to bit a of the parity
--   column_remainder, row_remainder           the remainder of the blocks of a word
--   column_parity-powers, row_parity-powers   P and Q by remainders
--   system-row         the entries of a row of A, by the places of Y that its words read
-- Assumes nothing.
use mathlib.Core.Path.{◌≡◌, sym, ap, ap₂, ◌∙◌}
use mathlib.Core.Bool.{Bool, true, false, cond}
use mathlib.Core.List.{List, ◌++◌}
use Prim.Native.Nat.{ℕ, zero, suc, ◌+◌, ◌-◌, ◌*◌, ◌/◌, ◌%◌, ◌^◌, ◌<◌}
use native.Mathlib.Nat.{zero-div, zero-mul, one-mul, mod-lt, div-lt_iff_lt-mul}
use native.Mathlib.Decide.{ℕ_discrete}
use native.Mathlib.Omega.{arith}
use lib.Arith.{digits_div, digits_mod}
use lib.Dec.{eqb}
use lib.ListN.{length, get_or, replicate, length-append, get_or-append}
use lib.Seq.{get_or-append-add}
use borrow.Author.Tests.{eq-eqb, ne_eqb}
use Rattle.bch.specs.Polynomial.{Bits, ◌⊕◌, remainder}
use Rattle.bch.specs.Code.{parity}
use Rattle.bch.specs.Powers.{power_mod, xor_sum}
use Rattle.bch.proofs.Sum.{bit_ind, mod2_bit, ⊕_shift, ⊕-mod, ⊕-zero-left}
use Rattle.bch.proofs.PowerSum.{xor_sum-same, xor_sum-zero, xor_sum-append, shifted_powers, parity-at}
use Rattle.staircase.specs.Lists.{bit_sum, sum_bits, tabulate}
use Rattle.staircase.specs.Design.{Params, Interleavers, column_generator, column_code, word_length, order}
use Rattle.staircase.specs.Word.{row_info, column_info}
use Rattle.staircase.specs.System.{Contents, zeros, unit, stack, unstack, preimage, column_parity, row_parity, residual, system_entry}
use Rattle.staircase.specs.Demand2.{Permutes}
use Rattle.staircase.proofs.Matrix.{bit_sum_assoc, sum_bits-same}
use Rattle.staircase.proofs.Tabulate.{Binary, tabulate-length, tabulate-at}
use Rattle.staircase.proofs.Stretches.{three, three_bits}
use Rattle.staircase.proofs.Parity.{bit-⊕}
use Rattle.staircase.proofs.Permutation.{preimage-sent}
use Rattle.staircase.proofs.System.{Proper, place_lt, row-of, unstack-lt, stack-unstack, unstack-stack}

-- ---- sums of bits and sums of numbers

pub sum_bits_last : (n : ℕ) (f : ℕ → ℕ) → sum_bits (suc n) f ≡ bit_sum (sum_bits n f) (f n)
unfolding sum_bits
sum_bits_last zero f = omega arith
sum_bits_last (suc n) f = ap (bit_sum (f zero)) (sum_bits_last n (λ k. f (suc k))) ∙ sym (bit_sum_assoc (f zero) (sum_bits n (λ k. f (suc k))) (f (suc n)))

-- a digit of a sum of numbers is the sum of their digits
xor_sum-digit : (n k : ℕ) (f : ℕ → ℕ) → xor_sum n f / 2 ^ k % 2 ≡ sum_bits n (λ j. f j / 2 ^ k % 2)
unfolding xor_sum sum_bits
xor_sum-digit zero k f = ap (λ (z : ℕ). z % 2) (zero-div (2 ^ k))
xor_sum-digit (suc n) k f =
    ap (λ (z : ℕ). z % 2) (⊕_shift (xor_sum n f) (f n) k)
    ∙ ⊕-mod 1 (xor_sum n f / 2 ^ k) (f n / 2 ^ k)
    ∙ bit-⊕ (xor_sum n f / 2 ^ k % 2) (f n / 2 ^ k % 2) (mod2_bit (xor_sum n f / 2 ^ k)) (mod2_bit (f n / 2 ^ k))
    ∙ ap (λ (z : ℕ). bit_sum z (f n / 2 ^ k % 2)) (xor_sum-digit n k f)
    ∙ sym (sum_bits_last n (λ j. f j / 2 ^ k % 2))

bit-digit : (b x k : ℕ) → b < 2 → b * x / 2 ^ k % 2 ≡ b * (x / 2 ^ k % 2)
bit-digit b x k h =
    bit_ind (λ (b : ℕ). b * x / 2 ^ k % 2 ≡ b * (x / 2 ^ k % 2))
    (ap (λ (z : ℕ). z / 2 ^ k % 2) (zero-mul x) ∙ ap (λ (z : ℕ). z % 2) (zero-div (2 ^ k)) ∙ sym (zero-mul (x / 2 ^ k % 2)))
    (ap (λ (z : ℕ). z / 2 ^ k % 2) (one-mul x) ∙ sym (one-mul (x / 2 ^ k % 2))) b h

-- two equations that hold together have the same test
pub eqb_iff : (a b c d : ℕ) → (a ≡ b → c ≡ d) → (c ≡ d → a ≡ b) → eqb a b ≡ eqb c d
eqb_iff a b c d f g = go (ℕ_discrete a b)
  where
    go : Dec (a ≡ b) → eqb a b ≡ eqb c d
    go (yes e) = eq-eqb a b e ∙ sym (eq-eqb c d (f e))
    go (no n) = ne_eqb a b n ∙ sym (ne_eqb c d (λ e. n (g e)))

-- ---- the remainder of a word's information

module _ (s : Params) where
  -- three stretches of a word: M, M and r bits
  info-powers : (f h k : ℕ → ℕ) → Binary f → Binary h → Binary k
      → remainder s.g s.r (tabulate s.M f ++ tabulate s.M h ++ tabulate s.r k ++ replicate s.r 0)
      ≡ xor_sum s.M (λ j. f j * power_mod s.g s.r (word_length s - 1 - j))
      ⊕ xor_sum s.M (λ j. h j * power_mod s.g s.r (word_length s - 1 - (s.M + j)))
      ⊕ xor_sum s.r (λ b. k b * power_mod s.g s.r (2 * s.r - 1 - b))
  info-powers f h k hf hh hk =
      let A : List ℕ = tabulate s.M f in
      let B : List ℕ = tabulate s.M h in
      let C : List ℕ = tabulate s.r k in
      let u : List ℕ = A ++ B ++ C in
      let X : ℕ → ℕ = power_mod s.g s.r in
      let l_a : length A ≡ s.M = tabulate-length s.M f in
      let l_b : length B ≡ s.M = tabulate-length s.M h in
      let l_c : length C ≡ s.r = tabulate-length s.r k in
      let l_aB : length (A ++ B) ≡ s.M + s.M = length-append A B ∙ ap₂ ◌+◌ l_a l_b in
      let lu : length u ≡ s.M + s.M + s.r = length-append (A ++ B) C ∙ ap₂ ◌+◌ l_aB l_c in
      let F : ℕ → ℕ = λ j. get_or u j 0 * X (s.M + s.M + s.r + s.r - suc j) in
      let bits : Bits u = three_bits s.M s.r f h k hf hh hk in
      shifted_powers s.g s.r u bits
      ∙ ap (λ (n : ℕ). xor_sum n (λ j. get_or u j 0 * X (n + s.r - suc j))) lu
      ∙ xor_sum-append (s.M + s.M) s.r F
      ∙ ap₂ ◌⊕◌
      (xor_sum-append s.M s.M F
      ∙ ap₂ ◌⊕◌
      (xor_sum-same s.M F (λ j. f j * X (word_length s - 1 - j))
      (λ j l. ap₂ (λ (b e : ℕ). b * X e)
      (get_or-append (A ++ B) C 0 j (omega (arith, l_aB)) ∙ get_or-append A B 0 j (omega (arith, l_a)) ∙ tabulate-at s.M f 0 j l) (omega arith)))
      (xor_sum-same s.M (λ j. F (s.M + j)) (λ j. h j * X (word_length s - 1 - (s.M + j)))
      (λ j l. ap₂ (λ (b e : ℕ). b * X e)
      (get_or-append (A ++ B) C 0 (s.M + j) (omega (arith, l_aB)) ∙ ap (λ (z : ℕ). get_or (A ++ B) (z + j) 0) (sym l_a) ∙ get_or-append-add A B j 0 ∙ tabulate-at s.M h 0 j l)
      (omega arith))))
      (xor_sum-same s.r (λ b. F (s.M + s.M + b)) (λ b. k b * X (2 * s.r - 1 - b))
      (λ b l. ap₂ (λ (z e : ℕ). z * X e)
      (ap (λ (z : ℕ). get_or u (z + b) 0) (sym l_aB) ∙ get_or-append-add (A ++ B) C b 0 ∙ tabulate-at s.r k 0 b l) (omega arith)))

-- Bit a of the parity of a word whose information has its only one at bit b of X or of Y: they stand at the same positions.
unfoldable pub coefficient : Params → ℕ → ℕ → ℕ
coefficient s b a = power_mod s.g s.r (2 * s.r - 1 - b) / 2 ^ (s.r - 1 - a) % 2

-- The remainder of the blocks of a word, by their bits in the word's order; of a column word's, and of a row word's.
abbrev pub blocks_remainder : Params → (ℕ → ℕ) → (ℕ → ℕ) → ℕ
blocks_remainder s f h =
    xor_sum s.M (λ j. f j * power_mod s.g s.r (word_length s - 1 - j)) ⊕ xor_sum s.M (λ j. h j * power_mod s.g s.r (word_length s - 1 - (s.M + j)))

unfoldable pub column_remainder : Params → Contents → Contents → ℕ → ℕ
column_remainder s odd even a = blocks_remainder (column_code s) (λ j. odd (j * s.M + a)) (λ j. even (j * s.M + a))

unfoldable pub row_remainder : Params → Contents → Contents → ℕ → ℕ
row_remainder s before odd a = blocks_remainder s (λ j. before (a * s.M + j)) (λ j. odd (a * s.M + j))

module _ (s : Params) where
  -- the sum over X or Y
  abbrev terms : (ℕ → ℕ) → ℕ
  terms k = xor_sum s.r (λ b. k b * power_mod s.g s.r (2 * s.r - 1 - b))

  parity-powers : (f h k : ℕ → ℕ) → Binary f → Binary h → Binary k → (a : ℕ) → a < s.r
      → get_or (parity s.g s.r (three s.M s.r f h k)) a 0 ≡ (blocks_remainder s f h ⊕ terms k) / 2 ^ (s.r - 1 - a) % 2
  parity-powers f h k hf hh hk a l =
      parity-at s.g s.r (three s.M s.r f h k) a l ∙ ap (λ (R : ℕ). R / 2 ^ (s.r - 1 - a) % 2) (info-powers s f h k hf hh hk)

  -- for zero blocks
  parity_terms : (k : ℕ → ℕ) → Binary k → (a : ℕ) → a < s.r
      → get_or (parity s.g s.r (three s.M s.r zeros zeros k)) a 0 ≡ sum_bits s.r (λ b. k b * coefficient s b a)
  unfolding coefficient
  parity_terms k hk a l =
      parity-powers zeros zeros k (λ j. omega arith) (λ j. omega arith) hk a l
      ∙ ap (λ (z : ℕ). z / 2 ^ (s.r - 1 - a) % 2)
      (ap (λ (z : ℕ). z ⊕ terms k)
      (ap₂ ◌⊕◌ (none (λ j. power_mod s.g s.r (word_length s - 1 - j))) (none (λ j. power_mod s.g s.r (word_length s - 1 - (s.M + j)))) ∙ ⊕-zero-left 0)
      ∙ ⊕-zero-left (terms k))
      ∙ xor_sum-digit s.r (s.r - 1 - a) (λ b. k b * power_mod s.g s.r (2 * s.r - 1 - b))
      ∙ sum_bits-same s.r (λ b. k b * power_mod s.g s.r (2 * s.r - 1 - b) / 2 ^ (s.r - 1 - a) % 2)
      (λ b. k b * (power_mod s.g s.r (2 * s.r - 1 - b) / 2 ^ (s.r - 1 - a) % 2))
      (λ b m. bit-digit (k b) (power_mod s.g s.r (2 * s.r - 1 - b)) (s.r - 1 - a) (hk b))
    where
      none : (X : ℕ → ℕ) → xor_sum s.M (λ j. 0 * X j) ≡ 0
      none X = xor_sum-zero s.M (λ j. 0 * X j) (λ k l. zero-mul (X k))

module _ (s : Params) (ok : Proper s) where
  pub column_parity-powers : (o e y : Contents) → Binary o → Binary e → Binary y → (q : ℕ) → q < order s
      → column_parity s o e y q
      ≡ (column_remainder s o e (q % s.M) ⊕ xor_sum s.r (λ b. y (b * s.M + q % s.M) * power_mod (column_generator s) s.r (2 * s.r - 1 - b))) / 2 ^ (s.r - 1 - q / s.M) % 2
  unfolding column_parity column_info column_remainder
  column_parity-powers o e y ho he hy q h =
      let at : ℕ → ℕ = λ j. j * s.M + q % s.M in
      parity-powers (column_code s) (λ j. o (at j)) (λ j. e (at j)) (λ b. y (at b)) (λ j. ho (at j)) (λ j. he (at j)) (λ b. hy (at b)) (q / s.M) (row-of s ok q h)

  pub row_parity-powers : (l : Interleavers) (f o y : Contents) → Binary f → Binary o → Binary y → (p : ℕ) → p < order s
      → row_parity s l f o y p
      ≡ (row_remainder s f o (p % s.M) ⊕ xor_sum s.r (λ b. y (get_or l.self (b * s.M + p % s.M) 0) * power_mod s.g s.r (2 * s.r - 1 - b))) / 2 ^ (s.r - 1 - p / s.M) % 2
  unfolding row_parity row_info row_remainder
  row_parity-powers l f o y hf ho hy p h =
      let at : ℕ → ℕ = λ j. p % s.M * s.M + j in
      let to : ℕ → ℕ = λ b. get_or l.self (b * s.M + p % s.M) 0 in
      parity-powers s (λ j. f (at j)) (λ j. o (at j)) (λ b. y (to b)) (λ j. hf (at j)) (λ j. ho (at j)) (λ b. hy (to b)) (p / s.M) (row-of s ok p h)

  column_terms : (y : Contents) → Binary y → (q : ℕ) → q < order s
      → column_parity s zeros zeros y q ≡ sum_bits s.r (λ b. y (b * s.M + q % s.M) * coefficient (column_code s) b (q / s.M))
  unfolding column_parity column_info
  column_terms y hy q h = parity_terms (column_code s) (λ b. y (b * s.M + q % s.M)) (λ b. hy (b * s.M + q % s.M)) (q / s.M) (row-of s ok q h)

  row_terms : (l : Interleavers) (y : Contents) → Binary y → (p : ℕ) → p < order s
      → row_parity s l zeros zeros y p ≡ sum_bits s.r (λ b. y (get_or l.self (b * s.M + p % s.M) 0) * coefficient s b (p / s.M))
  unfolding row_parity row_info
  row_terms l y hy p h =
      let to : ℕ → ℕ = λ b. get_or l.self (b * s.M + p % s.M) 0 in parity_terms s (λ b. y (to b)) (λ b. hy (to b)) (p / s.M) (row-of s ok p h)

-- ---- rows of A

unit_term : (z : Bool) (v : ℕ) → cond z 1 0 * v ≡ cond z v 0
unit_term true v = one-mul v
unit_term false v = zero-mul v

cond_below : (z : Bool) (v : ℕ) → v < 2 → cond z v 0 < 2
cond_below true v h = h
cond_below false v h = omega arith

unit-binary : (j : ℕ) → Binary (unit j)
unit-binary j k = cond_below (eqb k j) 1 (omega arith)

module _ (s : Params) (ok : Proper s) (l : Interleavers)
    (ps : Permutes (order s) (λ p. get_or l.self p 0)) (pp : Permutes (order s) (λ p. get_or l.parity p 0)) where
  -- the place in Q that the parity list sends to entry e
  abbrev pub source_of : ℕ → ℕ
  source_of e = preimage l.parity (order s) (unstack s e)

  source_below : (e : ℕ) → e < order s → source_of e < order s
  source_below e h = (preimage-sent l.parity (order s) pp (unstack s e) (unstack-lt s ok e h)).0

  -- a place of Y, and its entry in the stack
  stacked_test : (x j : ℕ) → x < order s → j < order s → eqb x (unstack s j) ≡ eqb (stack s x) j
  stacked_test x j hx hj =
      eqb_iff x (unstack s j) (stack s x) j (λ e. ap (stack s) e ∙ stack-unstack s ok j hj) (λ e. sym (unstack-stack s ok x hx) ∙ ap (unstack s) e)

  stack_place : (b c : ℕ) → c < s.M → stack s (b * s.M + c) ≡ c * s.r + b
  stack_place b c h = ap₂ (λ (x y : ℕ). x * s.r + y) (digits_mod b h) (digits_div b h)

  row-term : (j x v : ℕ) → x < order s → j < order s → unit (unstack s j) x * v ≡ cond (eqb (stack s x) j) v 0
  row-term j x v hx hj = unit_term (eqb x (unstack s j)) v ∙ ap (λ (z : Bool). cond z v 0) (stacked_test x j hx hj)

  self_place : (b a : ℕ) → b < s.r → a < s.M → get_or l.self (b * s.M + a) 0 < order s
  self_place b a hb ha = ps.below (b * s.M + a) (place_lt s ok b a hb ha)

  pub system-row : (e j : ℕ) → e < order s → j < order s
      → system_entry s l e j
      ≡ bit_sum (sum_bits s.r (λ b. cond (eqb (e / s.r * s.r + b) j) (coefficient (column_code s) b (e % s.r)) 0))
      (sum_bits s.r (λ b. cond (eqb (stack s (get_or l.self (b * s.M + source_of e % s.M) 0)) j) (coefficient s b (source_of e / s.M)) 0))
  unfolding system_entry residual
  system-row e j he hj =
      let q : ℕ = unstack s e in
      let p : ℕ = source_of e in
      let c : ℕ = e / s.r in
      let hc : c < s.M = (div-lt_iff_lt-mul ok.rpos).1 he in
      let qc : q % s.M ≡ c = digits_mod (e % s.r) hc in
      let qa : q / s.M ≡ e % s.r = digits_div (e % s.r) hc in
      let y : Contents = unit (unstack s j) in
      ap₂ bit_sum
      (column_terms s ok y (unit-binary (unstack s j)) q (unstack-lt s ok e he)
      ∙ sum_bits-same s.r (λ b. y (b * s.M + q % s.M) * coefficient (column_code s) b (q / s.M))
      (λ b. cond (eqb (c * s.r + b) j) (coefficient (column_code s) b (e % s.r)) 0)
      (λ b m. ap₂ (λ (x z : ℕ). y (b * s.M + x) * coefficient (column_code s) b z) qc qa
      ∙ row-term j (b * s.M + c) (coefficient (column_code s) b (e % s.r)) (place_lt s ok b c m hc) hj
      ∙ ap (λ (x : ℕ). cond (eqb x j) (coefficient (column_code s) b (e % s.r)) 0) (stack_place b c hc)))
      (row_terms s ok l y (unit-binary (unstack s j)) p (source_below e he)
      ∙ sum_bits-same s.r (λ b. y (get_or l.self (b * s.M + p % s.M) 0) * coefficient s b (p / s.M))
      (λ b. cond (eqb (stack s (get_or l.self (b * s.M + p % s.M) 0)) j) (coefficient s b (p / s.M)) 0)
      (λ b m. row-term j (get_or l.self (b * s.M + p % s.M) 0) (coefficient s b (p / s.M)) (self_place b (p % s.M) m (mod-lt p ok.mpos)) hj))
