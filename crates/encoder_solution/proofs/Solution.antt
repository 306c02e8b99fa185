-- The solutions of up to 64 groups in one list of words, and the working words of their product.
--   front_each        what holds of every word and of 0 holds of the first words too
--   zeros-part        a part of a list of zeros has zeros
--   front-product     a product by the first words, where those behind are 0
--   stack-spare       the words behind the stack are 0
--   stack-few         and so are the bits of the stack's words that no group has
--   solution_made     what two transpositions and the product in between make is the solutions
--   solution_bit      bit g of them is the inverse times the constant of group g
-- Assumes nothing.
use mathlib.Core.Path.{◌≡◌, refl, ap, ◌∙◌, subst⁻¹}
use mathlib.Core.List.{List, ◌++◌}
use Prim.Native.Nat.{ℕ, ◌+◌, ◌-◌, ◌*◌, ◌/◌, ◌%◌, ◌^◌, ◌≤◌, ◌<◌}
use native.Mathlib.Nat.{mul_comm}
use native.Mathlib.Decide.{dec_lt}
use native.Mathlib.Omega.{arith}
use lib.ListN.{length, get_or, take, drop, replicate, length-take, get_or-append, get_or-eq_default}
use lib.Seq.{get_or-take, get_or-drop, get_or-append-add}
use Rattle.bch.specs.Polynomial.{◌⊕◌}
use Rattle.bch.specs.Powers.{xor_sum}
use Rattle.bch.proofs.Sum.{mod2_bit, ⊕-zero-left}
use Rattle.bch.proofs.Store.{zeros-at}
use Rattle.staircase.specs.Lists.{sum_bits, tabulate}
use Rattle.staircase.specs.System.{row_bytes, inverse_entry}
use Rattle.staircase.proofs.Tabulate.{tabulate-length, tabulate-at, tabulate-same}
use Rattle.matrix.proofs.Bits.{bit, bit-zero}
use Rattle.encoder_solution.specs.Words.{row_product, solution_word}
use Rattle.encoder_solution.proofs.Stack.{place, stack-entry}
use Rattle.encoder_solution.proofs.Words.{product-same, product-spare, xor_sum-bit}

-- what holds of every word, and of 0, holds of the first m words and of what stands behind them
pub front_each : (P : ℕ → ℕ → Type 0) (l : List ℕ) (m : ℕ) → ((k : ℕ) → P k 0) → ((k : ℕ) → P k (get_or l k 0)) → (k : ℕ) → P k (get_or (take m l) k 0)
front_each P l m none each k = go (dec_lt k m)
  where
    go : Dec (k < m) → P k (get_or (take m l) k 0)
    go (yes h) = subst⁻¹ (P k) (get_or-take m l k 0 h) (each k)
    go (no h) = subst⁻¹ (P k) (get_or-eq_default (take m l) 0 (omega (arith, length-take m l))) (none k)

pub zeros-part : (m n k : ℕ) → ◌≡◌ {A = ℕ} (get_or (take n (drop 0 (replicate m 0))) k 0) 0
zeros-part m n = front_each (λ k x. x ≡ 0) (replicate m 0) n (λ k. refl) (zeros-at m)

pub front-product : (inverse constants : List ℕ) (w e n m : ℕ) → 8 * w ≤ m → n ≤ 8 * w → ((k : ℕ) → n ≤ k → get_or constants k 0 ≡ 0)
    → row_product inverse w (λ k. get_or (take m constants) k 0) e (8 * w) ≡ row_product inverse w (λ k. get_or constants k 0) e n
front-product inverse constants w e n m long h spare =
    product-same inverse w (λ k. get_or (take m constants) k 0) e (8 * w) (λ k. get_or constants k 0) (λ k l. get_or-take m constants k 0 (omega arith))
    ∙ product-spare inverse w (λ k. get_or constants k 0) e n (8 * w) h spare

module _ (words zeros stacked : List ℕ) (size r count : ℕ) (r-pos : 0 < r)
    (none : (k : ℕ) → get_or zeros k 0 ≡ 0) (by-stack : stacked ≡ tabulate (size * r) (λ k. get_or words (k % r * size + k / r) 0)) where
  abbrev n : ℕ
  n = size * r

  abbrev word : ℕ → ℕ
  word k = get_or words (k % r * size + k / r) 0

  stacked_length : length stacked ≡ n
  stacked_length = ap length by-stack ∙ tabulate-length n word

  stack-word : (k : ℕ) → k < n → get_or (stacked ++ drop (n - 0) zeros) k 0 ≡ word k
  stack-word k h =
      get_or-append stacked (drop (n - 0) zeros) 0 k (omega (arith, stacked_length)) ∙ ap (λ (t : List ℕ). get_or t k 0) by-stack ∙ tabulate-at n word 0 k h

  pub stack-spare : (k : ℕ) → n ≤ k → get_or (stacked ++ drop (n - 0) zeros) k 0 ≡ 0
  stack-spare k h =
      let e : k ≡ length stacked + (k - n) = omega (arith, stacked_length) in
      ap (λ (z : ℕ). get_or (stacked ++ drop (n - 0) zeros) z 0) e ∙ get_or-append-add stacked (drop (n - 0) zeros) (k - n) 0
      ∙ get_or-drop (n - 0) zeros (k - n) 0 ∙ none (n - 0 + (k - n))

  pub stack-few : ((q j : ℕ) → q < size * r → count ≤ j → bit (get_or words q 0) j ≡ 0) → (k j : ℕ) → count ≤ j → bit (get_or (stacked ++ drop (n - 0) zeros) k 0) j ≡ 0
  stack-few few k j h = go (dec_lt k n)
    where
      go : Dec (k < n) → bit (get_or (stacked ++ drop (n - 0) zeros) k 0) j ≡ 0
      go (yes l) =
          ap (λ (z : ℕ). bit z j) (stack-word k l) ∙ few (k % r * size + k / r) j (omega (arith, stack-entry size r k r-pos l, mul_comm r size)) h
      go (no l) = ap (λ (z : ℕ). bit z j) (stack-spare k (omega arith)) ∙ bit-zero j

module _ (inverse words zeros stacked old products out : List ℕ) (size r count : ℕ) (pos : 0 < size) (r-pos : 0 < r)
    (none : (k : ℕ) → get_or zeros k 0 ≡ 0) (zero-products : (k : ℕ) → get_or old k 0 ≡ 0)
    (by-stack : stacked ≡ tabulate (size * r) (λ k. get_or words (k % r * size + k / r) 0))
    (multiplied : (e : ℕ) → e < size * r → get_or products e 0 ≡ get_or old e 0
    ⊕ row_product inverse (row_bytes (size * r)) (λ k. get_or (stacked ++ drop (size * r - 0) zeros) k 0) e (size * r))
    (by-places : out ≡ tabulate (r * size) (λ q. get_or products (q % size * r + q / size) 0)) where
  product_is : (e : ℕ) → e < size * r → get_or products e 0 ≡ xor_sum (size * r) (λ k. inverse_entry inverse (size * r) e k * get_or words (k % r * size + k / r) 0)
  unfolding row_product inverse_entry
  product_is e h =
      let n : ℕ = size * r in
      let c : ℕ → ℕ = λ k. get_or (stacked ++ drop (n - 0) zeros) k 0 in
      multiplied e h ∙ ap (λ (z : ℕ). z ⊕ row_product inverse (row_bytes n) c e n) (zero-products e) ∙ ⊕-zero-left (row_product inverse (row_bytes n) c e n)
      ∙ product-same inverse (row_bytes n) c e n (λ k. get_or words (k % r * size + k / r) 0) (stack-word words zeros stacked size r count r-pos none by-stack)

  pub solution_made : out ≡ tabulate (size * r) (solution_word inverse words size r)
  unfolding solution_word
  solution_made =
      by-places ∙ ap (λ (z : ℕ). tabulate z (λ q. get_or products (q % size * r + q / size) 0)) (mul_comm r size)
      ∙ tabulate-same (size * r) (λ q. get_or products (q % size * r + q / size) 0) (solution_word inverse words size r)
      (λ q h. product_is (q % size * r + q / size) (place size r q pos h).turned)

pub solution_bit : (inverse words : List ℕ) (size r g q : ℕ) → solution_word inverse words size r q / 2 ^ g % 2
    ≡ sum_bits (size * r) (λ k. inverse_entry inverse (size * r) (q % size * r + q / size) k * (get_or words (k % r * size + k / r) 0 / 2 ^ g % 2))
unfolding solution_word inverse_entry
solution_bit inverse words size r g q =
    xor_sum-bit (size * r) g (inverse_entry inverse (size * r) (q % size * r + q / size)) (λ k. get_or words (k % r * size + k / r) 0)
    (λ k. mod2_bit (get_or inverse ((q % size * r + q / size) * row_bytes (size * r) + k / 8) 0 / 2 ^ (k % 8)))
