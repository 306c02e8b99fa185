-- Lists that keep each column of X and of Q to itself have no inverse while rows and columns use one code: the Y whose first row is 1 and the rest 0
-- gives every row word and every column word the same information, so that the P of the column words is the P that the parity list brings from the
-- row words, and A y is 0.
--   kept-singular     lists that keep each column of X and of Q to itself
--   spread-singular   spread lists
-- Assumes nothing.
use mathlib.Core.Path.{◌≡◌, refl, sym, ap, ap₂, ◌∙◌}
use mathlib.Core.Bool.{Bool, true, false, cond}
use mathlib.Core.List.{List}
use Prim.Native.Nat.{ℕ, ◌+◌, ◌*◌, ◌/◌, ◌%◌, ◌<◌}
use native.Mathlib.Nat.{zero-mod, zero-div, mul-zero}
use native.Mathlib.Omega.{arith}
use lib.Arith.{digits_div}
use lib.Dec.{eqb}
use lib.ListN.{get_or}
use Rattle.bch.specs.Code.{parity}
use Rattle.staircase.specs.Lists.{bit_sum}
use Rattle.staircase.specs.Design.{Params, Interleavers, column_generator, order}
use Rattle.staircase.specs.Word.{row_info, column_info}
use Rattle.staircase.specs.System.{Contents, zeros, unstack, preimage, column_parity, row_parity, residual, system_entry, constant_entry, apply}
use Rattle.staircase.specs.Square.{BitMatrix}
use Rattle.staircase.specs.Demand2.{Permutes}
use Rattle.staircase.specs.Spread.{spread, ColumnsKept, Singular, KeptSingular, SpreadSingular}
use Rattle.staircase.proofs.Tabulate.{Binary}
use Rattle.staircase.proofs.Stretches.{three_same}
use Rattle.staircase.proofs.Matrix.{bit_sum-self, bit_sum-zero, sum_bits-zero}
use Rattle.staircase.proofs.Permutation.{preimage-sent}
use Rattle.staircase.proofs.System.{Proper, order-positive, place_lt, column-of, unstack-lt, system_entry-lt, zeros-binary, residual-split, residual-matrix}
use Rattle.staircase.proofs.Rules.{lists_permute}
use Rattle.staircase.proofs.Square.{apply-bit, inverts_at, other_order}
use Rattle.staircase.proofs.BchCode.{proper_of}
use Rattle.staircase.proofs.Spread.{turned-div, self-entry, parity-entry, spread-permutes}

module _ (s : Params) (l : Interleavers) (ok : Proper s) (ps : Permutes (order s) (λ p. get_or l.self p 0)) (pp : Permutes (order s) (λ p. get_or l.parity p 0))
    (one : column_generator s ≡ s.g) (self_kept : ColumnsKept s l.self) (parity_kept : ColumnsKept s l.parity) where
  -- the Y whose first row is 1
  first : Contents
  first q = cond (eqb (q / s.M) 0) 1 0

  first_bit : Binary first
  unfolding first
  first_bit q = go (eqb (q / s.M) 0)
    where
      go : (z : Bool) → cond z 1 0 < 2
      go true = omega arith
      go false = omega arith

  -- all row words and all column words have the same information
  same-info : (a b : ℕ) → a < s.M → b < s.M → row_info s l zeros zeros first a ≡ column_info s zeros zeros first b
  unfolding row_info column_info first
  same-info a b ha hb =
      three_same s.M s.r zeros zeros (λ e. first (get_or l.self (e * s.M + a) 0)) zeros zeros (λ e. first (e * s.M + b)) (λ j m. refl) (λ j m. refl)
      (λ e m. ap (λ (z : ℕ). cond (eqb z 0) 1 0) (self_kept (e * s.M + a) (place_lt s ok e a m ha) ∙ digits_div e ha ∙ sym (digits_div e hb)))

  no_sum : (k : ℕ) → k < order s → unstack s k < order s → residual s l zeros zeros zeros first k ≡ 0
  unfolding residual column_parity row_parity
  no_sum k h hq =
      let q : ℕ = unstack s k in
      let t = preimage-sent l.parity (order s) pp q hq in
      let p : ℕ = preimage l.parity (order s) q in
      ap (bit_sum (column_parity s zeros zeros first q))
      (ap₂ (λ (u : List ℕ) (v : ℕ). get_or (parity s.g s.r u) v 0) (same-info (p % s.M) (q % s.M) (column-of s ok p) (column-of s ok q))
      (sym (parity_kept p t.0) ∙ ap (λ (z : ℕ). z / s.M) t.1)
      ∙ ap (λ (g : ℕ). get_or (parity g s.r (column_info s zeros zeros first (q % s.M))) (q / s.M) 0) (sym one))
      ∙ bit_sum-self (column_parity s zeros zeros first q)

  -- y stacked
  y : Contents
  y j = first (unstack s j)

  y-bit : Binary y
  unfolding y
  y-bit j = first_bit (unstack s j)

  sent-zero : (k : ℕ) → k < order s → apply (order s) (system_entry s l) y k ≡ 0
  unfolding y constant_entry
  sent-zero k h =
      let bits : Binary zeros = zeros-binary s l ok in
      let none : constant_entry s l zeros zeros zeros k ≡ 0 =
      residual-split s l ok zeros zeros zeros zeros bits bits bits bits k ∙ bit_sum-self (residual s l zeros zeros zeros zeros k) in
      sym (bit_sum-zero (apply (order s) (system_entry s l) y k) (apply-bit (order s) (system_entry s l) y k))
      ∙ ap (bit_sum (apply (order s) (system_entry s l) y k)) (sym none)
      ∙ sym (residual-matrix s l ok ps pp zeros zeros zeros first bits bits bits first_bit k)
      ∙ no_sum k h (unstack-lt s ok k h)

  y_one : y 0 ≡ 1
  unfolding y first
  y_one =
      ap (λ (z : ℕ). cond (eqb z 0) 1 0) (ap₂ (λ (u v : ℕ). (u * s.M + v) / s.M) (zero-mod s.r) (zero-div s.r) ∙ digits_div 0 ok.mpos)

  lists-singular : Singular s l
  lists-singular w hw e =
      let n : ℕ = order s in
      let a : ℕ → ℕ → ℕ = system_entry s l in
      let ha : BitMatrix a = system_entry-lt s l ok in
      let z : y 0 ≡ 0 =
      sym (inverts_at n w a hw ha (other_order n a w ha hw e) y y-bit 0 (order-positive s ok))
      ∙ sum_bits-zero n (λ j. w 0 j * apply n a y j) (λ j m. ap (λ (x : ℕ). w 0 j * x) (sent-zero j m) ∙ mul-zero (w 0 j)) in
      omega (arith, z, y_one)

pub kept-singular : KeptSingular
unfolding column_generator
kept-singular m t M l d e self parity =
    let p = lists_permute _ l e in lists-singular _ l (proper_of d) p.0 p.1 refl self parity

pub spread-singular : SpreadSingular
unfolding column_generator
spread-singular m t M d =
    let ok = proper_of d in
    let p = spread-permutes _ ok in
    lists-singular _ (spread _) ok p.0 p.1 refl (λ q h. ap (λ (z : ℕ). z / M) (self-entry _ ok q h) ∙ turned-div _ ok 0 q)
    (λ q h. ap (λ (z : ℕ). z / M) (parity-entry _ ok q h) ∙ turned-div _ ok (m * t) q)
