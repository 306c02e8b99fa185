-- What `make_group` makes is the group of the encoder: sums of table entries are the remainders of the words.
--   constant_bit-is   an entry of the constant
--   group-is         the group, for blocks that agree with those of the frame in all their places
-- Assumes nothing.
use mathlib.Core.Path.{◌≡◌, sym, ap, ap₂, ◌∙◌}
use mathlib.Core.List.{List, ◌++◌}
use Prim.Native.Nat.{ℕ, ◌+◌, ◌-◌, ◌*◌, ◌/◌, ◌%◌, ◌<◌}
use native.Mathlib.Nat.{zero-mul, mod-lt, div-lt_iff_lt-mul}
use native.Mathlib.Omega.{arith}
use lib.Arith.{digits_div, digits_mod}
use lib.ListN.{get_or}
use Rattle.bch.specs.Polynomial.{◌⊕◌}
use Rattle.bch.specs.Powers.{power_mod, xor_sum}
use Rattle.bch.proofs.Sum.{⊕-zero-right}
use Rattle.bch.proofs.PowerSum.{xor_sum-zero}
use Rattle.staircase.specs.Lists.{bit_sum, tabulate}
use Rattle.staircase.specs.Design.{Params, Interleavers, order, column_generator, column_code}
use Rattle.staircase.specs.System.{Contents, zeros, stack, unstack, preimage, column_parity, row_parity, residual, constant_entry, inverse_entry, self_entry, group_bits}
use Rattle.staircase.specs.Demand2.{Permutes}
use Rattle.staircase.proofs.Matrix.{sum_bits-lt, sum_bits-same}
use Rattle.staircase.proofs.Permutation.{preimage-sent}
use Rattle.staircase.proofs.System.{Proper, unstack-lt}
use Rattle.staircase.proofs.Tabulate.{Binary, tabulate-at, tabulate-same}
use Rattle.staircase.proofs.Entries.{column_remainder, row_remainder, column_parity-powers, row_parity-powers}
use Rattle.words_blocks.specs.Blocks.{column_sum, row_sum, Powers}
use Rattle.words_blocks.proofs.BlockRemainders.{SameBlock, part-powers, column_sum-is, row_sum-is}
use Rattle.encoder_solution.specs.Bits.{remainder_digit, constant_bit}
use Rattle.encoder_frame.specs.Group.{y_bit, p_bit, group_of}

module _ (s : Params) (ok : Proper s) (cols positions : List ℕ) (C : Powers (column_code s) cols) (P : Powers s positions) where
  no_y : (g x : ℕ) (at : ℕ → ℕ) → x ⊕ xor_sum s.r (λ b. zeros (at b) * power_mod g s.r (2 * s.r - 1 - b)) ≡ x
  no_y g x at =
      ap (λ (z : ℕ). x ⊕ z) (xor_sum-zero s.r (λ b. zeros (at b) * power_mod g s.r (2 * s.r - 1 - b)) (λ b l. zero-mul (power_mod g s.r (2 * s.r - 1 - b))))
      ∙ ⊕-zero-right x

  zeros-binary : Binary zeros
  zeros-binary k = omega arith

  module _ (l : Interleavers) (pp : Permutes (order s) (λ p. get_or l.parity p 0)) (preimages : List ℕ)
      (sent : (q : ℕ) → q < order s → get_or preimages q 0 ≡ preimage l.parity (order s) q)
      (b o e before odd even : Contents) (hb : Binary before) (ho : Binary odd) (he : Binary even)
      (sb : SameBlock s b before) (so : SameBlock s o odd) (se : SameBlock s e even) where
    abbrev columns : List ℕ
    columns = tabulate s.M (column_sum cols s.M o e)

    abbrev rows : List ℕ
    rows = tabulate s.M (row_sum positions s.M b o)

    column-digit : (k : ℕ) → k < order s → remainder_digit (get_or columns (k / s.r) 0) s.r (k % s.r) ≡ column_parity s odd even zeros (unstack s k)
    column-digit k h =
        let q : ℕ = unstack s k in
        let c : k / s.r < s.M = (div-lt_iff_lt-mul ok.rpos).1 h in
        sym (column_parity-powers s ok odd even zeros ho he zeros-binary q (unstack-lt s ok k h)
        ∙ ap (λ (x : ℕ). remainder_digit x s.r (q / s.M)) (no_y (column_generator s) (column_remainder s odd even (q % s.M)) (λ b. b * s.M + q % s.M))
        ∙ ap₂ (λ (a d : ℕ). remainder_digit (column_remainder s odd even a) s.r d) (digits_mod (k % s.r) c) (digits_div (k % s.r) c)
        ∙ ap (λ (x : ℕ). remainder_digit x s.r (k % s.r)) (sym (tabulate-at s.M (column_sum cols s.M o e) 0 (k / s.r) c ∙ column_sum-is s cols C o e odd even so se (k / s.r) c)))

    row-digit : (p : ℕ) → p < order s → remainder_digit (get_or rows (p % s.M) 0) s.r (p / s.M) ≡ row_parity s l before odd zeros p
    row-digit p h =
        let c : p % s.M < s.M = mod-lt p ok.mpos in
        sym (row_parity-powers s ok l before odd zeros hb ho zeros-binary p h
        ∙ ap (λ (x : ℕ). remainder_digit x s.r (p / s.M))
        (no_y s.g (row_remainder s before odd (p % s.M)) (λ b. get_or l.self (b * s.M + p % s.M) 0)
        ∙ sym (tabulate-at s.M (row_sum positions s.M b o) 0 (p % s.M) c ∙ row_sum-is s positions P b o before odd sb so (p % s.M) c)))

    pub constant_bit-is : (k : ℕ) → k < order s → constant_bit columns rows preimages s.M s.r k ≡ constant_entry s l before odd even k
    unfolding constant_bit constant_entry residual
    constant_bit-is k h =
        let q : ℕ = unstack s k in
        let hq : q < order s = unstack-lt s ok k h in
        ap₂ bit_sum (column-digit k h)
        (ap (λ (p : ℕ). remainder_digit (get_or rows (p % s.M) 0) s.r (p / s.M)) (sent q hq)
        ∙ row-digit (preimage l.parity (order s) q) (preimage-sent l.parity (order s) pp q hq).0)

    module _ (w : List ℕ) where
      abbrev y : Contents
      y = y_bit cols positions preimages w s.M s.r b o e

      self-is : (q : ℕ) → y q ≡ self_entry s l w before odd even q
      unfolding y_bit self_entry
      self-is q =
          sum_bits-same (order s) (λ k. inverse_entry w (order s) (stack s q) k * constant_bit columns rows preimages s.M s.r k)
          (λ k. inverse_entry w (order s) (stack s q) k * constant_entry s l before odd even k)
          (λ k h. ap (λ (x : ℕ). inverse_entry w (order s) (stack s q) k * x) (constant_bit-is k h))

      self-binary : Binary (self_entry s l w before odd even)
      unfolding self_entry
      self-binary q = sum_bits-lt (order s) (λ k. inverse_entry w (order s) (stack s q) k * constant_entry s l before odd even k)

      parity-is : (q : ℕ) → q < order s → p_bit cols s.M s.r o e y q ≡ column_parity s odd even (self_entry s l w before odd even) q
      unfolding p_bit
      parity-is q h =
          let a : ℕ = q % s.M in
          ap₂ (λ (x z : ℕ). remainder_digit (x ⊕ z) s.r (q / s.M)) (column_sum-is s cols C o e odd even so se a (mod-lt q ok.mpos))
          (part-powers (column_code s) cols C (2 * s.M) s.r (λ b. y (b * s.M + a)) (λ b. self_entry s l w before odd even (b * s.M + a)) (λ b. 2 * s.r - 1 - b) (omega arith)
          (λ b l. self-is (b * s.M + a)) (λ b l. omega arith))
          ∙ sym (column_parity-powers s ok odd even (self_entry s l w before odd even) ho he self-binary q h)

      pub group-is : group_of cols positions preimages w s.M s.r b o e ≡ group_bits s l w before odd even
      unfolding group_of group_bits
      group-is =
          ap₂ ◌++◌ (tabulate-same (order s) y (self_entry s l w before odd even) (λ q h. self-is q))
          (tabulate-same (order s) (p_bit cols s.M s.r o e y) (column_parity s odd even (self_entry s l w before odd even)) parity-is)
