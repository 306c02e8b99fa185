use mathlib.Core.Path.{◌∙◌}
use Prim.Native.Nat.{ℕ, ◌-◌, ◌*◌}
use native.Mathlib.Omega.{arith}
use lib.ListN.{length, get_or, length-set}
use borrow.Rule.Slice.PartMut.{mid_len}
use Rattle.bch_remainders.proofs.Powers.{added_more}
use Rattle.bch_remainders.proofs.Rows.{row_end}
use Rattle.encoder_solution.specs.Words.{row_product}
use Rattle.encoder_solution.proofs.Masked.{row-product}
use Rattle.encoder_solution.proofs.rows.multiply_in.Goals as goal

pub row_word-requires : goal.row_word-requires
row_word-requires c =
    let a = c.args in
    let l = c.loop-e in
    let y = c.pack_groups in
    let end = c.min-end in
    let long = mid_len (l.e * a.w) end.result a.inverse.now (omega arith) in
    (y.ensures.0 ∙ c.requires.6, omega (arith, long, end.ensures), c.requires.3, c.requires.5)

pub loop-e-preserved : goal.loop-e-preserved
loop-e-preserved c =
    let a = c.args in
    let l = c.loop-e in
    let y = c.pack_groups in
    let end = c.min-end in
    let from : ℕ = l.e * a.w in
    let inside = row_end l.e (length a.products.now) a.w (omega arith) in
    let n : ℕ = end.result - from in
    let long = mid_len from end.result a.inverse.now (omega arith) in
    let f : ℕ → ℕ = λ i. row_product a.inverse.now a.w (λ k. get_or a.constants.now k 0) i (8 * a.w) in (
      omega arith,
      omega arith,
      simp length-set (omega arith),
      added_more a.products.now l.products f l.e _ (omega arith) l.invariant.3
          (row-product a.inverse.now a.constants.now y.new.packed a.w a.p a.count y.ensures.1 c.requires.7 c.requires.8
          l.e n _ (omega (arith, end.ensures, inside, c.requires.0, c.requires.2)) (omega (arith, end.ensures)) long c.row_word.ensures),
    )
