use mathlib.Core.Path.{ap, ◌∙◌}
use Prim.Native.Nat.{ℕ, ◌+◌, ◌-◌, ◌*◌}
use native.Mathlib.Omega.{arith}
use lib.ListN.{length, get_or, take, drop, length-set}
use Rattle.bch.specs.Powers.{xor_sum}
use Rattle.bch.proofs.PowerSum.{xor_sum-same}
use Rattle.bch_remainders.proofs.Powers.{added_more}
use Rattle.bch_remainders.proofs.Rows.{row_end, row-length, row_at}
use Rattle.encoder_solution.proofs.product.add_columns.Goals as goal

pub row_sum-requires : goal.row_sum-requires
row_sum-requires c =
    let a = c.args in
    let l = c.loop-e in
    let is = row-length a.inverse.now (l.e * a.w + a.b) a.c (omega (arith, row_end l.e (length a.products.now) a.w (omega arith))) in
    omega (arith, is)

pub loop-e-preserved : goal.loop-e-preserved
loop-e-preserved c =
    let a = c.args in
    let l = c.loop-e in
    let from = l.e * a.w + a.b in
    let f : ℕ → ℕ = λ i. xor_sum a.c (λ j. get_or a.tables.now (256 * j + get_or a.inverse.now (i * a.w + a.b + j) 0) 0) in
    let is = row-length a.inverse.now from a.c (omega (arith, row_end l.e (length a.products.now) a.w (omega arith))) in (
      omega arith,
      omega arith,
      simp length-set (omega arith),
      added_more a.products.now l.products f l.e _ (omega arith) l.invariant.3
          (c.row_sum.ensures ∙ ap (λ (n : ℕ). xor_sum n (λ j. get_or a.tables.now (256 * j + get_or (take (from + a.c - from) (drop from
          a.inverse.now)) j 0) 0)) is
          ∙ xor_sum-same a.c (λ j. get_or a.tables.now (256 * j + get_or (take (from + a.c - from) (drop from a.inverse.now)) j 0) 0)
          (λ j. get_or a.tables.now (256 * j + get_or a.inverse.now (from + j) 0) 0)
          (λ j h. ap (λ (x : ℕ). get_or a.tables.now (256 * j + x) 0) (row_at a.inverse.now from a.c j h))),
    )
