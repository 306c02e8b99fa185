use mathlib.Core.Path.{sym, ap, ◌∙◌}
use Prim.Native.Nat.{ℕ, ◌+◌, ◌*◌}
use native.Mathlib.Omega.{arith}
use lib.ListN.{length, get_or}
use Rattle.bch.specs.Polynomial.{◌⊕◌}
use Rattle.bch.specs.Powers.{xor_sum}
use Rattle.bch.proofs.Sum.{⊕-zero-right}
use Rattle.bch_remainders.proofs.Rows.{column-more}
use Rattle.words_tables.proofs.Tables.{sum_of_eights}
use Rattle.words_sums.proofs.Groups.{sum_padded, byte-names, part-behind, rows-read, rows_end, rows_term}
use Rattle.words_sums.proofs.columns.add_columns_in.Goals as goal

pub loop-g-init : goal.loop-g-init
unfolding xor_sum
loop-g-init c = (omega arith, omega arith, omega arith, omega arith, λ a h. sym (⊕-zero-right _))

pub slice_bounds-pack-end : goal.slice_bounds-pack-end
slice_bounds-pack-end c =
    let a = c.args in
    let r = c.min-count in
    omega (arith, rows_end c.loop-g.g r.result (length a.part.now) (length a.acc.now) (omega arith))

pub loop-g-preserved : goal.loop-g-preserved
loop-g-preserved c =
    let a = c.args in
    let w = length a.acc.now in
    let l = c.loop-g in
    let r = c.min-count in
    let p = c.pack.ensures in
    let e = c.look_up.ensures in
    let f : ℕ → ℕ → ℕ = λ k j. get_or a.block.now (j * w + k) 0 * get_or a.part.now j 0 in (
      omega arith,
      omega (arith, rows-read l.g r.result (length a.part.now) (omega arith) (omega arith) (λ h. omega arith)),
      e.0 ∙ l.invariant.2,
      p.0 ∙ l.invariant.3,
      λ k h. e.1 k (omega arith)
          ∙ column-more l.g _ _ _ (λ j. xor_sum 8 (λ i. f k (8 * j + i))) (l.invariant.4 k h)
          (byte-names a.part.now a.tables.now c.requires.2 l.g _ (f k)
          (grind arith) (omega arith)
          (λ i m. rows_term a.block.now l.g r.result w i k h a.part.now _ (λ h. omega arith) m
          (rw l.invariant.3 at (p.1 k i (omega arith) m)))),
    )

pub returns : goal.returns
returns c =
    let a = c.args in
    let l = c.loop-g in
    let b : ℕ → ℕ → ℕ = λ k j. get_or a.block.now (j * length a.acc.now + k) 0 in
    let f : ℕ → ℕ → ℕ = λ k j. b k j * get_or a.part.now j 0 in (
      l.invariant.2,
      λ k h. l.invariant.4 k h
          ∙ ap (λ (z : ℕ). get_or a.acc.now k 0 ⊕ z)
          (sum_of_eights l.g (f k) ∙ sum_padded (length a.part.now) (8 * l.g) (f k) (omega arith) (λ j m. part-behind a.part.now (b k j) j m)),
      omega arith,
    )
