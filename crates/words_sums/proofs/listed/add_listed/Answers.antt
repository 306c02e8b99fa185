use mathlib.Core.Path.{sym, ap, ◌∙◌}
use Prim.Native.Nat.{ℕ, ◌+◌, ◌*◌}
use native.Mathlib.Omega.{arith}
use lib.ListN.{length, get_or}
use Rattle.bch.specs.Polynomial.{◌⊕◌}
use Rattle.bch.specs.Powers.{xor_sum}
use Rattle.bch.proofs.Sum.{⊕-zero-right}
use Rattle.bch_remainders.proofs.Rows.{row-length}
use Rattle.words_tables.proofs.Tables.{sum_of_eights}
use Rattle.words_sums.specs.Listed.{listed_bit}
use Rattle.words_sums.proofs.Groups.{sum_padded, part-behind, rows-read, rows_end}
use Rattle.words_sums.proofs.ListedBits.{listed-group}
use Rattle.words_sums.proofs.listed.add_listed.Goals as goal

pub loop-g-init : goal.loop-g-init
unfolding xor_sum
loop-g-init c = (omega arith, omega arith, omega arith, λ a h. sym (⊕-zero-right _))

pub look_listed-requires : goal.look_listed-requires
look_listed-requires c =
    let a = c.args in
    let l = c.loop-g in
    let r = c.min-count in
    let e = rows_end l.g r.result (length a.part.now) (length a.acc.now) (omega arith) in
    (c.requires.0, c.requires.2, (omega arith), rw l.invariant.2 (omega arith), row-length a.tables.now (256 * l.g) 256 (omega arith))

pub loop-g-preserved : goal.loop-g-preserved
loop-g-preserved c =
    let a = c.args in
    let w = length a.acc.now in
    let l = c.loop-g in
    let r = c.min-count in
    let e = c.look_listed.ensures in (
      omega arith,
      omega (arith, rows-read l.g r.result (length a.part.now) (omega arith) (omega arith) (λ h. omega arith)),
      e.0 ∙ l.invariant.2,
      λ k h. listed-group a.list.now a.bits.now c.requires.2 a.part.now a.tables.now c.requires.3 l.g w r.result k _ _ _ (omega arith)
          (λ h. omega arith) (omega arith) (l.invariant.3 k h) (rw l.invariant.2 at (e.1 k (omega arith))),
    )

pub returns : goal.returns
returns c =
    let a = c.args in
    let l = c.loop-g in
    let b : ℕ → ℕ → ℕ = λ k j. listed_bit a.list.now a.bits.now (j * length a.acc.now + k) in
    let f : ℕ → ℕ → ℕ = λ k j. b k j * get_or a.part.now j 0 in (
      l.invariant.2,
      λ k h. l.invariant.3 k h
          ∙ ap (λ (z : ℕ). get_or a.acc.now k 0 ⊕ z)
          (sum_of_eights l.g (f k) ∙ sum_padded (length a.part.now) (8 * l.g) (f k) (omega arith) (λ j m. part-behind a.part.now (b k j) j m)),
      omega arith,
    )
