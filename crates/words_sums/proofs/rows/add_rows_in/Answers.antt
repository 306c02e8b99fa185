use mathlib.Core.Path.{◌≡◌, refl, ap, ◌∙◌}
use mathlib.Core.List.{◌++◌}
use Prim.Native.Nat.{ℕ, ◌+◌, ◌-◌, ◌*◌, ◌/◌}
use native.Mathlib.Nat.{sub-zero}
use native.Mathlib.Omega.{arith}
use borrow.Rule.Slice.PartMut.{same_len_mid, mid_len}
use lib.ListN.{length, get_or, take, drop}
use Rattle.bch.specs.Powers.{xor_sum}
use Rattle.bch_remainders.proofs.Rows.{row-length}
use Rattle.words_sums.proofs.Groups.{rows_end}
use Rattle.words_sums.proofs.Tiles.{tiles_row, added_group}
use Rattle.words_sums.proofs.rows.add_rows_in.Goals as goal

pub slice_bounds-pack-end : goal.slice_bounds-pack-end
slice_bounds-pack-end c =
    let a = c.args in
    omega (arith, rows_end c.loop-g.g c.min-rows.result (length a.acc.now) (length a.part.now) (omega arith))

pub loop-g-preserved : goal.loop-g-preserved
loop-g-preserved c =
    let n = c.min-rows in
    let l = c.loop-g in
    let a = c.args in
    let bytes = c.pack-reads in
    let tiles = c.turn in
    let added = c.add_tiles in
    let w : ℕ = length a.part.now in
    let g : ℕ = l.g in
    let r : ℕ = n.result in
    let from : ℕ = 8 * g * w in
    let wide : length (take (w - 0) l.packed) ≡ w = mid_len 0 w l.packed (omega arith) ∙ sub-zero w in
    let few : length (take (8 * g + r - 8 * g) (drop (8 * g) l.acc)) ≡ r = row-length l.acc (8 * g) r (omega arith) in (
      omega arith,
      same_len_mid (8 * g) (8 * g + r - 8 * g) l.acc added.new.acc added.ensures.0 ∙ l.invariant.1,
      same_len_mid 0 (w - 0) l.packed bytes.new.packed bytes.ensures.0 ∙ l.invariant.2,
      tiles.ensures.0 ∙ l.invariant.3,
      added_group a.acc.now l.acc added.new.acc (λ k. xor_sum w (λ j. get_or a.block.now (k * w + j) 0 * get_or a.part.now j 0))
          (λ i. xor_sum ((w + 7) / 8) (λ t. get_or a.tables.now (256 * t + get_or tiles.new.turned (8 * t + i) 0) 0)) g r
          l.invariant.1 (omega arith) (omega arith) (λ h. omega arith) (added.ensures.0 ∙ few) l.invariant.4
          (λ i h. added.ensures.1 i (omega (arith, few)))
          (λ i h. tiles_row a.part.now a.tables.now (bytes.new.packed ++ drop (w - 0) l.packed) tiles.new.turned i c.requires.2
          (λ k. grind arith) (λ t q m o. tiles.ensures.1 t i q m (omega arith) o)
          a.block.now bytes.new.packed (drop (w - 0) l.packed) g r h refl (bytes.ensures.0 ∙ wide)
          (λ k m. bytes.ensures.1 k i (omega (arith, wide)) (omega arith)
          ∙ ap (λ (z : ℕ). get_or (take (from + r * w - from) (drop from a.block.now)) (i * z + k) 0) wide)),
      λ h. bytes.ensures.2 ∙ wide,
      omega (arith, bytes.ensures.2, wide),
    )
