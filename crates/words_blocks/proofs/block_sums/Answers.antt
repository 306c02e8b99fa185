-- The sums are made from 0 by an addition for each block, with a half of the tables each.
use native.Mathlib.Omega.{arith}
use mathlib.Core.Path.{◌≡◌, ap, ap₂, ◌∙◌}
use Prim.Native.Nat.{◌+◌}
use lib.ListN.{length, get_or}
use Rattle.words_blocks.specs.Blocks.{block_reads}
use Rattle.words_blocks.proofs.Sums.{blocks_added, read-few}
use Rattle.words_blocks.proofs.block_sums.Goals as goal

pub overflow_add-result : goal.overflow_add-result
overflow_add-result c =
    let a = c.args in
    let one = c.add_block-one in
    omega (
      arith,
      c.requires.2,
      one.ensures.1,
      c.add_block-two.ensures.1,
      read-few a.first.now (length c.fill.new.self),
      read-few a.second.now (length one.new.sums),
    )

pub returns : goal.returns
returns c =
    let a = c.args in
    let cleared = c.fill in
    let one = c.add_block-one in
    let two = c.add_block-two in
    let n = length a.sums.now in
    let wide : length cleared.new.self ≡ n = omega arith in
    let wide-2 : length one.new.sums ≡ n = omega (arith, wide) in (
      blocks_added a.first_columns a.second_columns a.positions.now n (λ k. get_or a.first.now k 0) (λ k. get_or a.second.now k 0)
          cleared.new.self one.new.sums two.new.sums (cleared.ensures.after (λ y h. h)) one.ensures.0 two.ensures.0,
      ap₂ ◌+◌ (one.ensures.1 ∙ ap (block_reads a.first.now) wide) (two.ensures.1 ∙ ap (block_reads a.second.now) wide-2),
    )
