-- The sum is that of a row word's blocks.
use Rattle.words_blocks.specs.Blocks.{row_sum, bit_place, block_sum}
use Rattle.words_blocks.proofs.row_sums.Goals as goal

pub returns : goal.returns
unfolding row_sum bit_place block_sum
returns c = c.block_sums.ensures.0
