-- The sum is that of a column word's blocks.
use Rattle.words_blocks.specs.Blocks.{column_sum, bit_place, block_sum}
use Rattle.words_blocks.proofs.column_sums.Goals as goal

pub returns : goal.returns
unfolding column_sum bit_place block_sum
returns c = c.block_sums.ensures.0
