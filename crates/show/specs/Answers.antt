-- Document 01, "a definition gives this paper's number and values for each of its cases": what is shown, as the code names it.
--   part_of   the block or the group
-- Assumes nothing.
use Rattle.staircase.specs.Rules.{Part}
use Rattle.staircase.specs.Rules.Part.{block, group}
use Rattle.show.specs.declared.Part as code
use Rattle.show.specs.declared.Part.TheVariants.{Block, Group}

unfoldable pub part_of : code.Part → Part
part_of (Block b) = block b
part_of (Group i) = group i
