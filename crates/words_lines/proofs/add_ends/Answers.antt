-- The halves of the bits, of the powers and of the tables are as `add_stretch` asks.
use mathlib.Core.Path.{refl}
use Rattle.words_lines.proofs.Columns.{ends_added}
use Rattle.words_lines.proofs.add_ends.Goals as goal

pub returns : goal.returns
returns c =
    let two = c.add_stretch-second in
    let one = c.add_stretch-first in
    ends_added c.requires c.args.rows c.args.sums.now one.new.sums two.new.sums refl one.ensures two.ensures
