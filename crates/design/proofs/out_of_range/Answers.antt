-- The two tests of the code are those of `out_of_range`.
use borrow.Author.Tests.{lt-ltb, le-ltb}
use Rattle.design.proofs.out_of_range.Goals as goal

pub returns-then-x-low : goal.returns-then-x-low
returns-then-x-low c = rw (lt-ltb c.args.x c.args.low c.if-x-low.true)

pub returns : goal.returns
returns c = rw (le-ltb c.args.x c.args.low c.if-x-low.false)
