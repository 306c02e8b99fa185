-- The entry of the list is below the number of bits, as the list sends each place to one of them.
use native.Mathlib.Omega.{arith}
use Rattle.words_sums.proofs.ListedBits.{listed-bit, listed_below}
use Rattle.words_sums.proofs.listed.bit_at.Goals as goal

pub bounds-bits-e : goal.bounds-bits-e
bounds-bits-e c =
    let e = c.entry-e in
    omega (arith, listed_below c.args.list.now c.args.bits.now c.requires.0 c.args.p e.result c.requires.2 e.ensures.0)

pub returns : goal.returns
returns c =
    let e = c.entry-e in
    (listed-bit c.args.list.now c.args.bits.now c.args.p e.result c.requires.2 e.ensures.0, c.requires.1 e.result)
