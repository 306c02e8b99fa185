-- The three blocks are as a group asks, and Q and P are made one after the other.
use mathlib.Core.Path.{ap, ◌∙◌}
use Prim.Native.Nat.{◌-◌, ◌*◌}
use native.Mathlib.Omega.{arith}
use lib.ListN.{length}
use Rattle.staircase.proofs.Tabulate.{tabulate-length}
use Rattle.staircase.proofs.Fill.{front_length}
use Rattle.words_blocks.proofs.Sums.{part_length}
use Rattle.encoder_frame.proofs.Lending.{lent_fits, start_made}
use Rattle.encoder_frame.proofs.group.start_group.Goals as goal

pub start_rows-requires : goal.start_rows-requires
start_rows-requires c =
    let a = c.args in
    let z = a.sizes in
    let n = z.size * z.r in
    let fits = lent_fits z.blocks z.size z.r a.info.now a.columns.now a.positions.now a.i c.requires.0 in (
      c.requires.0.tables,
      fits _ _ c.block_of-before.ensures,
      fits _ _ c.block_of-odd.ensures,
      part_length a.out.now 0 n n (omega arith) (omega arith),
    )

pub start_columns-requires : goal.start_columns-requires
start_columns-requires c =
    let a = c.args in
    let z = a.sizes in
    let n = z.size * z.r in
    let x = c.start_rows in
    let fits = lent_fits z.blocks z.size z.r a.info.now a.columns.now a.positions.now a.i c.requires.0 in
    let room = front_length x.new.out a.out.now (n - 0) (ap length x.ensures ∙ tabulate-length n _ ∙ omega arith) (omega arith) in (
      c.requires.0.column-tables,
      fits _ _ c.block_of-odd.ensures,
      fits _ _ c.block_of-even.ensures,
      part_length _ n (2 * n) n (omega arith) (omega (arith, room)),
    )

pub returns : goal.returns
returns c =
    let a = c.args in
    let z = a.sizes in
    let odd = c.block_of-odd in
    let even = c.block_of-even in
    let before = c.block_of-before in
    let x = c.start_rows in
    let y = c.start_columns in
    start_made z.blocks z.size z.r a.info.now a.columns.now a.positions.now a.i odd.result.now even.result.now before.result.now
    a.out.now x.new.out y.new.out odd.ensures even.ensures before.ensures c.requires.2 x.ensures y.ensures
