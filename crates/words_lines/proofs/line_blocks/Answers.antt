-- The two blocks are as `block_sums` asks.
use native.Mathlib.Omega.{arith}
use mathlib.Core.Path.{ap₂, ◌∙◌}
use mathlib.Core.List.{List}
use Prim.Native.Nat.{◌+◌}
use lib.ListN.{length}
use Rattle.layout.proofs.Layouts.{lines-most}
use Rattle.words_blocks.specs.Blocks.{block_reads}
use Rattle.words_lines.proofs.Lines.{lent_block, blocks_of_line}
use Rattle.words_lines.proofs.line_blocks.Goals as goal

pub overflow_add-line : goal.overflow_add-line
overflow_add-line c =
    let f = c.args.line.frames in
    omega (arith, c.requires.0.within, c.requires.0.few-blocks, lines-most f.shape f.blocks)

pub block_sums-requires : goal.block_sums-requires
block_sums-requires c =
    let p = c.requires in (
      lent_block p.0 c.block_of-first.result.now _ c.block_of-first.ensures,
      lent_block p.0 c.block_of-second.result.now _ c.block_of-second.ensures,
      p.0.powers,
      p.1,
    )

pub returns : goal.returns
returns c =
    let a = c.args in
    let f = a.line.frames in
    let n = length a.sums.now in
    let x = c.block_of-first in
    let y = c.block_of-second in
    let made = c.block_sums in (
      made.ensures.0 ∙ blocks_of_line f.shape a.positions.now n f.blocks a.info.now a.line.k x.result.now y.result.now
          c.rows_first-rows.result c.rows_second-rows_next.result x.ensures y.ensures c.rows_first-rows.ensures c.rows_second-rows_next.ensures,
      made.ensures.1 ∙ ap₂ (λ (u v : List _). block_reads u n + block_reads v n) x.ensures y.ensures,
    )
