-- An empty block adds nothing; another adds what `add_columns` or `add_rows` does.
use mathlib.Core.Path.{◌∙◌}
use native.Mathlib.Omega.{arith}
use lib.ListN.{length}
use Rattle.bch_remainders.proofs.Rows.{row-length}
use Rattle.words_blocks.proofs.Sums.{none_added, column_added, row_added, unread, read_whole, read_each}
use Rattle.words_blocks.proofs.add_block.Goals as goal

pub returns-then-block-eq0 : goal.returns-then-block-eq0
returns-then-block-eq0 c =
    let a = c.args in
    (none_added a.column a.block.now a.positions.now a.sums.now a.from c.if-block-eq0.true, unread a.block.now (length a.sums.now) c.if-block-eq0.true)

pub returns-then-column : goal.returns-then-column
returns-then-column c =
    let a = c.args in
    let p = c.requires in
    let added = c.add_columns in
    let n = length a.sums.now in (
      column_added a.column a.block.now a.positions.now a.sums.now a.from added.new.sums p.1 c.if-column.true (added.ensures.0, added.ensures.1),
      read_whole a.block.now n c.if-block-eq0.false (added.ensures.2 ∙ row-length a.positions.now a.from n p.1),
    )

pub returns : goal.returns
returns c =
    let a = c.args in
    let p = c.requires in
    let added = c.add_rows in
    let n = length a.sums.now in
    let long = row-length a.positions.now a.from n p.1 in (
      row_added a.column a.block.now a.positions.now a.sums.now a.from added.new.sums p.1 c.if-column.false (added.ensures.0, added.ensures.1),
      read_whole a.block.now n c.if-block-eq0.false (read_each added.result n (λ k h. added.ensures.2 k h ∙ long) (omega (arith, added.ensures.3, long))),
    )
