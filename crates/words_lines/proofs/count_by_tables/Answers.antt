-- The tables are made in a part of a local array.
use native.Mathlib.Omega.{arith}
use Rattle.words_blocks.proofs.Sums.{part_length}
use Rattle.words_lines.proofs.Tables.{parts_asked}
use Rattle.words_lines.proofs.count_by_tables.Goals as goal

pub fill_parts-requires : goal.fill_parts-requires
fill_parts-requires c =
    let a = c.args in
    let p = c.requires in
    let entries = c.entries-tables in
    parts_asked a.frames.shape a.frames.d a.positions.now p.0.tail.allowed p.1.long c.size-size.ensures c.tail_bits-tail.ensures.0 p.3
    (part_length entries.result 0 a.due a.due (omega arith) (omega (arith, entries.ensures, p.2)))
