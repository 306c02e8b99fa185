-- The tables are made in a part of a local array.
use native.Mathlib.Omega.{arith}
use mathlib.Core.Path.{◌∙◌, subst⁻¹}
use Rattle.design.specs.Sizes.{params_of}
use Rattle.layout.specs.Layouts.{tail_in}
use Rattle.words_blocks.proofs.Sums.{part_length}
use Rattle.words_tables.specs.Tables.{MayParts}
use Rattle.words_positions.proofs.Parts.{part-is}
use Rattle.words_lines.proofs.Tables.{parts_asked, parts_of}
use Rattle.decoder_frame.proofs.fill_by_tables.Goals as goal

pub fill_parts-requires : goal.fill_parts-requires
fill_parts-requires c =
    let a = c.args in
    let p = c.requires in
    let entries = c.entries-tables in
    parts_asked a.frames.shape a.frames.d a.positions.now p.0.tail.allowed p.1.long c.size-size.ensures c.tail_bits-tail.ensures.0 p.4
    (part_length entries.result 0 a.due a.due (omega arith) (omega (arith, entries.ensures, p.3)))

pub fill_both-requires : goal.fill_both-requires
fill_both-requires c =
    let a = c.args in
    let p = c.requires in
    let g = a.frames in
    let x = c.fill_parts in
    let entries = c.entries-tables in
    let all = x.ensures.1 ∙ part_length entries.result 0 a.due a.due (omega arith) (omega (arith, entries.ensures, p.3)) in
    let made = parts_of g.shape g.d a.positions.now x.new.tables c.size-size.ensures c.tail_bits-tail.ensures.0 x.ensures.0 in
    (p.0, p.1, p.2, subst⁻¹ (MayParts a.positions.now g.d.size (tail_in g.shape (params_of g.d))) (part-is x.new.tables _ a.due all) made)
