-- The tables are made in the first entries of a local array, and the working entries are the first of another.
use native.Mathlib.Omega.{arith}
use mathlib.Core.Path.{◌∙◌, subst⁻¹}
use Rattle.design.specs.Sizes.{params_of}
use Rattle.layout.specs.declared.Shape.TheVariants.{Original}
use Rattle.layout.specs.Layouts.{tail_in}
use Rattle.words_positions.proofs.Parts.{part-is}
use Rattle.words_tables.specs.Tables.{MayParts}
use Rattle.words_blocks.proofs.Sums.{part_length}
use Rattle.words_lines.proofs.Tables.{parts_asked, parts_of}
use Rattle.original_encoder.proofs.Rows.{rows-allowed, no_tail}
use Rattle.original_encoder.proofs.encode_by_tables.Goals as goal

pub fill_parts-requires : goal.fill_parts-requires
fill_parts-requires c =
    let a = c.args in
    let p = c.requires in
    let entries = c.entries-tables in
    parts_asked Original a.d a.positions.now (rows-allowed p.0.allowed) p.1.long c.size-size.ensures (no_tail (params_of a.d)) p.4
    (part_length entries.result 0 a.due a.due (omega arith) (omega (arith, entries.ensures, p.3)))

pub encode_blocks-requires : goal.encode_blocks-requires
encode_blocks-requires c =
    let a = c.args in
    let p = c.requires in
    let x = c.fill_parts in
    let entries = c.entries-tables in
    let all = x.ensures.1 ∙ part_length entries.result 0 a.due a.due (omega arith) (omega (arith, entries.ensures, p.3)) in
    let size = c.size-size in
    let made = parts_of Original a.d a.positions.now x.new.tables size.ensures (no_tail (params_of a.d)) x.ensures.0 in (
      p.0,
      p.1,
      part_length _ 0 size.result size.result (omega arith) (omega (arith, p.0.allowed.M-high, size.ensures)) ∙ size.ensures,
      p.2,
      subst⁻¹ (MayParts a.positions.now a.d.size (tail_in Original (params_of a.d))) (part-is x.new.tables _ a.due all) made,
    )
