-- The tables are filled, and lent.
use mathlib.Core.Path.{◌≡◌, ◌∙◌}
use Prim.Native.Nat.{◌+◌, ◌-◌, ◌*◌, ◌%◌, ◌^◌}
use native.Mathlib.Omega.{arith}
use lib.ListN.{length, take, drop}
use lib.Seq.{length-take-le}
use Rattle.words_positions.proofs.Parts.{part-fits}
use Rattle.layout.specs.Layouts.{row_frames}
use Rattle.design.specs.Sizes.{params_of}
use Rattle.original_decoder.proofs.Rounds.{word-sizes, tables-room, field_is, field_room, tables_lent, row-bits}
use Rattle.original_decoder.proofs.correct_outside.Goals as goal

pub overflow_mul-powers : goal.overflow_mul-powers
overflow_mul-powers c =
    omega (arith, field_room c.args.d c.requires.0.frame.allowed c.m-powers.result c.m-powers.ensures)

pub slice_bounds-field-end : goal.slice_bounds-field-end
slice_bounds-field-end c =
    omega (arith, c.field_entries-field.ensures, field_room c.args.d c.requires.0.frame.allowed c.m-powers.result c.m-powers.ensures)

pub fill_tables-requires : goal.fill_tables-requires
fill_tables-requires c =
    let d = c.args.d in
    let h = c.requires.0.frame.allowed in
    let n = c.row_bits in
    let m = c.m-powers in
    let lt = length-take-le (2 * n.result + 128 - 0) c.table_entries-tables.result (omega (arith, c.table_entries-tables.ensures, tables-room d h n.result n.ensures.0)) in
    let lf = length-take-le (4 * ((1 * 2 ^ m.result) % 2 ^ 64) - 0) c.field_entries-field.result (omega (arith, c.field_entries-field.ensures, field_room d h m.result m.ensures)) in
    let T = take (2 * n.result + 128 - 0) c.table_entries-tables.result in
    let D = take (4 * ((1 * 2 ^ m.result) % 2 ^ 64) - 0) c.field_entries-field.result in
    (word-sizes d h, omega (arith, lt, n.ensures.0, row-bits (params_of d)), omega (arith, lf, field_is d h m.result m.ensures))

pub slice_bounds-correct_rows-end : goal.slice_bounds-correct_rows-end
slice_bounds-correct_rows-end c =
    let T = c.fill_tables.new.tables in
    let W = c.fill_tables.ensures in
    part-fits T _ _ (W.long ∙ omega (arith, c.row_bits.ensures.0, row-bits (params_of c.args.d)))

pub overflow_mul-powers-2 : goal.overflow_mul-powers-2
overflow_mul-powers-2 c =
    omega (arith, field_room c.args.d c.requires.0.frame.allowed c.m-powers.result c.m-powers.ensures)

pub slice_bounds-correct_rows-end-2 : goal.slice_bounds-correct_rows-end-2
slice_bounds-correct_rows-end-2 c =
    let d = c.args.d in
    let h = c.requires.0.frame.allowed in
    let m = c.m-powers in
    let lf = length-take-le (4 * ((1 * 2 ^ m.result) % 2 ^ 64) - 0) c.field_entries-field.result (omega (arith, c.field_entries-field.ensures, field_room d h m.result m.ensures)) in
    part-fits c.fill_tables.new.field _ _ (omega (arith, lf))

pub correct_rows-requires : goal.correct_rows-requires
correct_rows-requires c =
    let a = c.args in
    let p = c.requires in
    let h = p.0.frame.allowed in
    let n = c.row_bits in
    let m = c.m-powers in
    let fill = c.fill_tables in
    let t = 2 * n.result + 128 in
    let f = 4 * ((1 * 2 ^ m.result) % 2 ^ 64) in
    let W = fill.ensures in
    let lt : length fill.new.tables ≡ t = W.long ∙ omega (arith, n.ensures.0, row-bits (params_of a.d)) in
    let lf = length-take-le (f - 0) c.field_entries-field.result (omega (arith, c.field_entries-field.ensures, field_room a.d h m.result m.ensures)) in
    let l_f : length fill.new.field ≡ f = omega (arith, lf) in
    (tables_lent (row_frames a.d a.blocks) fill.new.tables (drop (t - 0) c.table_entries-tables.result) fill.new.field (drop (f - 0) c.field_entries-field.result) t f lt l_f W, p.0, p.1, p.2)
