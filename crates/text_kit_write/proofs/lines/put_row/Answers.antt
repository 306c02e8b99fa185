-- The row's number and the space, its characters, the line feed.
use native.Mathlib.Omega.{arith}
use Rattle.staircase.specs.System.{row_bytes}
use Rattle.staircase.proofs.Bounds.{stretch-end}
use Rattle.text.proofs.KitSpelled.{row-length}
use Rattle.text_kit_write.proofs.Parts.{row_put}
use Rattle.text_kit_write.proofs.lines.put_row.Goals as goal

pub put_field-i-requires : goal.put_field-i-requires
put_field-i-requires c =
    omega (arith, row-length c.args.n c.args.inverse.now c.args.row, c.requires.row_in_bounds)

pub put_columns-j-requires : goal.put_columns-j-requires
put_columns-j-requires c =
    let a = c.args in
    let p = c.requires in record {
      n_in_bounds = omega (arith, row-length a.n a.inverse.now a.row, p.row_in_bounds, c.put_field-i.ensures.value);
      n_in_bounds_2 = omega (arith, p.inverse_len.0, stretch-end a.row a.n (row_bytes a.n) p.inverse_len.2);
    }

pub put_byte-requires : goal.put_byte-requires
put_byte-requires c =
    let long = row-length c.args.n c.args.inverse.now c.args.row in
    omega (arith, long, c.requires.row_in_bounds, c.put_field-i.ensures.value, c.put_columns-j.ensures.value)

pub returns : goal.returns
returns c =
    let a = c.args in let t = row_put a.out.now a.at a.n a.inverse.now a.row (c.put_field-i.ensures.value, c.put_field-i.ensures.out_after) (c.put_columns-j.ensures.value, c.put_columns-j.ensures.out_after)
    (c.put_byte.ensures.value, c.put_byte.ensures.out_after) in record { value = t.0; out_after = t.1 }
