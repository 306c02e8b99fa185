-- The line is right, so its number is, and its bits stand behind the space.
use native.Mathlib.Omega.{arith}
use Rattle.text_kit_fill.proofs.RowFilling.{row_there, row_parts, row_next, row_packed}
use Rattle.text_kit_fill.proofs.fill_row.Goals as goal

pub unwrap-i-requires : goal.unwrap-i-requires
unwrap-i-requires c = row_there _ _ _ _ _ c.number_is.ensures c.requires.passes

pub overflow_add-first : goal.overflow_add-first
overflow_add-first c =
    let P = row_parts _ _ _ _ _ c.number_is.ensures _ c.unwrap-i.ensures c.requires.passes in
    omega (arith, P.room)

pub pack_row-requires : goal.pack_row-requires
pack_row-requires c =
    let P = row_parts _ _ _ _ _ c.number_is.ensures _ c.unwrap-i.ensures c.requires.passes in record {
      n_in_bounds = omega (arith, P.room);
      n_in_bounds_2 = c.requires.n_in_bounds;
    }

pub overflow_add-result : goal.overflow_add-result
overflow_add-result c =
    let P = row_parts _ _ _ _ _ c.number_is.ensures _ c.unwrap-i.ensures c.requires.passes in
    omega (arith, P.room)

pub overflow_add-result-2 : goal.overflow_add-result-2
overflow_add-result-2 c =
    let P = row_parts _ _ _ _ _ c.number_is.ensures _ c.unwrap-i.ensures c.requires.passes in
    omega (arith, P.room)

pub returns : goal.returns
returns c =
    let e = c.number_is.ensures in
    let f = c.unwrap-i.ensures in
    let h = c.requires.passes in record {
      result_value = row_next _ _ _ _ _ e _ f h;
      out_after = row_packed _ _ _ _ _ e _ f h _ _ _ c.pack_row.ensures;
    }
