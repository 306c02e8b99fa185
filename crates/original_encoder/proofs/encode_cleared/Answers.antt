-- Tables that pay for themselves have the length that is due.
use native.Mathlib.Omega.{arith}
use mathlib.Core.Path.{ap}
use Prim.Native.Nat.{◌<◌}
use Rattle.design.specs.Sizes.{params_of}
use Rattle.words_tables.specs.Tables.{table_length}
use Rattle.original_encoder.proofs.Rows.{no_tail}
use Rattle.original_encoder.proofs.encode_cleared.Goals as goal

pub encode_by_tables-requires : goal.encode_by_tables-requires
encode_by_tables-requires c =
    let p = c.requires in
    let due = c.parts_due-due.ensures in
    let some : 0 < c.parts_due-due.result = omega (arith, c.if-due-eq0.false) in
    (p.0, p.1, p.2, due.0, omega (arith, due.1 some, ap table_length c.size-size.ensures, ap table_length (no_tail (params_of c.args.d))))
