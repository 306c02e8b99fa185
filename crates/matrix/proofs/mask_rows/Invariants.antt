-- The loop's invariant: the first `b` bytes of the row are masked in, in every column.
use mathlib.Core.Path.{◌≡◌}
use lib.ListN.{length}
use Rattle.matrix.proofs.Product.{Masked}
use Rattle.matrix.proofs.mask_rows.Given as goal

abbrev pub invariant-loop-b : goal.invariant-loop-b
invariant-loop-b l = (length l.acc ≡ l.n) × Masked l.row l.t l.n l.acc l.b
