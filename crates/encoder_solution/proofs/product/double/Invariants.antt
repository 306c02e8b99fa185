-- The loop's invariant: `v` entries behind the first w are made, and those are as they were.
use mathlib.Core.Path.{◌≡◌}
use Prim.Native.Nat.{◌≤◌}
use lib.ListN.{length}
use Rattle.words_tables.proofs.Tables.{Doubled}
use Rattle.encoder_solution.proofs.product.double.Given as goal

abbrev pub invariant-loop-v : goal.invariant-loop-v
invariant-loop-v l = (l.v ≤ l.w) × (length l.table ≡ length l.initial.table) × Doubled l.initial.table l.w l.x l.v l.table
