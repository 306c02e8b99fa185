-- The loop's invariant: the tables before `j` are filled.
use mathlib.Core.Path.{◌≡◌}
use Prim.Native.Nat.{ℕ, ◌*◌, ◌≤◌, ◌<◌}
use lib.ListN.{length, get_or}
use Rattle.words_tables.specs.Tables.{table_entry}
use Rattle.encoder_solution.proofs.product.fill_tables.Given as goal

abbrev pub invariant-loop-j : goal.invariant-loop-j
invariant-loop-j l =
    (l.j ≤ l.c) × (length l.tables ≡ length l.initial.tables) × ((q : ℕ) → q < 256 * l.j → get_or l.tables q 0 ≡ table_entry (λ k. get_or l.words k 0) q)
