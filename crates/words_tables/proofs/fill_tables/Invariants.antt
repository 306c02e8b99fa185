-- The loop's invariant: the tables before `j` are filled. The measure is the number of tables left.
use mathlib.Core.Path.{◌≡◌}
use Prim.Native.Nat.{ℕ, ◌+◌, ◌-◌, ◌*◌, ◌/◌, ◌≤◌, ◌<◌}
use lib.ListN.{length, get_or}
use Rattle.words_tables.specs.Tables.{table_entry}
use Rattle.words_tables.proofs.fill_tables.Given as goal

abbrev pub invariant-loop-j : goal.invariant-loop-j
invariant-loop-j l =
    (l.j ≤ (length l.part + 7) / 8) × (length l.tables ≡ length l.initial.tables) × ((q : ℕ) → q < 256 * l.j → get_or l.tables q 0 ≡ table_entry (λ k. get_or l.part k 0) q)

abbrev pub decreases-loop-j : goal.decreases-loop-j
decreases-loop-j l = (length l.part + 7) / 8 - l.j
