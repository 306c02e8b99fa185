-- The loop's invariant: the first `j` entries are those of their positions.
use mathlib.Core.Path.{◌≡◌}
use Prim.Native.Nat.{ℕ, ◌-◌, ◌<◌}
use lib.ListN.{get_or}
use Rattle.bch.specs.Locator.{power_syndromes}
use Rattle.bch_field.proofs.logarithms.fill_syndromes_by.Given as goal

abbrev pub invariant-loop-j : goal.invariant-loop-j
invariant-loop-j l = (k : ℕ) → k < l.j → get_or l.table k 0 ≡ power_syndromes l.m (l.n - 1 - k)
