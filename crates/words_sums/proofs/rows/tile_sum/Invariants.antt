-- The loop's invariant: `x` is the sum over the first `c` tiles. The measure is the number of tiles left.
use mathlib.Core.Path.{◌≡◌}
use Prim.Native.Nat.{◌+◌, ◌-◌, ◌*◌, ◌≤◌}
use lib.ListN.{get_or}
use Rattle.bch.specs.Powers.{xor_sum}
use Rattle.words_sums.proofs.rows.tile_sum.Given as goal

abbrev pub invariant-loop-c : goal.invariant-loop-c
invariant-loop-c l = (l.c ≤ l.count) × (l.x ≡ xor_sum l.c (λ k. get_or l.tables (256 * k + get_or l.turned (8 * k + l.i) 0) 0))

abbrev pub decreases-loop-c : goal.decreases-loop-c
decreases-loop-c l = l.count - l.c
