-- The loop's invariant: the entries before `k` are filled.
use mathlib.Core.Path.{◌≡◌}
use Prim.Native.Nat.{◌+◌, ◌*◌, ◌/◌, ◌%◌, ◌≤◌}
use lib.ListN.{length, get_or}
use Rattle.staircase.proofs.Fill.{filled}
use Rattle.encoder_solution.proofs.transpose.Given as goal

abbrev pub invariant-loop-k : goal.invariant-loop-k
invariant-loop-k l =
    (l.k-end ≡ l.n * l.m) × (l.k ≤ l.n * l.m) × (length l.to ≡ l.n * l.m) × (length l.initial.to ≡ l.n * l.m) × (l.to ≡ filled (λ e. get_or l.from (e % l.m * l.n + e / l.m) 0) l.initial.to l.k)
