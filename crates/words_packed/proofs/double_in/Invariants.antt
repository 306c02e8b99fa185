-- The loop's invariant: the first `k` bytes are doubled, with the row's bits added, the others as they were, and `reads` is `k`.
use mathlib.Core.Path.{◌≡◌}
use Prim.Native.Nat.{ℕ, ◌+◌, ◌*◌, ◌≤◌, ◌<◌}
use lib.ListN.{get_or}
use Rattle.words_packed.proofs.double_in.Given as goal

abbrev pub invariant-loop-k : goal.invariant-loop-k
invariant-loop-k l =
    (l.reads ≡ l.k) × ((q : ℕ) → q < l.k → get_or l.packed q 0 ≡ 2 * get_or l.initial.packed q 0 + get_or l.row q 0)
    × ((q : ℕ) → l.k ≤ q → get_or l.packed q 0 ≡ get_or l.initial.packed q 0)
