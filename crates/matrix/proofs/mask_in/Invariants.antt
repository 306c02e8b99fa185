-- The loop's invariant: the first `x` bytes are masked in and the others as they were.
use mathlib.Core.Path.{◌≡◌}
use mathlib.Core.List.{List}
use Prim.Native.Nat.{ℕ, ◌≤◌, ◌<◌}
use lib.Bits.{bit_and, bit_xor}
use lib.ListN.{get_or}
use Rattle.matrix.proofs.mask_in.Given as goal

-- what is left at place q
abbrev pub masked : List ℕ → List ℕ → ℕ → ℕ → ℕ
masked acc plane v q = bit_xor (get_or acc q 0) (bit_and (get_or plane q 0) v)

abbrev pub invariant-loop-x : goal.invariant-loop-x
invariant-loop-x l =
    ((q : ℕ) → q < l.x → get_or l.acc q 0 ≡ masked l.initial.acc l.plane l.v q) × ((q : ℕ) → l.x ≤ q → get_or l.acc q 0 ≡ get_or l.initial.acc q 0)
