-- The loop's invariant: `v` is the byte of the bits from bit `i` on.
use mathlib.Core.Path.{◌≡◌}
use Prim.Native.Nat.{◌+◌, ◌-◌, ◌*◌}
use Rattle.words_sums.specs.Listed.{listed_byte}
use Rattle.words_sums.proofs.listed.few_bits.Given as goal

abbrev pub invariant-loop-i : goal.invariant-loop-i
invariant-loop-i l = l.v ≡ listed_byte l.list l.bits (l.p + l.i * l.w) l.w (l.count - l.i)
