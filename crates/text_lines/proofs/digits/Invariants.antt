-- Each division by 10 takes one digit away; what is left below 10 has one.
use mathlib.Core.Path.{◌≡◌}
use Prim.Native.Nat.{◌+◌, ◌^◌, ◌<◌}
use lib.ListN.{length}
use Rattle.text_formats.specs.Format.{dec}
use Rattle.text_lines.proofs.digits.Given as goal

abbrev pub invariant-loop-x : goal.invariant-loop-x
invariant-loop-x l = (l.x < 2 ^ 64) × (l.n + length (dec l.x) ≡ length (dec l.v) + 1)

abbrev pub decreases-loop-x : goal.decreases-loop-x
decreases-loop-x l = l.x
