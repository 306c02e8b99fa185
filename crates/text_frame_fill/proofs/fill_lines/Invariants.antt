-- The loop's invariant: the bits of i lines are written, and the walk of all lines goes on behind them.
use Rattle.text_formats.specs.Items.{bits_lines, prep, walk}
use mathlib.Core.Path.{◌≡◌}
use lib.ListN.{length, take}
use Prim.Native.Nat.{◌+◌, ◌-◌, ◌*◌}
use Rattle.text_frame_fill.proofs.fill_lines.Given as goal

abbrev pub invariant-loop-i : goal.invariant-loop-i
invariant-loop-i l =
    (length l.out ≡ l.n * l.area)
    × (walk (bits_lines l.area 1 l.n) l.s l.at ≡ prep (take (l.i * l.area) l.out) (walk (bits_lines l.area (l.i + 1) (l.n - l.i)) l.s l.q))
