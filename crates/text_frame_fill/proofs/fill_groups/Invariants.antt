-- The loop's invariant: the bits of i groups are written, and the walk of all lines goes on behind them.
use Rattle.text.specs.FrameText.{group_lines}
use Rattle.text_formats.specs.Items.{prep, walk}
use mathlib.Core.Path.{◌≡◌}
use lib.ListN.{length, take}
use Prim.Native.Nat.{◌+◌, ◌-◌, ◌*◌}
use Rattle.text_frame_fill.proofs.fill_groups.Given as goal

abbrev pub invariant-loop-i : goal.invariant-loop-i
invariant-loop-i l =
    (length l.out ≡ l.count * (2 * l.n))
    × (walk (group_lines l.n 1 l.count) l.s l.at ≡ prep (take (l.i * (2 * l.n)) l.out) (walk (group_lines l.n (l.i + 1) (l.count - l.i)) l.s l.q))
