-- The loop's invariant: i lines are read, and the walk of all lines goes on behind them.
use Rattle.text.specs.FrameText.{group_lines}
use Rattle.text_items.specs.Answers.{step_of}
use Rattle.text_formats.specs.Items.{walk}
use mathlib.Core.Path.{◌≡◌}
use Prim.Native.Nat.{◌+◌, ◌-◌}
use Rattle.text_frame_scan.proofs.group_lines.Given as goal

abbrev pub invariant-loop-i : goal.invariant-loop-i
invariant-loop-i l = step_of (walk (group_lines l.n 1 l.count) l.s l.at) ≡ step_of (walk (group_lines l.n (l.i + 1) (l.count - l.i)) l.s l.q)
