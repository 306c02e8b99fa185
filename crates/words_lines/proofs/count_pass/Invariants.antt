-- The loop's invariant: the words outside the code in the lines before line k that the pass takes are counted. The measure is the number of lines left.
use mathlib.Core.Path.{◌≡◌}
use Prim.Native.Nat.{◌-◌, ◌*◌, ◌≤◌}
use Rattle.staircase.specs.Lists.{concat}
use Rattle.staircase.specs.Frame.{outside_among, frame_of}
use Rattle.design.specs.Sizes.{params_of}
use Rattle.layout.specs.Layouts.{lines_in}
use Rattle.words_lines.specs.Words.{layout_with, pass_sites}
use Rattle.words_lines.proofs.count_pass.Given as goal

abbrev pub invariant-loop-k : goal.invariant-loop-k
invariant-loop-k l =
    (l.lines ≡ lines_in l.pass.frames.shape l.pass.frames.blocks) × (l.k ≤ l.lines) × (l.total ≤ 500 * l.k)
    × (l.total ≡ outside_among (params_of l.pass.frames.d) (frame_of l.info l.red)
    (concat l.k (pass_sites l.pass.frames.shape (layout_with l.pass.frames l.own l.parity) l.pass.back)))

abbrev pub decreases-loop-k : goal.decreases-loop-k
decreases-loop-k l = l.lines - l.k
