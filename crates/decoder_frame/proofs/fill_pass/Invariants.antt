-- The loop's invariant: the numbers of the lines before line k that the pass takes are filled, and all others are as they were.
use mathlib.Core.Path.{◌≡◌}
use Prim.Native.Nat.{◌≤◌}
use lib.ListN.{length}
use Rattle.staircase.specs.Frame.{frame_of}
use Rattle.layout.specs.Layouts.{lines_in}
use Rattle.decoder_frame.specs.Filled.{PassFilled}
use Rattle.decoder_frame.proofs.fill_pass.Given as goal

abbrev pub invariant-loop-k : goal.invariant-loop-k
invariant-loop-k l =
    (l.lines ≡ lines_in l.pass.frames.shape l.pass.frames.blocks) × (l.k ≤ l.lines) × (length l.numbers ≡ length l.initial.numbers)
    × PassFilled l.pass l.own l.parity (frame_of l.info l.red) l.k l.initial.numbers l.numbers
