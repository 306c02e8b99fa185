-- The loop's invariant: the groups before `g` are finished, the others as they were.
use mathlib.Core.Path.{◌≡◌}
use Prim.Native.Nat.{◌*◌, ◌≤◌}
use lib.ListN.{length}
use Rattle.staircase.specs.Batch.{frame_at}
use Rattle.staircase.proofs.Fill.{stretches}
use Rattle.encoder_frame.specs.Group.{finished_of}
use Rattle.encoder_frame.proofs.stretch.finish_groups.Given as goal

abbrev pub invariant-loop-g : goal.invariant-loop-g
invariant-loop-g l =
    (l.w ≡ 2 * (l.size * l.r)) × (l.g ≤ l.count) × (length l.red ≡ l.count * (2 * (l.size * l.r)))
    × (l.red ≡ stretches (λ k. finished_of l.words k l.part l.size l.r (frame_at (2 * (l.size * l.r)) l.initial.red k)) l.initial.red (2 * (l.size * l.r)) l.g)
