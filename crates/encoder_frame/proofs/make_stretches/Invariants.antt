-- The loop's invariant: the groups before the 64 k-th are made.
use mathlib.Core.Path.{◌≡◌}
use Prim.Native.Nat.{◌*◌, min}
use lib.ListN.{length}
use Rattle.staircase.specs.Frame.{groups}
use Rattle.staircase.proofs.Fill.{stretches}
use Rattle.encoder_frame.specs.Groups.{group_at}
use Rattle.encoder_frame.proofs.make_stretches.Given as goal

abbrev pub invariant-loop-k : goal.invariant-loop-k
invariant-loop-k l =
    (l.count ≡ l.sizes.frames * groups l.sizes.blocks) × (length l.red ≡ l.sizes.frames * groups l.sizes.blocks * (2 * (l.sizes.size * l.sizes.r)))
    × (l.red ≡ stretches (group_at l.columns l.positions l.preimages l.inverse l.sizes.size l.sizes.r l.sizes.blocks l.info) l.initial.red (2 * (l.sizes.size * l.sizes.r)) (min (64 * l.k) l.count))
