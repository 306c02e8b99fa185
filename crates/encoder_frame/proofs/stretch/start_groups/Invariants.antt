-- The loop's invariant: the groups before `g` are started.
use mathlib.Core.Path.{◌≡◌}
use Prim.Native.Nat.{◌+◌, ◌*◌, ◌≤◌}
use lib.ListN.{length}
use Rattle.staircase.proofs.Fill.{stretches}
use Rattle.encoder_frame.specs.Groups.{start_at}
use Rattle.encoder_frame.proofs.stretch.start_groups.Given as goal

abbrev pub invariant-loop-g : goal.invariant-loop-g
invariant-loop-g l =
    (l.w ≡ 2 * (l.sizes.size * l.sizes.r)) × (l.g ≤ l.count) × (length l.red ≡ l.count * (2 * (l.sizes.size * l.sizes.r)))
    × (l.red ≡ stretches (λ k. start_at l.columns l.positions l.sizes.size l.sizes.r l.sizes.blocks l.info (l.first + k)) l.initial.red (2 * (l.sizes.size * l.sizes.r)) l.g)
