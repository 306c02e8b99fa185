-- The loop's invariant: the constants of the groups before `g` are in the words, whose other bits are 0.
use mathlib.Core.Path.{◌≡◌}
use Prim.Native.Nat.{ℕ, ◌*◌, ◌≤◌, ◌<◌}
use lib.ListN.{length, get_or}
use Rattle.staircase.specs.Batch.{frame_at}
use Rattle.encoder_solution.specs.Bits.{place_constant}
use Rattle.encoder_solution.proofs.Gathered.{Gathered}
use Rattle.encoder_frame.proofs.stretch.add_constants.Given as goal

abbrev pub invariant-loop-g : goal.invariant-loop-g
invariant-loop-g l =
    (l.w ≡ 2 * length l.initial.words) × (l.g ≤ l.count) × (length l.words ≡ length l.initial.words)
    × ((q : ℕ) → q < length l.initial.words → Gathered (λ j. place_constant (frame_at (2 * length l.initial.words) l.red j) l.preimages (length l.initial.words) q) (get_or l.words q 0) l.g)
