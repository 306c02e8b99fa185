-- The marks that are counted and those of the stretches that are left are all.
use mathlib.Core.Path.{◌≡◌}
use Prim.Native.Nat.{◌+◌, ◌*◌, ◌≤◌}
use lib.ListN.{length}
use Rattle.std.specs.Slice.Iter.{chunks_rest, chunks_size}
use Rattle.decoder_marks.specs.Marks.{set_marks}
use Rattle.decoder_marks.proofs.count.Given as goal

abbrev pub invariant-loop-stretch : goal.invariant-loop-stretch
invariant-loop-stretch l =
    (l.n + 8 * length (chunks_rest l.stretch-iterator) ≤ 8 * length l.marks) × (l.n + set_marks (chunks_rest l.stretch-iterator) ≡ set_marks l.marks)
    × (chunks_size l.stretch-iterator ≡ 4096)
