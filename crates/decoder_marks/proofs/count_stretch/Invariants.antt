-- The marks in the bytes so far are counted, at most eight a byte.
use mathlib.Core.Path.{◌≡◌}
use Prim.Native.Nat.{◌*◌, ◌≤◌}
use lib.ListN.{take}
use Rattle.decoder_marks.specs.Marks.{set_marks}
use Rattle.decoder_marks.proofs.count_stretch.Given as goal

abbrev pub invariant-loop-byte : goal.invariant-loop-byte
invariant-loop-byte l = (l.n ≤ 8 * l.byte-index) × (l.n ≡ set_marks (take l.byte-index l.marks))
