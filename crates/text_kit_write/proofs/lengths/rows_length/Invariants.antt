-- `Summed` of proofs/Adding.antt, for lines of at most 4,118 bytes.
use mathlib.Core.List.{[]}
use Prim.Native.Nat.{◌-◌, ◌≤◌}
use Rattle.text.specs.KitSpelled.{row_text}
use Rattle.text_kit_write.proofs.Adding.{Summed}
use Rattle.text_kit_write.proofs.lengths.rows_length.Given as goal

abbrev pub invariant-loop-i : goal.invariant-loop-i
invariant-loop-i l = (l.i ≤ l.n) × Summed (row_text l.n []) 4118 l.sum l.i

abbrev pub decreases-loop-i : goal.decreases-loop-i
decreases-loop-i l = l.n - l.i
