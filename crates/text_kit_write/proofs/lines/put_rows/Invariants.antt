-- `Written` of proofs/Adding.antt of the lines of the rows.
use Prim.Native.Nat.{◌-◌, ◌≤◌}
use Rattle.text.specs.KitSpelled.{row_text}
use Rattle.text_kit_write.proofs.Adding.{Written}
use Rattle.text_kit_write.proofs.lines.put_rows.Given as goal

abbrev pub invariant-loop-i : goal.invariant-loop-i
invariant-loop-i l = (l.i ≤ l.n) × Written (row_text l.n l.inverse) l.initial.out l.at l.out l.q l.i

abbrev pub decreases-loop-i : goal.decreases-loop-i
decreases-loop-i l = l.n - l.i
