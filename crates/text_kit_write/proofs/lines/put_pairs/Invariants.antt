-- `Written` of proofs/Adding.antt of the lines of the lists.
use Prim.Native.Nat.{◌-◌, ◌≤◌}
use Rattle.text.specs.KitSpelled.{pair_at}
use Rattle.text_kit_write.proofs.Adding.{Written}
use Rattle.text_kit_write.proofs.lines.put_pairs.Given as goal

abbrev pub invariant-loop-p : goal.invariant-loop-p
invariant-loop-p l = (l.p ≤ l.n) × Written (pair_at l.n l.own l.parity) l.initial.out l.at l.out l.q l.p

abbrev pub decreases-loop-p : goal.decreases-loop-p
decreases-loop-p l = l.n - l.p
