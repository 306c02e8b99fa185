-- `Summed` of proofs/Adding.antt, for lines of at most 63 bytes.
use Prim.Native.Nat.{◌-◌, ◌≤◌}
use Rattle.text.specs.KitSpelled.{pair_at}
use Rattle.text_kit_write.proofs.Adding.{Summed}
use Rattle.text_kit_write.proofs.lengths.pairs_length.Given as goal

abbrev pub invariant-loop-p : goal.invariant-loop-p
invariant-loop-p l = (l.p ≤ l.n) × Summed (pair_at l.n l.own l.parity) 63 l.sum l.p

abbrev pub decreases-loop-p : goal.decreases-loop-p
decreases-loop-p l = l.n - l.p
