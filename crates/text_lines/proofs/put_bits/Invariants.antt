-- `Copied` of proofs/Storing.antt of the characters.
use Rattle.text_lines.specs.Written.{chars}
use Rattle.text_lines.proofs.Storing.{Copied}
use Rattle.text_lines.proofs.put_bits.Given as goal

abbrev pub invariant-loop-i : goal.invariant-loop-i
invariant-loop-i l = Copied l.initial.out (chars l.bits) l.at l.out l.i
