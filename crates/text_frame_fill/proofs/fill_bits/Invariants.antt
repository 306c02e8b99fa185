-- The loop's invariant: the first bytes, of those that are left behind, are the bits that are read.
use Rattle.text_formats.specs.Items.{bits, prep, walk}
use mathlib.Core.Path.{◌≡◌}
use lib.ListN.{length, take}
use Prim.Native.Nat.{◌-◌}
use Rattle.text_frame_fill.proofs.fill_bits.Given as goal

abbrev pub invariant-loop-b : goal.invariant-loop-b
invariant-loop-b l =
    walk (bits (length l.initial.out)) l.s l.at ≡ prep (take l.b-index l.out) (walk (bits (length l.initial.out - l.b-index)) l.s l.q)
