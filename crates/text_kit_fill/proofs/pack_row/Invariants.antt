-- After b bytes: they are the first b of the packed bits.
use mathlib.Core.Path.{◌≡◌}
use lib.ListN.{take, drop}
use lib.Seq.{sets}
use Rattle.text_kit_fill.specs.Bytes.{lows}
use Rattle.text.specs.KitReader.{pack}
use Rattle.text_kit_fill.proofs.pack_row.Given as goal

abbrev pub invariant-loop-b : goal.invariant-loop-b
invariant-loop-b l = l.out ≡ sets l.initial.out l.from (pack l.b (lows (take l.n (drop l.at l.s))))
