-- The bits from k on are gathered, the last first.
use mathlib.Core.Path.{◌≡◌}
use Prim.Native.Nat.{◌<◌}
use lib.ListN.{take, drop}
use Rattle.text_kit_fill.specs.Bytes.{lows}
use Rattle.text.specs.KitReader.{binary}
use Rattle.text_kit_fill.proofs.gather.Given as goal

abbrev pub invariant-loop-k : goal.invariant-loop-k
invariant-loop-k l = (l.v < 256) × (l.v ≡ binary (lows (drop l.k (take l.c (drop l.at l.s)))))
