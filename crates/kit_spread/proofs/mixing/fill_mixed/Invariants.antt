-- The loop's invariant: the first p entries are written, the rest as it was.
use mathlib.Core.Path.{◌≡◌}
use Rattle.staircase.proofs.Fill.{stretches}
use Rattle.design.specs.Sizes.{params_of}
use Rattle.kit_spread.specs.Mixing.{table_to}
use Rattle.kit_spread.proofs.Turning.{two_bytes}
use Rattle.kit_spread.proofs.mixing.fill_mixed.Given as goal

abbrev pub invariant-loop-p : goal.invariant-loop-p
invariant-loop-p l = l.list ≡ stretches (two_bytes (table_to (params_of l.d) l.by l.rows)) l.initial.list 2 l.p
