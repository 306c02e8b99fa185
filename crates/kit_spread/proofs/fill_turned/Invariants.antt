-- The loop's invariant: the first p entries are written, the rest as it was.
use mathlib.Core.Path.{◌≡◌}
use Rattle.staircase.specs.Spread.{turned_to}
use Rattle.staircase.proofs.Fill.{stretches}
use Rattle.design.specs.Sizes.{params_of}
use Rattle.kit_spread.proofs.Turning.{two_bytes}
use Rattle.kit_spread.proofs.fill_turned.Given as goal

abbrev pub invariant-loop-p : goal.invariant-loop-p
invariant-loop-p l = l.list ≡ stretches (two_bytes (turned_to (params_of l.d) l.by)) l.initial.list 2 l.p
