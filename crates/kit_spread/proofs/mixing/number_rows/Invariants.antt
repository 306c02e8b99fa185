-- The first j rows are numbered.
use mathlib.Core.Path.{◌≡◌}
use Rattle.staircase.proofs.Fill.{filled}
use Rattle.kit_spread.proofs.mixing.number_rows.Given as goal

abbrev pub invariant-loop-j : goal.invariant-loop-j
invariant-loop-j l = l.rows ≡ filled (λ k. k) l.initial.rows l.j
