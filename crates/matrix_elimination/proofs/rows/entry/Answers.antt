-- The byte that holds column j lies in row i.
use mathlib.Core.Path.{ap}
use Prim.Native.Nat.{ℕ, ◌+◌, ◌*◌, ◌/◌, ◌%◌}
use lib.ListN.{get_or}
use Rattle.staircase.specs.Square.{digit}
use Rattle.matrix_elimination.specs.Steps.{bit_at}
use Rattle.matrix_elimination.proofs.rows.entry.Goals as goal

pub returns : goal.returns
unfolding bit_at
returns c =
    let a = c.args in
    ap (λ (z : ℕ). digit (get_or a.m.now (a.i * z + a.j / 8) 0) (a.j % 8)) c.requires.1
