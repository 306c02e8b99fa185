use mathlib.Core.Path.{◌≡◌}
use Prim.Native.Nat.{◌+◌}
use native.Mathlib.Omega.{arith}
use Rattle.matrix_elimination.specs.Steps.{row_width, left}
use Rattle.matrix_elimination.proofs.Pivoting.{searched_next}
use Rattle.matrix_elimination.proofs.RowBits.{bit-lt}
use Rattle.matrix_elimination.proofs.StepLaws.{steps_then}
use Rattle.matrix_elimination.proofs.rows.find_pivot.Goals as goal

pub loop-i-preserved : goal.loop-i-preserved
loop-i-preserved c =
    let a = c.args in
    let l = c.loop-i in
    let r = c.reduce_row in
    let last : left a.n r.new.m l.i (a.lo + a.p) ≡ 0 =
    omega (arith, c.if-entry-eq1.false, c.entry.ensures, bit-lt r.new.m (row_width a.n) l.i (a.lo + a.p)) in (
      omega arith,
      omega arith,
      steps_then a.n a.m.now l.m r.new.m l.invariant.2 r.ensures.row_steps,
      searched_next a.n a.lo a.p l.i (left a.n l.m) (left a.n r.new.m)
          c.requires.3 (omega arith) l.invariant.3 r.ensures.pivots.0 r.ensures.pivots.1 r.ensures.pivots.2 last,
    )
