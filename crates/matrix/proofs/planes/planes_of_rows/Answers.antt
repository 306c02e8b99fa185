use mathlib.Core.Path.{◌≡◌, ◌∙◌}
use Prim.Native.Nat.{◌+◌, ◌-◌, ◌*◌}
use native.Mathlib.Nat.{mul_comm}
use native.Mathlib.Omega.{arith}
use borrow.Rule.Slice.PartMut.{same_len_mid}
use Rattle.staircase.specs.System.{row_bytes}
use Rattle.matrix.specs.Packed.{padded_entry}
use Rattle.matrix.proofs.Filled.{planes_more, planes_all}
use Rattle.matrix.proofs.planes.planes_of_rows.Goals as goal

pub loop-b-preserved : goal.loop-b-preserved
loop-b-preserved c =
    let a = c.args in
    let l = c.loop-b in
    let filled = c.plane_of_rows in (
      omega arith,
      same_len_mid (l.b * a.n) (l.b * a.n + a.n - l.b * a.n) l.t filled.new.plane filled.ensures.0 ∙ l.invariant.1,
      planes_more a.n (row_bytes a.n) (padded_entry a.w.now a.n) l.t filled.new.plane l.b (omega arith) (omega arith)
          filled.ensures.0 l.invariant.2 filled.ensures.1,
    )

pub returns : goal.returns
returns c =
    let a = c.args in
    let l = c.loop-b in
    let e : l.b ≡ row_bytes a.n = omega arith in
    (omega arith, planes_all l.t a.n (padded_entry a.w.now a.n) (rw (e, mul_comm (row_bytes a.n) a.n) at l.invariant.2))
