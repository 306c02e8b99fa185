use mathlib.Core.Path.{◌≡◌, sym, ◌∙◌}
use Prim.Native.Nat.{◌+◌, ◌*◌}
use native.Mathlib.Omega.{arith}
use Rattle.staircase.specs.System.{row_bytes}
use Rattle.matrix.proofs.Block.{loaded_more, loaded_all}
use Rattle.matrix.proofs.Packed.{padded_entry-at}
use Rattle.matrix.proofs.planes.block_at.Invariants.{rows}
use Rattle.matrix.proofs.planes.block_at.Goals as goal

pub loop-r-preserved : goal.loop-r-preserved
loop-r-preserved c =
    let a = c.args in
    let l = c.loop-r in
    (omega arith, loaded_more (rows a.w.now a.n a.rb a.b a.c) l.q l.r _ (c.from.ensures ∙ c.byte_at-v.ensures) (omega arith) l.invariant.1)

pub returns : goal.returns
returns c r s h k =
    let a = c.args in
    let l = c.loop-r in
    let e : l.r ≡ 8 = omega arith in
    let d : a.rb ≡ row_bytes a.n = omega arith in
    loaded_all (rows a.w.now a.n a.rb a.b a.c) l.q r s h k (rw e at l.invariant.1)
    ∙ rw d (sym (padded_entry-at a.w.now a.n (8 * a.b + r) a.c s k))
