use mathlib.Core.Path.{◌≡◌, ap, ◌∙◌}
use Prim.Native.Nat.{ℕ, ◌+◌, ◌-◌, ◌*◌}
use native.Mathlib.Omega.{arith}
use borrow.Rule.Slice.PartMut.{mid_len}
use Rattle.staircase.specs.System.{row_bytes}
use Rattle.staircase.specs.Rules.{entries}
use Rattle.matrix_elimination.specs.Steps.{row_width}
use Rattle.kit_system.specs.Rows.{row_entry}
use Rattle.kit_maker.specs.Making.{sent_row}
use Rattle.staircase.proofs.Bounds.{stretch-end}
use Rattle.kit_maker.proofs.Halves.{rows_more}
use Rattle.kit_maker.proofs.fill_rows.Goals as goal

pub loop-e-preserved : goal.loop-e-preserved
unfolding sent_row
loop-e-preserved c =
    let a = c.args in
    let h = c.requires in
    let l = c.loop-e in
    let s = c.preimage_of-p in
    let r = c.system_row in
    let p = stretch-end l.e (a.n + 256) (row_width a.n) (omega arith) in
    let from : ℕ = l.e * row_width a.n in
    let k : ℕ = from + row_bytes a.n - from in
    let m = mid_len from (from + row_bytes a.n) l.m (omega (arith, p, l.auto.m, h.matrix_length)) in
    let e : k ≡ row_bytes a.n = omega arith in
    let own = entries a.n a.own.now in
    rows_more a.n (sent_row a.columns.now a.part.now own a.size a.preimages.now) l.m r.new.out l.e k h.small (omega arith)
    (l.auto.m ∙ h.matrix_length) (r.ensures.0 ∙ m ∙ e) e l.invariant
    (λ j. r.ensures.1 j ∙ ap (λ (q : ℕ). row_entry a.columns.now a.part.now own a.size q l.e j) s.ensures.0)
