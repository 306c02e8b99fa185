use mathlib.Core.Path.{◌≡◌, refl, ap, ◌∙◌}
use Prim.Native.Nat.{ℕ, ◌+◌, ◌*◌}
use native.Mathlib.Nat.{add-sub_cancel_left, zero-mul, suc-mul}
use native.Mathlib.Numerals.{add-one}
use native.Mathlib.Omega.{arith}
use lib.ListN.{take, drop}
use Rattle.staircase.specs.System.{row_bytes}
use Rattle.staircase.proofs.Fill.{filled_none, filled-all, filled-stretch}
use Rattle.matrix_elimination.specs.Steps.{row_width}
use Rattle.kit_maker.specs.Making.{right_byte}
use Rattle.kit_maker.proofs.Halves.{right_row}
use Rattle.kit_maker.proofs.copy_right.Goals as goal

pub loop-e-init : goal.loop-e-init
loop-e-init c = rw (zero-mul (row_bytes c.args.n)) (filled_none (right_byte c.args.m.now c.args.n) c.args.out.now)

pub loop-e-preserved : goal.loop-e-preserved
loop-e-preserved c =
    let a = c.args in
    let l = c.loop-e in
    let s = c.copy_row in
    let w : ℕ = row_bytes a.n in
    let from : ℕ = l.e * row_width a.n + w in
    let row = right_row a.n a.m.now l.e from w (omega arith) c.requires.2 refl refl in
    rw (add-one l.e, suc-mul l.e w)
    (filled-stretch (right_byte a.m.now a.n) a.out.now l.out s.new.out (l.e * w) w l.invariant
    (s.ensures ∙ ap (λ (k : ℕ). take k (drop from a.m.now)) (add-sub_cancel_left from w) ∙ row))

pub returns : goal.returns
returns c =
    let a = c.args in
    let l = c.loop-e in
    let e : l.e ≡ a.n = omega arith in
    l.invariant ∙ filled-all (right_byte a.m.now a.n) a.out.now (l.e * row_bytes a.n) (a.n * row_bytes a.n) (ap (λ (k : ℕ). k * row_bytes a.n) e) c.requires.3
