-- The right half of row i is made 0, and one byte of it is written.
use mathlib.Core.Path.{◌≡◌, subst}
use mathlib.Core.Bool.{cond}
use mathlib.Core.List.{List}
use Prim.Native.Nat.{ℕ, ◌+◌, ◌-◌, ◌*◌, ◌/◌, ◌%◌, ◌^◌, ◌<◌, ◌≤◌}
use native.Mathlib.Omega.{arith}
use lib.Dec.{eqb}
use lib.ListN.{set}
use Rattle.staircase.specs.System.{identity, row_bytes}
use Rattle.matrix_elimination.specs.Steps.{bit_at}
use Rattle.matrix_elimination.proofs.PartBack.{back}
use Rattle.matrix_elimination.proofs.UnitRow.{unit-length, unit_left, unit-right}
use Rattle.matrix_elimination.proofs.unit_row.Goals as goal

pub returns : goal.returns
returns c =
    let a = c.args in
    let p = c.requires in
    let r = c.fill in
    let rb : ℕ = row_bytes a.n in
    let s : ℕ = a.i * a.w + a.w / 2 in
    let k : ℕ = a.i * a.w + a.w - s in
    let es : s ≡ a.i * a.w + rb = omega arith in
    let ek : k ≡ rb = omega arith in
    let wide : a.n ≤ 8 * rb = omega arith in
    let new : List ℕ = set (back a.m.now r.new.self s k) (s + a.i / 8) (1 * 2 ^ (a.i % 8) % 2 ^ 8) in (
      unit-length a.m.now r.new.self a.n a.w rb a.i s k p.3 p.1 wide p.0 es ek (r.ensures.after (λ y h. h)),
      subst (λ (z : ℕ). (q j : ℕ) → q < a.n → j < 8 * rb → bit_at new z q j ≡ bit_at a.m.now z q j) p.1
          (unit_left a.m.now r.new.self a.n a.w rb a.i s k p.3 p.1 wide p.0 es ek (r.ensures.after (λ y h. h))),
      subst
          (λ (z : ℕ). (q j : ℕ) → q < a.n → j < 8 * rb
          → bit_at new z q (8 * rb + j) ≡ cond (eqb q a.i) (identity q j) (bit_at a.m.now z q (8 * rb + j)))
          p.1 (unit-right a.m.now r.new.self a.n a.w rb a.i s k p.3 p.1 wide p.0 es ek (r.ensures.after (λ y h. h))),
    )
