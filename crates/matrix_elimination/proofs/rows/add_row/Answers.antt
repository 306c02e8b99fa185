use mathlib.Core.Path.{◌≡◌, ap₂, subst}
use Prim.Native.Nat.{ℕ, ◌+◌, ◌*◌}
use native.Mathlib.Omega.{arith}
use lib.Bits.{bit_xor}
use lib.ListN.{get_or}
use Rattle.staircase.proofs.Bounds.{small_product, stretch-end}
use Rattle.matrix_elimination.proofs.RowLoop.{Written, written_none, written_next, written-rows, other_byte, rows_apart}
use Rattle.matrix_elimination.proofs.rows.add_row.Goals as goal

pub loop-c-init : goal.loop-c-init
loop-c-init c =
    let a = c.args in (
      omega arith,
      omega (arith, small_product a.k a.w 4352 1024 (omega arith) (omega arith)),
      omega (arith, stretch-end a.to a.k a.w (omega arith)),
      omega (arith, stretch-end a.from a.k a.w (omega arith)),
      rows_apart a.to a.from a.w c.requires.5,
      written_none _ _ _,
    )

pub loop-c-preserved : goal.loop-c-preserved
loop-c-preserved c =
    let a = c.args in
    let l = c.loop-c in
    let h = l.invariant.5 in (
      omega arith,
      l.invariant.1,
      l.invariant.2,
      l.invariant.3,
      l.invariant.4,
      written_next _ _ _ _ _ _ (omega arith)
          (ap₂ bit_xor (h.rest (a.to * a.w + l.c) (omega arith)) (other_byte _ _ _ _ a.w _ _ h (omega arith) l.invariant.4)) h,
    )

pub returns : goal.returns
returns c =
    let a = c.args in
    let l = c.loop-c in
    let e : l.c ≡ a.w = omega arith in
    let f : ℕ → ℕ = λ j. bit_xor (get_or a.m.now (a.to * a.w + j) 0) (get_or a.m.now (a.from * a.w + j) 0) in (
      l.invariant.5.long,
      λ i x h.
          written-rows a.m.now a.w a.to f l.m (subst (λ (z : ℕ). Written a.m.now (a.to * a.w) z f l.m) e l.invariant.5) i x,
    )
