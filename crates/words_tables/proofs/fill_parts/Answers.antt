-- The tables of the blocks are filled, and then those of the redundancy behind them.
use mathlib.Core.Path.{◌≡◌, ap, ◌∙◌}
use Prim.Native.Nat.{ℕ, ◌+◌, ◌*◌}
use native.Mathlib.Omega.{arith}
use borrow.Rule.Slice.PartMut.{mid_len}
use Rattle.words_tables.specs.Tables.{table_length}
use Rattle.words_tables.proofs.Tables.{parts_rest}
use Rattle.words_tables.proofs.fill_parts.Goals as goal

pub fill_halves-requires : goal.fill_halves-requires
unfolding table_length
fill_halves-requires c =
    let a = c.args in
    let b = c.table_length-b in
    (omega arith, omega arith, mid_len 0 (2 * b.result) a.tables.now (omega (arith, b.ensures.0)) ∙ omega (arith, b.ensures.0))

pub fill_halves-requires-2 : goal.fill_halves-requires-2
unfolding table_length
fill_halves-requires-2 c =
    let a = c.args in
    let b = c.table_length-b in
    let e = c.table_length-e in
    let one = c.fill_halves in
    let eb : 2 * b.result ≡ 2 * table_length a.size = ap (λ (n : ℕ). 2 * n) b.ensures.0 in
    let ee : 2 * e.result ≡ 2 * table_length a.r = ap (λ (n : ℕ). 2 * n) e.ensures.0 in (
      omega arith,
      omega (arith, mid_len (2 * a.size) (2 * a.size + 2 * a.r) a.positions.now (omega arith)),
      parts_rest a.positions.now a.tables.now one.new.tables a.size a.r (2 * b.result) (2 * e.result) c.requires.3 eb ee
          one.ensures.1 ∙ ee,
    )
