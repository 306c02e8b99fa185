use mathlib.Core.Path.{ap, ◌∙◌}
use Prim.Native.Nat.{ℕ, ◌+◌, ◌*◌, ◌<◌}
use native.Mathlib.Omega.{arith}
use lib.Arith.{digits_lt}
use lib.ListN.{length, get_or}
use Rattle.bch_remainders.proofs.Rows.{row_end, column-more}
use Rattle.words_sums.specs.Listed.{listed_bit}
use Rattle.words_lines.proofs.Columns.{listed-entry, listed_below, listed-none}
use Rattle.words_lines.proofs.add_listed_rows.Goals as goal

pub loop-j-init : goal.loop-j-init
loop-j-init c = (omega arith, omega arith, λ a h. listed-none _ _)

pub add_listed_row-requires : goal.add_listed_row-requires
add_listed_row-requires c =
    let a = c.args in
    let p = c.requires in
    let l = c.loop-j in
    let w = length a.sums.now in
    let below : l.j < length a.part.now = omega arith in (
      omega (arith, row_end l.j (length a.part.now) w below, p.0.0, p.1, l.invariant.1),
      p.2,
      λ k h. let q : l.j * w + k < length a.part.now * w = digits_lt below (omega (arith, h, l.invariant.1)) in
          listed_below a.list.now a.bits.now (l.j * w + k) (omega (arith, q, p.1)) p.0,
    )

pub loop-j-preserved : goal.loop-j-preserved
loop-j-preserved c =
    let a = c.args in
    let l = c.loop-j in
    let w = length a.sums.now in
    let e = c.add_listed_row.ensures in
    let below : l.j < length a.part.now = omega arith in (
      omega arith,
      e.0 ∙ l.invariant.1,
      λ k h. let q : l.j * w + k < length a.part.now * w = digits_lt below h in
          e.1 k (omega (arith, h, l.invariant.1))
          ∙ column-more l.j (get_or l.sums k 0) _ (get_or a.sums.now k 0)
          (λ i. listed_bit a.list.now a.bits.now (i * w + k) * get_or a.part.now i 0) (l.invariant.2 k h)
          (ap (λ (z : ℕ). z * get_or a.part.now l.j 0) (listed-entry a.list.now a.bits.now (l.j * w + k) (omega (arith, q, c.requires.1)))),
    )
