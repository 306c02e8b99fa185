use mathlib.Core.Path.{◌≡◌, sym, ap, ◌∙◌}
use mathlib.Core.Bool.{cond}
use mathlib.Core.List.{List}
use Prim.Native.Nat.{ℕ, ◌+◌, ◌-◌, ◌*◌, ◌<◌}
use native.Mathlib.Omega.{arith}
use lib.Dec.{eqb}
use lib.ListN.{length, take, drop}
use Rattle.staircase.specs.Lists.{bit_sum, sum_bits}
use Rattle.staircase.proofs.Bounds.{stretch-end}
use Rattle.staircase.proofs.Matrix.{sum_bits-lt, sum_bits-same}
use Rattle.bch_remainders.proofs.Rows.{row-length}
use Rattle.matrix.specs.Packed.{packed_bit}
use Rattle.matrix.proofs.Bits.{bit, bit_added}
use Rattle.encoder_solution.proofs.Gathered.{gathered_more}
use Rattle.encoder_solution.proofs.Masked.{packed-front}
use Rattle.encoder_solution.proofs.rows.row_word.Invariants.{entry}
use Rattle.encoder_solution.proofs.rows.row_word.Goals as goal

-- the same by the bytes that are lent
lent-entry : (row packed : List ℕ) (p g v : ℕ)
    → v ≡ sum_bits (8 * length row) (λ k. packed_bit row k * packed_bit (take (g * p + length row - g * p) (drop (g * p) packed)) k) → v ≡ entry row packed p g
lent-entry row packed p g v is =
    let n : ℕ = g * p + length row - g * p in
    is
    ∙ sum_bits-same (8 * length row) (λ k. packed_bit row k * packed_bit (take n (drop (g * p) packed)) k) (λ k. packed_bit row k * packed_bit (drop (g * p) packed) k)
    (λ k h. ap (λ (x : ℕ). packed_bit row k * x) (packed-front (drop (g * p) packed) n k (omega arith)))

pub shared_odd-requires : goal.shared_odd-requires
shared_odd-requires c =
    let a = c.args in
    let l = c.loop-g in
    sym (row-length a.packed.now (l.g * a.p) (length a.row.now) (omega (arith, stretch-end l.g a.count a.p (omega arith))))

pub loop-g-preserved : goal.loop-g-preserved
loop-g-preserved c =
    let a = c.args in
    let l = c.loop-g in
    let f : ℕ → ℕ = entry a.row.now a.packed.now a.p in
    let v = c.from in
    let is : v.result ≡ f l.g = v.ensures ∙ lent-entry a.row.now a.packed.now a.p l.g _ c.shared_odd.ensures in
    let small : f l.g < 2 = sum_bits-lt (8 * length a.row.now) (λ k. packed_bit a.row.now k * packed_bit (drop (l.g * a.p) a.packed.now) k) in (
      omega arith,
      gathered_more f l.x _ l.g small l.invariant.1
          (λ j. bit_added 64 l.x v.result l.g j (omega (arith, is, small)) (omega arith) ∙ ap (λ (z : ℕ). bit_sum (bit l.x j) (cond (eqb l.g j) z 0)) is),
    )
