use Prim.Native.Nat.{ℕ}
use native.Mathlib.Omega.{arith}
use lib.ListN.{get_or}
use Rattle.matrix.proofs.Bits.{bit, bit-lt, bit_added}
use Rattle.encoder_solution.proofs.Gathered.{gathered_more}
use Rattle.encoder_solution.proofs.rows.byte_of.Goals as goal

pub loop-i-preserved : goal.loop-i-preserved
loop-i-preserved c =
    let a = c.args in
    let l = c.loop-i in
    let f : ℕ → ℕ = λ k. bit (get_or a.words.now k 0) a.g in (
      omega arith,
      omega arith,
      gathered_more f l.v _ l.i (bit-lt (get_or a.words.now l.i 0) a.g) l.invariant.2
          (λ j. bit_added 8 l.v (f l.i) l.i j (bit-lt (get_or a.words.now l.i 0) a.g) (omega arith)),
    )
