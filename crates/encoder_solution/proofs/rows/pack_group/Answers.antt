use mathlib.Core.Path.{◌≡◌, ap, ◌∙◌}
use Prim.Native.Nat.{ℕ, ◌+◌, ◌*◌, ◌<◌}
use native.Mathlib.Omega.{arith}
use lib.ListN.{get_or, length-set}
use Rattle.staircase.proofs.Fill.{each_more}
use Rattle.bch_remainders.proofs.Rows.{row-length, row_at}
use Rattle.matrix.proofs.Bits.{bit}
use Rattle.encoder_solution.proofs.rows.pack_group.Goals as goal

pub byte_of-requires : goal.byte_of-requires
byte_of-requires c =
    let a = c.args in
    let l = c.loop-b in
    (row-length a.words.now (8 * l.b) 8 (omega arith), omega arith)

pub loop-b-preserved : goal.loop-b-preserved
loop-b-preserved c =
    let a = c.args in
    let l = c.loop-b in (
      omega arith,
      omega arith,
      simp length-set (omega arith),
      each_more (λ q v. (i : ℕ) → i < 8 → bit v i ≡ bit (get_or a.words.now (8 * q + i) 0) a.g) l.out l.b _ (omega arith) l.invariant.3
          (λ i h. c.byte_of.ensures i h ∙ ap (λ (x : ℕ). bit x a.g) (row_at a.words.now (8 * l.b) 8 i h)),
    )
