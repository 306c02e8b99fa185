-- The packed constants are in the first bytes of a local array.
use Prim.Native.Nat.{ℕ, ◌*◌}
use native.Mathlib.Omega.{arith}
use lib.ListN.{replicate}
use Rattle.staircase.proofs.Bounds.{small_product}
use Rattle.words_blocks.proofs.Sums.{part_length}
use Rattle.encoder_solution.proofs.rows.multiply.Goals as goal

pub multiply_in-requires : goal.multiply_in-requires
multiply_in-requires c =
    let p = c.requires in
    let a = c.args in
    let n : ℕ = a.count * a.p in
    (p.0, p.1, p.2, p.3, p.4, p.5, part_length (replicate 16384 0) 0 n n (omega arith) (omega (arith, small_product a.count a.p 32 512 p.5 p.3)), p.6, p.7)
