-- The sum is the number of the four bytes, `bytes_number` of proofs/Bytes.antt.
use mathlib.Core.Path.{◌≡◌, ap, ◌∙◌}
use Prim.Native.Nat.{ℕ, ◌+◌, ◌*◌}
use native.Mathlib.Nat.{add-zero}
use native.Mathlib.Omega.{arith}
use lib.ListN.{get_or}
use Rattle.matrix.proofs.Bits.{bit}
use Rattle.matrix.proofs.Bytes.{bytes_number, bytes_number_bit}
use Rattle.matrix.proofs.tiles.four_bytes.Goals as goal

pub returns : goal.returns
unfolding bytes_number
returns c =
    let a = c.args in
    let f : ℕ → ℕ = λ s. get_or a.b.now (a.at + s) 0 in
    let first : f 0 ≡ get_or a.b.now a.at 0 = ap (λ (z : ℕ). get_or a.b.now z 0) (add-zero a.at) in (
      omega arith,
      λ s i h g.
          ap (λ (z : ℕ). bit z (8 * s + i)) (omega arith)
          ∙ bytes_number_bit 4 f (λ k. omega (arith, c.type_inv.b (a.at + k))) s i h g,
    )
