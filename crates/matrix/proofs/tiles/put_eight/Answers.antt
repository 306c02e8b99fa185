-- The eight stores are `stores` of proofs/Bytes.antt.
use mathlib.Core.Path.{ap, ◌∙◌}
use Prim.Native.Nat.{ℕ, ◌*◌, ◌/◌, ◌%◌, ◌^◌}
use native.Mathlib.Nat.{add-zero, div-one}
use native.Mathlib.Omega.{arith}
use Rattle.matrix.proofs.Bits.{bit, bit-low, bit_shr}
use Rattle.matrix.proofs.Bytes.{stores, stores_length, stores_at, stores_before}
use Rattle.matrix.proofs.tiles.put_eight.Goals as goal

pub returns : goal.returns
unfolding stores
returns c =
    let a = c.args in
    let x : ℕ = a.x in
    let f : ℕ → ℕ = λ s. x / 2 ^ (8 * s) % 256 in (
      rw (add-zero a.at, div-one x) at (stores_length f a.out.now a.at 8),
      λ s i h g.
          (rw (add-zero a.at, div-one x) at (ap (λ (z : ℕ). bit z i) (stores_at f a.out.now a.at 8 (omega arith) s h)))
          ∙ bit-low (x / 2 ^ (8 * s)) 8 i g ∙ bit_shr x (8 * s) i,
      λ k h. rw (add-zero a.at, div-one x) at (stores_before f a.out.now a.at 8 k h),
    )
