use mathlib.Core.Path.{◌≡◌, ◌∙◌}
use mathlib.Core.List.{List}
use Prim.Native.Nat.{ℕ, ◌+◌, ◌-◌, ◌*◌, ◌<◌}
use native.Mathlib.Omega.{arith}
use borrow.Rule.Slice.PartMut.{mid_len, same_len_mid}
use Rattle.staircase.proofs.Fill.{each_part}
use Rattle.matrix.specs.Packed.{padded_entry}
use Rattle.matrix.proofs.Bits.{bit}
use Rattle.matrix.proofs.planes.plane_of_rows.Invariants.{Column}
use Rattle.matrix.proofs.planes.plane_of_rows.Goals as goal

-- byte s of the transposed block y of q is column 8 c + s
block-column : (w : List ℕ) (n b c q y s v : ℕ) → s < 8 → ((r : ℕ) → r < 8 → bit v r ≡ bit y (8 * s + r))
    → ((r s : ℕ) → r < 8 → s < 8 → bit y (8 * s + r) ≡ bit q (8 * r + s))
    → ((r s : ℕ) → r < 8 → s < 8 → bit q (8 * r + s) ≡ padded_entry w n (8 * b + r) (8 * c + s)) → Column w n b (8 * c + s) v
block-column w n b c q y s v h put transposed block in-n r g = put r g ∙ transposed r s g h ∙ block r s g h

pub loop-c-preserved : goal.loop-c-preserved
loop-c-preserved c =
    let a = c.args in
    let l = c.loop-c in
    let end = c.block_end-e in
    let put = c.put_block.ensures in
    let k : ℕ = end.result - 8 * l.c in
    let m = mid_len (8 * l.c) end.result l.plane (omega arith) in (
      omega arith,
      same_len_mid (8 * l.c) k l.plane c.put_block.new.part put.0 ∙ l.invariant.1,
      λ x h in-n.
          each_part (Column a.w.now a.n a.b) l.plane c.put_block.new.part (8 * l.c) k (omega arith)
          (put.0 ∙ m) l.invariant.2
          (λ s i.
          block-column a.w.now a.n a.b l.c _ _ s _ (omega arith) (put.1 s (omega arith))
          c.transpose_block-q.ensures c.block_at.ensures)
          x (omega (arith, end.ensures.3 x (omega arith) in-n)) in-n,
    )
