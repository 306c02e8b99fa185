use Prim.Native.Nat.{◌+◌}
use native.Mathlib.Omega.{arith}
use lib.ListN.{length}
use Rattle.staircase.proofs.Fill.{each_more}
use Rattle.words_packed.proofs.Packed.{Packs, packs_eight, eight-bits}
use Rattle.words_packed.proofs.pack_eight.Goals as goal

pub loop-k-preserved : goal.loop-k-preserved
loop-k-preserved c =
    let l = c.loop-k in
    let r = c.args.rows.now in
    let w = length c.args.packed.now in (
      omega arith,
      each_more (λ q z. Packs r w q 0 z) l.packed l.k _ (omega arith) l.invariant.1 (packs_eight r w l.k c.requires.0 c.requires.1),
      eight-bits r w (l.k + 1) c.requires.1,
    )
