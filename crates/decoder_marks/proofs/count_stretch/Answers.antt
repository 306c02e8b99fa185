use Prim.Native.Nat.{◌<◌}
use native.Mathlib.Omega.{arith}
use lib.Count.{ones-le}
use lib.ListN.{length}
use Rattle.decoder_marks.proofs.Counted.{set_marks-none, set_marks-more, ones_eight}
use Rattle.decoder_marks.proofs.count_stretch.Goals as goal

pub loop-byte-init : goal.loop-byte-init
loop-byte-init c = (omega arith, set_marks-none)

pub loop-byte-preserved : goal.loop-byte-preserved
loop-byte-preserved c =
    let l = c.loop-byte in
    let v = (c.type_inv.marks l.byte-index).fits in
    let h : l.byte-index < length c.args.marks.now = omega arith in
    let e = ones_eight _ v in (
      omega (arith, ones-le 8 _ v, c.ones_of.ensures),
      omega (arith, c.ones_of.ensures, e, set_marks-more c.args.marks.now l.byte-index h),
    )
