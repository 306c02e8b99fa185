-- The row's place in Y or P is below M × r.
use native.Mathlib.Omega.{arith}
use mathlib.Core.Path.{refl}
use Prim.Native.Nat.{◌*◌}
use Rattle.kit_system.proofs.Places.{unstacked}
use Rattle.kit_system.proofs.preimage_of.Goals as goal

pub bounds-preimages-e : goal.bounds-preimages-e
bounds-preimages-e c =
    let a = c.args in
    let h = c.requires in
    let u = unstacked a.size a.r (a.size * a.r) a.e refl h.2 in
    omega (arith, u.r-positive, u.below)
