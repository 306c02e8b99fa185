use mathlib.Core.Path.{◌≡◌, ap, ◌∙◌}
use Prim.Native.Nat.{suc, ◌-◌, ◌≤◌, ◌<◌}
use native.Mathlib.Omega.{arith}
use lib.ListN.{length}
use Rattle.bch.specs.Powers.{power_mod}
use Rattle.bch.proofs.PowerSum.{power_mod-below}
use Rattle.bch.proofs.Store.{set_each}
use Rattle.bch_remainders.proofs.Powers.{power_mod-none, power_mod_next}
use Rattle.bch_remainders.proofs.fill_positions.Goals as goal

pub loop-i-init : goal.loop-i-init
loop-i-init c =
    let a = c.args in
    let n = length a.table.now in
    (power_mod-none a.g a.r (n - n) (omega arith), λ k l h. absurd (omega arith))

pub times_x-v-requires : goal.times_x-v-requires
times_x-v-requires c =
    let a = c.args in
    let l = c.loop-i in
    let p = c.requires in
    (omega arith, omega arith, rw (l.invariant.0, p.2) (power_mod-below a.g a.r p.0 p.3 (length a.table.now - l.i)))

pub loop-i-preserved : goal.loop-i-preserved
loop-i-preserved c =
    let a = c.args in
    let l = c.loop-i in
    let n = length a.table.now in
    let next : n - (l.i - 1) ≡ suc (n - l.i) = omega arith in
    let here : n - l.i ≡ n - 1 - (l.i - 1) = omega arith in (
      c.times_x-v.ensures ∙ power_mod_next a.g a.r (n - l.i) (n - (l.i - 1)) l.v l.invariant.0 next,
      set_each (λ k y. l.i - 1 ≤ k → k < n → y ≡ power_mod a.g a.r (n - 1 - k)) l.table (l.i - 1) l.v (omega arith)
          (λ lo hi. l.invariant.0 ∙ ap (power_mod a.g a.r) here)
          (λ k d lo hi. l.invariant.1 k (omega arith) hi),
    )
