use mathlib.Core.Path.{◌≡◌, ap, ap₂, ◌∙◌}
use mathlib.Core.Bool.{cond}
use Prim.Native.Nat.{ℕ, ◌+◌, ◌≤◌, ◌<◌}
use native.Mathlib.Omega.{arith}
use lib.Dec.{eqb}
use lib.ListN.{length, get_or, length-set}
use Rattle.bch.proofs.Store.{set_each}
use Rattle.staircase.specs.Lists.{bit_sum}
use Rattle.matrix.proofs.Bits.{bit, bit_added}
use Rattle.encoder_solution.specs.Bits.{place_constant}
use Rattle.encoder_solution.proofs.add_constant.Goals as goal

pub loop-q-preserved : goal.loop-q-preserved
loop-q-preserved c =
    let a = c.args in
    let l = c.loop-q in
    let v = c.constant_at in
    let n = length a.words.now in
    let same : get_or l.words l.q 0 ≡ get_or a.words.now l.q 0 = (l.invariant.3 l.q).1 (omega arith) in
    let is : v.result ≡ place_constant a.bits.now a.preimages.now n l.q =
    v.ensures.0 ∙ ap (λ (k : ℕ). place_constant a.bits.now a.preimages.now k l.q) (omega arith) in (
      omega arith,
      omega arith,
      simp length-set (omega arith),
      set_each (λ k y. (k < l.q + 1 → (j : ℕ) → bit y j ≡ bit_sum (bit (get_or a.words.now k 0) j) (cond (eqb a.g j) (place_constant a.bits.now
          a.preimages.now n k) 0))
          × (l.q + 1 ≤ k → y ≡ get_or a.words.now k 0)) l.words l.q _ (omega arith) (
            λ h j. bit_added 64 (get_or l.words l.q 0) v.result a.g j v.ensures.1 (omega arith)
                ∙ ap₂ (λ (x y : ℕ). bit_sum (bit x j) (cond (eqb a.g j) y 0)) same is,
            λ h. absurd (omega arith),
          )
          (λ k d. (λ h. (l.invariant.3 k).0 (omega arith), λ h. (l.invariant.3 k).1 (omega arith))),
    )
