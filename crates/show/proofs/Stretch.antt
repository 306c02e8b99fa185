-- Laws of a stretch: a buffer holds blocks or groups of one size, one after another.
--   stretch-of     a buffer of c stretches has each of them
--   stretch-some   a stretch of a positive size is not empty
-- Assumes nothing.
use mathlib.Core.Path.{◌≡◌, sym, ap, ◌∙◌}
use mathlib.Core.Logic.{◌≢◌}
use mathlib.Core.List.{List, []}
use Prim.Native.Nat.{ℕ, ◌-◌, ◌*◌, ◌≤◌, ◌<◌}
use native.Mathlib.Nat.{mul-le-mul_right}
use native.Mathlib.Omega.{arith}
use lib.ListN.{length, take, drop, length-drop}
use lib.Seq.{length-take-le}
use Rattle.staircase.proofs.Bounds.{stretch-end}
use Rattle.show.specs.Show.{HasStretch}

pub stretch-of : {n k c : ℕ} {l : List ℕ} → (1 ≤ k) × (k ≤ c) → length l ≡ c * n → HasStretch n k l
stretch-of {n} {k} {c} {l} h e = record { number = h.0; within = omega (arith, mul-le-mul_right {m = k} {n = c} n h.1, e) }

pub stretch-some : {n k : ℕ} {l : List ℕ} → HasStretch n k l → 0 < n → take n (drop ((k - 1) * n) l) ≢ []
stretch-some {n} {k} {l} s pos e =
    let fits : n ≤ length (drop ((k - 1) * n) l) = simp length-drop (omega (arith, stretch-end (k - 1) k n (omega (arith, s)), s.within)) in
    let z = sym (length-take-le n (drop ((k - 1) * n) l) fits) ∙ ap length e in omega arith
