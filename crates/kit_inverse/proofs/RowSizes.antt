-- Sizes at a row of a product, for code.
--   row_zeros              no bit of a packed row of A past n is 1
--   square_small           n² is small
-- Assumes nothing.
use mathlib.Core.Path.{◌≡◌, subst}
use mathlib.Core.List.{List}
use Prim.Native.Nat.{ℕ, ◌*◌, ◌≤◌, ◌<◌}
use native.Mathlib.Omega.{arith}
use lib.ListN.{length, get_or}
use Rattle.staircase.specs.Rules.{entries}
use Rattle.staircase.proofs.Bounds.{small_product}
use Rattle.kit_system.specs.Rows.{row_entry}
use Rattle.kit_system.proofs.Terms.{Sized, sized}
use Rattle.kit_system.proofs.SystemRows.{row_entry-spare}
use Rattle.kit_inverse.specs.Products.{Side}

module _ (n size : ℕ) (list columns part t : List ℕ) (s : Side n size list columns part t) (p e : ℕ) (hp : p < n) (he : e < n) where
  z : Sized size (length part) e p
  z = sized size (length part) n e p s.order he hp

  small : (q : ℕ) → q < size * length part → get_or (entries n list) q 0 < size * length part
  small q h = subst (λ (w : ℕ). get_or (entries n list) q 0 < w) s.order (s.permutes.below q (let d = s.order in omega (arith, d)))

  pub row_zeros : (k : ℕ) → n ≤ k → row_entry columns part (entries n list) size p e k ≡ 0
  row_zeros k h =
      let d = s.order in
      row_entry-spare columns part (entries n list) size z.size-positive z.r-positive small p e k (omega (arith, d)) (omega (arith, d))

pub square_small : (n : ℕ) → n ≤ 4096 → n * n ≤ 16777216
square_small n h = small_product n n 4096 4096 h h
