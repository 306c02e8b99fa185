-- The places that a list sends to the rows of A.
--   Unstacked, unstacked   the place of Y or P that an entry of the stack stands for
--   sent-at, sent-below    what the inverse of a list holds, and that it holds places
-- Assumes nothing.
use mathlib.Core.Path.{◌≡◌, sym, ap, ◌∙◌, subst}
use mathlib.Core.List.{List}
use Prim.Native.Nat.{ℕ, ◌+◌, ◌*◌, ◌/◌, ◌%◌, ◌<◌}
use native.Mathlib.Nat.{div-lt_iff_lt-mul}
use native.Mathlib.Omega.{arith}
use lib.ListN.{get_or}
use Rattle.staircase.specs.System.{preimage}
use Rattle.staircase.specs.Demand2.{Permutes}
use Rattle.staircase.proofs.Bounds.{place_below}
use Rattle.staircase.proofs.Permutation.{preimage-sent}
use Rattle.kit_system.proofs.Terms.{Sized, sized}

pub record Unstacked (size r n e : ℕ) : Type 0 where
  pub r-positive : 0 < r
  pub below : e % r * size + e / r < n

pub unstacked : (size r n e : ℕ) → n ≡ size * r → e < n → Unstacked size r n e
unstacked size r n e d h =
    let z : Sized size r e e = sized size r n e e d h h in
    let p = place_below size r (e % r) (e / r) z.power_digit ((div-lt_iff_lt-mul z.r-positive).1 (omega arith)) in
    record { r-positive = z.r-positive; below = omega (arith, p) }

-- `preimages` is the inverse of a list, and `lent` what is lent of it
module _ (n : ℕ) (list : List ℕ) (ok : Permutes n (λ p. get_or list p 0)) (preimages lent : List ℕ)
    (are : (q : ℕ) → q < n → get_or preimages q 0 ≡ preimage list n q) (same : lent ≡ preimages) where
  pub sent-at : (q : ℕ) → q < n → get_or lent q 0 ≡ preimage list n q
  sent-at q h = ap (λ (l : List ℕ). get_or l q 0) same ∙ are q h

  pub sent-below : (q : ℕ) → q < n → get_or lent q 0 < n
  sent-below q h = subst (λ (v : ℕ). v < n) (sym (sent-at q h)) (preimage-sent list n ok q h).0
