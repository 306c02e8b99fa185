-- Lists that are permutations.
--   preimage-sent, preimage-of   the place that a permutation sends to another
-- Assumes nothing.
use mathlib.Core.Path.{◌≡◌}
use mathlib.Core.List.{List}
use Prim.Native.Nat.{ℕ, ◌<◌}
use native.Mathlib.Omega.{arith}
use lib.Dec.{eqb}
use lib.ListN.{get_or}
use borrow.Author.Tests.{eq-eqb, eqb-true}
use Rattle.bch.proofs.Pigeonhole.{pigeonhole}
use Rattle.staircase.specs.Lists.{first_where}
use Rattle.staircase.specs.System.{preimage}
use Rattle.staircase.specs.Demand2.{Permutes}
use Rattle.staircase.proofs.Search.{first_where_found}

module _ (l : List ℕ) (n : ℕ) (P : Permutes n (λ p. get_or l p 0)) where
  -- the place that comes to place q
  pub preimage-sent : (q : ℕ) → q < n → (preimage l n q < n) × (get_or l (preimage l n q) 0 ≡ q)
  unfolding preimage
  preimage-sent q h =
      let r = pigeonhole n (λ p. get_or l p 0) P.below P.once q h in
      let u = first_where_found n (λ p. eqb (get_or l p 0) q) r.0 r.1 (eq-eqb (get_or l r.0 0) q r.2) in
      (omega (arith, u.0, r.1), eqb-true (get_or l (first_where n (λ p. eqb (get_or l p 0) q)) 0) q u.1)

  -- is the one that was sent
  pub preimage-of : (p : ℕ) → p < n → preimage l n (get_or l p 0) ≡ p
  preimage-of p h = let u = preimage-sent (get_or l p 0) (P.below p h) in P.once (preimage l n (get_or l p 0)) p u.0 h u.1
