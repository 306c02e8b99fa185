-- What is known of an allowed design.
--   code_of, proper_of                    its BCH code, and that its sizes are not 0
--   r_small, bits_small, order-positive   r, the bits of a word, and M × r
-- Assumes nothing.
use Prim.Native.Nat.{◌*◌, ◌^◌, ◌≤◌, ◌<◌}
use native.Mathlib.Omega.{arith}
use lib.Pow.{pow_mono}
use Rattle.bch.proofs.Bch.{Code}
use Rattle.staircase.specs.Design.{word_length, most-m, most-t}
use Rattle.staircase.proofs.Bounds.{small_product}
use Rattle.staircase.proofs.System.{Proper}
use Rattle.staircase.proofs.System as system
use Rattle.staircase.proofs.BchCode as bch
use Rattle.design.specs.declared.Design.{Design}
use Rattle.design.specs.Answers.{Allowed}
use Rattle.design.specs.Sizes.{params_of, order_of}

module _ (d : Design) (a : Allowed d) where
  pub code_of : Code d.m d.t
  code_of = bch.code_of a

  pub proper_of : Proper (params_of d)
  proper_of = bch.proper_of a

  pub r_small : d.m * d.t ≤ 30
  r_small = small_product d.m d.t most-m most-t a.m-high a.t-high

  pub bits_small : word_length (params_of d) ≤ 1023
  bits_small = let p : 2 ^ d.m ≤ 2 ^ most-m = pow_mono {i = d.m} {j = most-m} a.m-high in omega (arith, a.n_high, p)

  pub order-positive : 0 < order_of d
  order-positive = system.order-positive (params_of d) proper_of
