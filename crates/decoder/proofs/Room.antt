-- The working entries are as many as a design needs.
--   tables-room                                  for the positions of a word with their values and those of four bits
--   field_is, field_room                         for a field: four tables of 2^m
-- Assumes nothing.
use mathlib.Core.Path.{◌≡◌, ap}
use Prim.Native.Nat.{ℕ, ◌+◌, ◌*◌, ◌%◌, ◌^◌, ◌≤◌}
use native.Mathlib.Omega.{arith}
use lib.Pow.{pow_mono}
use Rattle.staircase.specs.Design.{word_length}
use Rattle.design.specs.declared.Design.{Design}
use Rattle.design.specs.Answers.{Allowed}
use Rattle.design.specs.Sizes.{params_of}
use Rattle.design.proofs.Sizes.{shl_one}
use Rattle.design.proofs.Allowed.{bits_small}

module _ (d : Design) (h : Allowed d) where
  pub tables-room : (n : ℕ) → n ≡ word_length (params_of d) → 2 * n + 128 ≤ 2304
  tables-room n e = omega (arith, bits_small d h)

  pub field_is : (m : ℕ) → m ≡ d.m → 4 * ((1 * 2 ^ m) % 2 ^ 64) ≡ 4 * 2 ^ d.m
  field_is m e = rw e (ap (λ (z : ℕ). 4 * z) (shl_one d.m h.m-high))

  pub field_room : (m : ℕ) → m ≡ d.m → 4 * ((1 * 2 ^ m) % 2 ^ 64) ≤ 4096
  field_room m e = omega (arith, field_is m e, pow_mono {i = d.m} {j = 10} h.m-high)
