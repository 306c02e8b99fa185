-- The tables of a design, taken apart.
--   first_part, rest_part   the powers of x at the positions of a word, and what stands behind them
-- Assumes nothing.
use mathlib.Core.Path.{◌≡◌, ap, ◌∙◌}
use mathlib.Core.List.{List}
use Prim.Native.Nat.{ℕ, ◌-◌}
use native.Mathlib.Omega.{arith}
use lib.ListN.{length, take, drop, length-drop}
use lib.Seq.{take_all}

pub first_part : (l : List ℕ) (n N : ℕ) → n ≡ N → take (n - 0) (drop 0 l) ≡ take N l
first_part l n N e = let d : n - 0 ≡ N = omega (arith, e) in ap (λ (k : ℕ). take k l) d

pub rest_part : (l : List ℕ) (n N : ℕ) → n ≡ N → take (length l - n) (drop n l) ≡ drop N l
rest_part l n N e =
    take_all (length l - n) (drop n l) (omega (arith, length-drop n l)) ∙ ap (λ (k : ℕ). drop k l) e
