-- A part of a local array that was lent and came back.
--   part-fits   the part ends within the array
--   part-is     lent again, it is what it was left as
--   part-within a part of it does, too
-- Assumes nothing.
use mathlib.Core.Path.{◌≡◌}
use mathlib.Core.List.{List, ◌++◌}
use Prim.Native.Nat.{ℕ, ◌-◌, ◌≤◌}
use native.Mathlib.Omega.{arith}
use lib.ListN.{length, take, drop, length-append}
use lib.Seq.{take_at}

pub part-fits : (x rest : List ℕ) (n : ℕ) → length x ≡ n → n ≤ length (x ++ rest)
part-fits x rest n e = omega (arith, length-append x rest)

pub part-is : (x rest : List ℕ) (n : ℕ) → length x ≡ n → take (n - 0) (drop 0 (x ++ rest)) ≡ x
part-is x rest n e = take_at x rest (n - 0) (let d : length x ≡ n - 0 = omega arith in d)

pub part-within : (x rest : List ℕ) (n : ℕ) → n ≤ length x → n ≤ length (x ++ rest)
part-within x rest n h = omega (arith, length-append x rest)
