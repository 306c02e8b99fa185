-- Steps of elimination, one after the other.
--   steps_none   nothing was done
--   steps_then   steps, and then further ones
-- Assumes nothing.
use mathlib.Core.Path.{refl, ◌∙◌}
use mathlib.Core.List.{List}
use Prim.Native.Nat.{ℕ}
use Rattle.matrix_elimination.specs.Steps.{RowSteps}

pub steps_none : (n : ℕ) (m : List ℕ) → RowSteps n m m
steps_none n m = record { long = refl; reached = λ s h k. k; spare = λ z. z }

pub steps_then : (n : ℕ) (a b c : List ℕ) → RowSteps n a b → RowSteps n b c → RowSteps n a c
steps_then n a b c k l = record {
  long = l.long ∙ k.long;
  reached = λ s h r. l.reached s h (k.reached s h r);
  spare = λ z. l.spare (k.spare z);
}
