-- A packed row that a loop adds up, and the sizes of a system.
--   sum_more                 two additions to a bit are one term more of its sum
--   Sized, sized             the sizes at an entry and a place
--   stack_of-below, run_end   places of the stack, and of r bits side by side
-- Assumes nothing.
use mathlib.Core.Path.{◌≡◌, sym, ap, ◌∙◌, subst}
use Prim.Native.Nat.{ℕ, zero, suc, ◌+◌, ◌-◌, ◌*◌, ◌/◌, ◌%◌, ◌≤◌, ◌<◌}
use native.Mathlib.Nat.{zero-mul, mod-lt, mul_comm, div-lt_iff_lt-mul}
use native.Mathlib.Numerals.{add-one}
use native.Mathlib.Omega.{arith}
use lib.Arith.{digits_lt}
use Rattle.staircase.specs.Lists.{bit_sum, sum_bits}
use Rattle.staircase.proofs.Matrix.{bit_sum_assoc}
use Rattle.staircase.proofs.Entries.{sum_bits_last}
use Rattle.kit_system.specs.Rows.{stack_of}

pub sum_more : (f : ℕ → ℕ) (b x₀ x₁ x₂ u v : ℕ) → x₀ ≡ sum_bits b f → x₁ ≡ bit_sum x₀ u → x₂ ≡ bit_sum x₁ v → f b ≡ bit_sum u v → x₂ ≡ sum_bits (b + 1) f
sum_more f b x₀ x₁ x₂ u v before first second term =
    second ∙ ap (λ (z : ℕ). bit_sum z v) (first ∙ ap (λ (z : ℕ). bit_sum z u) before) ∙ bit_sum_assoc (sum_bits b f) u v
    ∙ ap (bit_sum (sum_bits b f)) (sym term) ∙ sym (ap (λ (n : ℕ). sum_bits n f) (add-one b) ∙ sum_bits_last b f)

pub stack_of-below : (size r q : ℕ) → 0 < size → q < size * r → stack_of size r q < size * r
stack_of-below size r q mpos h =
    digits_lt {q = q % size} {m = size} {r = q / size} {c = r} (mod-lt q mpos)
    ((div-lt_iff_lt-mul mpos).1 (subst (λ (z : ℕ). q < z) (mul_comm size r) h))

pub run_end : (size r e : ℕ) → 0 < r → e < size * r → e / r * r + r ≤ size * r
run_end size r e rpos h =
    let z : e / r * r + (r - 1) < size * r = digits_lt {q = e / r} {m = size} {r = r - 1} {c = r} ((div-lt_iff_lt-mul rpos).1 h) (omega arith) in
    omega (arith, z, rpos)

-- what holds of an entry e and a place p of a matrix of size × r places
pub record Sized (size r e p : ℕ) : Type 0 where
  pub size-positive : 0 < size
  pub r-positive : 0 < r
  pub run : e / r * r + r ≤ size * r
  pub power_digit : e % r < r
  pub row : p / size < r
  pub column : p % size < size
  pub digit_of_place : p % r < r
  pub row_of_entry : e / size < r
  pub column_of_entry : e % size < size

factor_positive : (a b x : ℕ) → x < a * b → 0 < a
factor_positive zero b x h = absurd (omega (arith, zero-mul b))
factor_positive (suc a) b x h = omega arith

pub sized : (size r n e p : ℕ) → n ≡ size * r → e < n → p < n → Sized size r e p
sized size r n e p d he hp =
    let hs : 0 < size = factor_positive size r e (omega arith) in
    let hr : 0 < r = factor_positive r size e (omega (arith, mul_comm r size)) in
    record {
      size-positive = hs;
      r-positive = hr;
      run = run_end size r e hr (omega arith);
      power_digit = mod-lt e hr;
      row = (div-lt_iff_lt-mul hs).1 (omega (arith, mul_comm r size));
      column = mod-lt p hs;
      digit_of_place = mod-lt p hr;
      row_of_entry = (div-lt_iff_lt-mul hs).1 (omega (arith, mul_comm r size));
      column_of_entry = mod-lt e hs;
    }
