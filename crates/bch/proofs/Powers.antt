-- A table of powers: the list that the rule makes, and its entries.
--   power_table-length   n entries
--   power_table-at       entry k is power k of the root
--   powers-length, powers-at   the same of a list that is the table of a field
-- Assumes nothing.
use mathlib.Core.Path.{◌≡◌, refl, sym, ap, ◌∙◌}
use mathlib.Core.List.{List}
use Prim.Native.Nat.{ℕ, zero, suc, ◌+◌, ◌-◌, ◌^◌, ◌<◌}
use native.Mathlib.Nat.{add-zero, zero-add, add-suc, suc-add, le_of_suc-le-suc, not-suc-le-zero}
use lib.ListN.{length, get_or}
use Rattle.bch.specs.Polynomial.{times_x, iterate}
use Rattle.bch.specs.Field.{field_poly, power, powers_from, power_table}

powers_from-at : (m i n k : ℕ) → k < n → get_or (powers_from m (power m i) n) k 0 ≡ power m (i + k)
unfolding powers_from power iterate
powers_from-at m i zero k h = absurd (not-suc-le-zero h)
powers_from-at m i (suc n) zero h = ap (power m) (sym (add-zero i))
powers_from-at m i (suc n) (suc k) h = powers_from-at m (suc i) n k (le_of_suc-le-suc h) ∙ ap (power m) (suc-add i k ∙ sym (add-suc i k))

powers_from-length : (m v n : ℕ) → length (powers_from m v n) ≡ n
unfolding powers_from
powers_from-length m v zero = refl
powers_from-length m v (suc n) = ap suc (powers_from-length m (times_x (field_poly m) m v) n)

pub power_table-at : (m n k : ℕ) → k < n → get_or (power_table m n) k 0 ≡ power m k
unfolding power_table power iterate
power_table-at m n k h = powers_from-at m 0 n k h ∙ ap (power m) (zero-add k)

pub power_table-length : (m n : ℕ) → length (power_table m n) ≡ n
unfolding power_table
power_table-length m n = powers_from-length m 1 n

pub powers-length : (m : ℕ) (powers : List ℕ) → powers ≡ power_table m (2 ^ m - 1) → length powers ≡ 2 ^ m - 1
powers-length m powers is = ap length is ∙ power_table-length m (2 ^ m - 1)

pub powers-at : (m : ℕ) (powers : List ℕ) → powers ≡ power_table m (2 ^ m - 1) → (k : ℕ) → k < 2 ^ m - 1 → get_or powers k 0 ≡ power m k
powers-at m powers is k below = ap (λ l. get_or l k 0) is ∙ power_table-at m (2 ^ m - 1) k below
