-- Computed tests, and what they say.
--   or_r                where the first of two tests fails, the second passes
--   all_from, all-from   a test over a range of numbers, and what it says of each
--   least_is            what the least number is that passes a test
-- Assumes nothing.
use mathlib.Core.Path.{◌≡◌, ◌∙◌, subst, subst⁻¹}
use mathlib.Core.Logic.{⊎_elim}
use mathlib.Core.Bool.{Bool, true, false, not, ◌&&◌, ◌||◌}
use Prim.Native.Nat.{ℕ, zero, suc, ◌+◌, ◌≤◌, ◌<◌}
use native.Mathlib.Nat.{le_refl, eq-or-lt_of_le}
use native.Mathlib.Omega.{arith}
use lib.Dec.{T, not_T}
use lib.Ieee.Fits.{and_l, and_r}
use lib.Ieee.Bits.{is_true}
use borrow.Author.Tests.{not-true}
use Rattle.bch.specs.Code.{least_from}

pub or_r : (a b : Bool) → T (a || b) → (T a → ⊥) → T b
or_r true b t f = absurd (f tt)
or_r false b t f = t

-- the test passes at n numbers from a on
unfoldable pub all_from : (ℕ → Bool) → ℕ → ℕ → Bool
all_from P a zero = true
all_from P a (suc n) = P a && all_from P (suc a) n

pub all-from : (P : ℕ → Bool) (a n : ℕ) → T (all_from P a n) → (m : ℕ) → a ≤ m → m < a + n → T (P m)
unfolding all_from
all-from P a zero t m h l = absurd (omega arith)
all-from P a (suc n) t m h l =
    ⊎_elim (λ (e : a ≡ m). subst (λ (k : ℕ). T (P k)) e (and_l (P a) (all_from P (suc a) n) t))
    (λ (k : a < m). all-from P (suc a) n (and_r (P a) (all_from P (suc a) n) t) m k (omega arith)) (eq-or-lt_of_le h)

pub least_is : (P : ℕ → Bool) (n a c : ℕ) → a ≤ c → c < a + n → T (P c) → ((p : ℕ) → a ≤ p → p < c → T (P p) → ⊥) → least_from P n a ≡ c
unfolding least_from
least_is P zero a c h l t none = absurd (omega arith)
least_is P (suc n) a c h l t none =
    ⊎_elim
    (λ (e : a ≡ c). first (subst⁻¹ (λ k. T (P k)) e t) ∙ e)
    (λ (k : a < c). next (none a (le_refl a) k) ∙ least_is P n (suc a) c k (omega arith) t (λ p q. none p (omega arith)))
    (eq-or-lt_of_le h)
  where
    first : T (P a) → least_from P (suc n) a ≡ a
    first t = rw (is_true (P a) t, least_from)

    next : (T (P a) → ⊥) → least_from P (suc n) a ≡ least_from P n (suc a)
    next f = rw (not-true (P a) (is_true (not (P a)) (not_T (P a) f)), least_from)
