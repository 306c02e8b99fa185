-- A sum of powers of distinct elements with coefficients that are not all 0 is not 0 as many times in a row as there are elements.
--   All, Distinct   facts of each entry of a list, and of each two
--   power_sum        the sum of c x times power i of x over a list
--   vandermonde     the law
-- Assumes nothing.
use mathlib.Core.Path.{◌≡◌, refl, sym, ap, ap₂, ◌∙◌}
use mathlib.Core.Logic.{◌≢◌}
use mathlib.Core.List.{List, [], ◌∷◌}
use Prim.Native.Nat.{ℕ, zero, suc, ◌^◌, ◌<◌}
use native.Mathlib.Nat.{zero-lt-suc}
use native.Mathlib.Omega.{arith}
use lib.ListN.{length}
use Rattle.bch.specs.Polynomial.{◌⊕◌, iterate}
use Rattle.bch.proofs.Sum.{⊕-self, ⊕-zero-right, ⊕_equal, ⊕-below, ⊕_swap}
use Rattle.bch.proofs.Field.{Field}
use Rattle.bch.proofs.Algebra.{sum-mul, mul-zero, mul_left_comm}

abbrev pub All : (ℕ → Type 0) → List ℕ → Type 0
All P [] = Unit {0}
All P (x ∷ xs) = P x × All P xs

abbrev pub Distinct : List ℕ → Type 0
Distinct [] = Unit {0}
Distinct (x ∷ xs) = All (λ y. y ≢ x) xs × Distinct xs

all_zip : (P Q R : ℕ → Type 0) → ((x : ℕ) → P x → Q x → R x) → (xs : List ℕ) → All P xs → All Q xs → All R xs
all_zip P Q R f [] h k = tt
all_zip P Q R f (x ∷ xs) h k = (f x h.0 k.0, all_zip P Q R f xs h.1 k.1)

unfoldable pub power_sum : (ℕ → ℕ → ℕ) → (ℕ → ℕ) → ℕ → List ℕ → ℕ
power_sum mul c i [] = 0
power_sum mul c i (x ∷ xs) = iterate (mul x) i (c x) ⊕ power_sum mul c i xs

module _ (m : ℕ) (◌·◌ : ℕ → ℕ → ℕ) (F : Field m ◌·◌) where
  infixl 70 ◌·◌
  through : (x y i v : ℕ) → iterate (λ u. x · u) i (y · v) ≡ y · iterate (λ u. x · u) i v
  unfolding iterate
  through x y zero v = refl
  through x y (suc i) v = ap (λ u. x · u) (through x y i v) ∙ mul_left_comm m ◌·◌ F x y (iterate (λ u. x · u) i v)

  reduce : (c : ℕ → ℕ) (y i : ℕ) (xs : List ℕ)
      → power_sum ◌·◌ (λ x. (x ⊕ y) · c x) i xs ≡ power_sum ◌·◌ c (suc i) xs ⊕ y · power_sum ◌·◌ c i xs
  unfolding power_sum iterate
  reduce c y i [] = sym (ap (λ v. 0 ⊕ v) (mul-zero m ◌·◌ F y) ∙ ⊕-self 0)
  reduce c y i (x ∷ xs) =
      ap₂ ◌⊕◌ (through x (x ⊕ y) i (c x) ∙ sum-mul m ◌·◌ F x y (iterate (λ u. x · u) i (c x))) (reduce c y i xs)
      ∙ ⊕_swap (x · iterate (λ u. x · u) i (c x)) (y · iterate (λ u. x · u) i (c x)) (power_sum ◌·◌ c (suc i) xs) (y · power_sum ◌·◌ c i xs)
      ∙ ap (λ v. x · iterate (λ u. x · u) i (c x) ⊕ power_sum ◌·◌ c (suc i) xs ⊕ v) (sym (F.mul-sum y (iterate (λ u. x · u) i (c x)) (power_sum ◌·◌ c i xs)))

  sum_of_zeros : (c : ℕ → ℕ) (xs : List ℕ) → All (λ x. c x ≡ 0) xs → power_sum ◌·◌ c 0 xs ≡ 0
  unfolding power_sum iterate
  sum_of_zeros c [] h = refl
  sum_of_zeros c (x ∷ xs) h = ap₂ ◌⊕◌ h.0 (sum_of_zeros c xs h.1) ∙ ⊕-self 0

  pub vandermonde : (xs : List ℕ) (c : ℕ → ℕ) → All (λ x. x < 2 ^ m) xs → Distinct xs → ((x : ℕ) → c x < 2 ^ m)
      → ((i : ℕ) → i < length xs → power_sum ◌·◌ c i xs ≡ 0) → All (λ x. c x ≡ 0) xs
  unfolding power_sum iterate
  vandermonde [] c hb hd hc h = tt
  vandermonde (x ∷ xs) c hb hd hc h =
      let rest : All (λ z. (z ⊕ x) · c z ≡ 0) xs =
      vandermonde xs (λ z. (z ⊕ x) · c z) hb.1 hd.1 (λ z. F.mul-below (z ⊕ x) (c z))
      (λ i l.
      reduce c x i xs
      ∙ ap₂ ◌⊕◌ (sym (⊕_equal (h (suc i) (omega arith)))) (ap (λ v. x · v) (sym (⊕_equal (h i (omega arith)))))
      ∙ ⊕-self (x · iterate (λ u. x · u) i (c x)))
      in
      let zeros : All (λ z. c z ≡ 0) xs =
      all_zip (λ z. (z < 2 ^ m)) (λ z. (z ≢ x) × ((z ⊕ x) · c z ≡ 0)) (λ z. c z ≡ 0)
      (λ z hz q. F.domain (z ⊕ x) (c z) (⊕-below m z x hz hb.0) (hc z) (λ e. q.0 (⊕_equal e)) q.1)
      xs hb.1 (all_zip (λ z. z ≢ x) (λ z. (z ⊕ x) · c z ≡ 0) (λ z. (z ≢ x) × ((z ⊕ x) · c z ≡ 0)) (λ z p q. (p, q)) xs hd.0 rest)
      in
      (sym (⊕-zero-right (c x)) ∙ ap (λ v. c x ⊕ v) (sym (sum_of_zeros c xs zeros)) ∙ h 0 (zero-lt-suc (length xs)), zeros)
