-- Laws of a field of characteristic 2.
--   sum-mul, mul-zero, zero-mul, mul_left_comm
--   square_sum   the square of a sum
--   cubes        the sum of two cubes
--   cancel       a factor other than 0 can be taken away
--   two_roots    X (X + s) has a value at two X at most, and their sum is s
-- Assumes nothing.
use mathlib.Core.Path.{◌≡◌, sym, ap, ap₂, ◌∙◌}
use mathlib.Core.Logic.{◌≢◌, ◌⊎◌, inl, inr}
use Prim.Native.Nat.{ℕ, ◌^◌, ◌<◌}
use native.Mathlib.Decide.{ℕ_discrete}
use Rattle.bch.specs.Polynomial.{◌⊕◌}
use Rattle.bch.proofs.Sum.{⊕·simp, ⊕_assoc, ⊕-self, ⊕_equal, ⊕-below}
use Rattle.bch.proofs.Field.{Field}
use Rattle.bch.proofs.Polynomial.{linear_zero}

module _ (m : ℕ) (◌·◌ : ℕ → ℕ → ℕ) (F : Field m ◌·◌) where
  infixl 70 ◌·◌
  pub sum-mul : (a b c : ℕ) → (a ⊕ b) · c ≡ a · c ⊕ b · c
  sum-mul a b c = F.mul_comm (a ⊕ b) c ∙ F.mul-sum c a b ∙ ap₂ ◌⊕◌ (F.mul_comm c a) (F.mul_comm c b)

  pub mul-zero : (a : ℕ) → a · 0 ≡ 0
  mul-zero a = linear_zero (λ v. a · v) (F.mul-sum a)

  pub zero-mul : (a : ℕ) → 0 · a ≡ 0
  zero-mul a = F.mul_comm 0 a ∙ mul-zero a

  pub mul_left_comm : (a b c : ℕ) → a · (b · c) ≡ b · (a · c)
  mul_left_comm a b c = sym (F.mul_assoc a b c) ∙ ap (λ v. v · c) (F.mul_comm a b) ∙ F.mul_assoc b a c

  pub square_sum : (a b : ℕ) → (a ⊕ b) · (a ⊕ b) ≡ a · a ⊕ b · b
  square_sum a b =
      sum-mul a b (a ⊕ b) ∙ ap₂ ◌⊕◌ (F.mul-sum a a b) (F.mul-sum b a b ∙ ap (λ n. n ⊕ b · b) (F.mul_comm b a))
      ∙ simp ⊕·simp

  pub cubes : (x y : ℕ) → x · (x · x) ⊕ y · (y · y) ≡ (x ⊕ y) · ((x ⊕ y) · (x ⊕ y)) ⊕ (x ⊕ y) · (x · y)
  cubes x y = simp (F.mul-sum, sum-mul, F.mul_comm, mul_left_comm, ⊕·simp)

  pub cancel : (a b c : ℕ) → a < 2 ^ m → b < 2 ^ m → c < 2 ^ m → c ≢ 0 → c · a ≡ c · b → a ≡ b
  cancel a b c ha hb hc nz e =
      ⊕_equal (F.domain c (a ⊕ b) hc (⊕-below m a b ha hb) nz (F.mul-sum c a b ∙ ap (λ n. n ⊕ c · b) e ∙ ⊕-self (c · b)))

  pub two_roots : (X x s : ℕ) → X < 2 ^ m → x < 2 ^ m → s < 2 ^ m → X · (X ⊕ s) ≡ x · (x ⊕ s) → (X ≡ x) ⊎ (X ≡ x ⊕ s)
  two_roots X x s h_x hx hs e = go (ℕ_discrete (X ⊕ x) 0)
    where
      expand : (X ⊕ x) · (X ⊕ x ⊕ s) ≡ X · (X ⊕ s) ⊕ x · (x ⊕ s)
      expand = simp (F.mul-sum, sum-mul, F.mul_comm, ⊕·simp)

      go : Dec (X ⊕ x ≡ 0) → (X ≡ x) ⊎ (X ≡ x ⊕ s)
      go (yes z) = inl (⊕_equal z)
      go (no nz) =
          let hd : X ⊕ x < 2 ^ m = ⊕-below m X x h_x hx in
          inr (⊕_equal
          (sym (⊕_assoc X x s)
          ∙ F.domain (X ⊕ x) (X ⊕ x ⊕ s) hd (⊕-below m (X ⊕ x) s hd hs) nz (expand ∙ ap (λ n. n ⊕ x · (x ⊕ s)) e ∙ ⊕-self (x · (x ⊕ s)))))
