-- The distance of words is a metric.
--   unlike-same, unlike_other   two bits by cases
--   unlike-le                   at most 1
--   distance_self               a word is at distance 0 from itself
--   distance-zero               and from no other of its length
--   distance_comm, distance_triangle
--   distance-bound              at most the word's length
--   distance-append             of words that are joined from words of the same lengths
-- Assumes nothing.
use mathlib.Core.Path.{◌≡◌, refl, sym, ap, ap₂, ◌∙◌}
use mathlib.Core.Logic.{◌≢◌}
use mathlib.Core.Bool.{Bool, cond}
use mathlib.Core.List.{List, [], ◌∷◌, ◌++◌}
use Prim.Native.Nat.{ℕ, ◌+◌, ◌≤◌, zero-le}
use native.Mathlib.Nat.{suc_inj, suc-ne-zero, zero-add}
use native.Mathlib.Decide.{ℕ_discrete}
use native.Mathlib.Omega.{arith}
use lib.ListN.{length}
use borrow.Author.Tests.{eq-eqb, ne_eqb}
use Rattle.bch.specs.Code.{unlike, distance}

pub unlike-same : {a b : ℕ} → a ≡ b → unlike a b ≡ 0
unfolding unlike
unlike-same {a} {b} e = ap (λ (z : Bool). cond z 0 1) (eq-eqb a b e)

pub unlike_other : {a b : ℕ} → a ≢ b → unlike a b ≡ 1
unfolding unlike
unlike_other {a} {b} d = ap (λ (z : Bool). cond z 0 1) (ne_eqb a b d)

pub unlike-le : (a b : ℕ) → unlike a b ≤ 1
unlike-le a b = go (ℕ_discrete a b)
  where
    go : Dec (a ≡ b) → unlike a b ≤ 1
    go (yes e) = omega (arith, unlike-same e)
    go (no d) = omega (arith, unlike_other d)

unlike_comm : (a b : ℕ) → unlike a b ≡ unlike b a
unlike_comm a b = go (ℕ_discrete a b)
  where
    go : Dec (a ≡ b) → unlike a b ≡ unlike b a
    go (yes e) = unlike-same e ∙ sym (unlike-same (sym e))
    go (no d) = unlike_other d ∙ sym (unlike_other (λ e. d (sym e)))

unlike_triangle : (a b c : ℕ) → unlike a c ≤ unlike a b + unlike b c
unlike_triangle a b c = go (ℕ_discrete a b)
  where
    go : Dec (a ≡ b) → unlike a c ≤ unlike a b + unlike b c
    go (yes e) = omega (arith, ap (λ (z : ℕ). unlike z c) e)
    go (no d) = omega (arith, unlike_other d, unlike-le a c)

pub distance_self : (w : List ℕ) → distance w w ≡ 0
unfolding distance
distance_self [] = refl
distance_self (b ∷ w) = omega (arith, unlike-same {a = b} {b = b} refl, distance_self w)

pub distance-zero : (v w : List ℕ) → length v ≡ length w → distance v w ≡ 0 → v ≡ w
unfolding distance
distance-zero [] [] e h = refl
distance-zero [] (b ∷ w) e h = absurd (suc-ne-zero (length w) (sym e))
distance-zero (a ∷ v) [] e h = absurd (suc-ne-zero (length v) e)
distance-zero (a ∷ v) (b ∷ w) e h = ap₂ ◌∷◌ (same (ℕ_discrete a b)) (distance-zero v w (suc_inj e) (omega arith))
  where
    same : Dec (a ≡ b) → a ≡ b
    same (yes q) = q
    same (no q) = absurd (omega (arith, unlike_other q, h))

pub distance_comm : (v w : List ℕ) → distance v w ≡ distance w v
unfolding distance
distance_comm [] [] = refl
distance_comm [] (b ∷ w) = refl
distance_comm (a ∷ v) [] = refl
distance_comm (a ∷ v) (b ∷ w) = ap₂ ◌+◌ (unlike_comm a b) (distance_comm v w)

pub distance_triangle : (u v w : List ℕ) → length u ≡ length v → length v ≡ length w → distance u w ≤ distance u v + distance v w
unfolding distance
distance_triangle [] v w e d = zero-le
distance_triangle (a ∷ u) [] w e d = absurd (suc-ne-zero (length u) e)
distance_triangle (a ∷ u) (b ∷ v) [] e d = absurd (suc-ne-zero (length v) d)
distance_triangle (a ∷ u) (b ∷ v) (c ∷ w) e d = omega (arith, unlike_triangle a b c, distance_triangle u v w (suc_inj e) (suc_inj d))

pub distance-bound : (v w : List ℕ) → distance v w ≤ length v
unfolding distance
distance-bound [] w = zero-le
distance-bound (a ∷ v) [] = zero-le
distance-bound (a ∷ v) (b ∷ w) = omega (arith, unlike-le a b, distance-bound v w)

pub distance-append : (v w u x : List ℕ) → length v ≡ length w → distance (v ++ u) (w ++ x) ≡ distance v w + distance u x
unfolding distance
distance-append [] [] u x e = sym (zero-add (distance u x))
distance-append [] (b ∷ w) u x e = absurd (suc-ne-zero (length w) (sym e))
distance-append (a ∷ v) [] u x e = absurd (suc-ne-zero (length v) e)
distance-append (a ∷ v) (b ∷ w) u x e = omega (arith, distance-append v w u x (suc_inj e))
