-- A list of numbers that is written entry by entry, or by parts.
--   zeros-at                    each entry of a list of zeros, past its end too
--   set_each                    what holds of each entry after a store
--   part-written, part-before   a part that was written, and one before it
-- Assumes nothing.
use mathlib.Core.Path.{◌≡◌, refl, sym, ap, ◌∙◌, subst⁻¹}
use mathlib.Core.List.{List, ◌++◌}
use Prim.Native.Nat.{ℕ, zero, suc, ◌+◌, ◌≤◌, ◌<◌}
use native.Mathlib.Decide.{ℕ_discrete}
use native.Mathlib.Omega.{arith}
use lib.ListN.{length, get_or, set, take, drop, replicate, length-drop, take-append-drop}
use lib.Seq.{get_or-set_same, get_or-set_other, length-take-le, take_at, drop_at, take-append-le, drop-append-le}

pub zeros-at : (n k : ℕ) → ◌≡◌ {A = ℕ} (get_or (replicate n 0) k 0) 0
zeros-at zero k = refl
zeros-at (suc n) zero = refl
zeros-at (suc n) (suc k) = zeros-at n k

pub set_each : (P : ℕ → ℕ → Type 0) (l : List ℕ) (n v : ℕ) → n < length l → P n v → ((k : ℕ) → (k ≡ n → ⊥) → P k (get_or l k 0))
    → (k : ℕ) → P k (get_or (set l n v) k 0)
set_each P l n v h here else k = go (ℕ_discrete k n)
  where
    go : Dec (k ≡ n) → P k (get_or (set l n v) k 0)
    go (yes e) = subst⁻¹ (λ (z : ℕ). P z (get_or (set l n v) z 0)) e (subst⁻¹ (P n) (get_or-set_same l n v 0 h) here)
    go (no d) = subst⁻¹ (P k) (get_or-set_other l n k v 0 d) (else k d)

-- the list after the entries ys were written from a on
pub part-written : (a k : ℕ) (xs ys rest : List ℕ) → a ≤ length xs → length ys ≡ k → take k (drop a (take a xs ++ (ys ++ rest))) ≡ ys
part-written a k xs ys rest h l = ap (take k) (drop_at (take a xs) (ys ++ rest) a (length-take-le a xs h)) ∙ take_at ys rest k l

pub part-before : (b k a : ℕ) (xs rest : List ℕ) → b + k ≤ a → a ≤ length xs → take k (drop b (take a xs ++ rest)) ≡ take k (drop b xs)
part-before b k a xs rest h l =
    within rest ∙ sym (ap (λ (z : List ℕ). take k (drop b z)) (sym (take-append-drop a xs)) ∙ within (drop a xs))
  where
    long : length (take a xs) ≡ a
    long = length-take-le a xs l

    within : (y : List ℕ) → take k (drop b (take a xs ++ y)) ≡ take k (drop b (take a xs))
    within y =
        ap (take k) (drop-append-le b (take a xs) y (omega (arith, long)))
        ∙ take-append-le k (drop b (take a xs)) y (omega (arith, long, length-drop b (take a xs)))
