-- A place turned within its column, and the two bytes of an entry.
--   turned_start   a place without its row is its column's first place
--   two_bytes       the bytes of entry p
--   entry_stored   the list after the two stores of one more entry
-- Assumes nothing.
use mathlib.Core.Path.{◌≡◌, refl, ap, ◌∙◌}
use mathlib.Core.List.{List, [], ◌∷◌}
use Prim.Native.Nat.{ℕ, ◌+◌, ◌-◌, ◌*◌, ◌/◌, ◌%◌, ◌≤◌}
use native.Mathlib.Nat.{div-add-mod', mul_comm}
use native.Mathlib.Numerals.{add-one}
use native.Mathlib.Omega.{arith}
use lib.ListN.{length, set}
use Rattle.staircase.specs.Design.{Params}
use Rattle.staircase.specs.Spread.{turned_to}
use Rattle.staircase.proofs.Fill.{stretches, stretches_sets}

pub turned_start : (s : Params) (by p size : ℕ) → size ≡ s.M → p - p % size + (p % size + by + p / size) % size ≡ turned_to s by p
unfolding turned_to
turned_start s by p size same =
    let e : p - p % size ≡ p / size * size = omega (arith, div-add-mod' p size) in
    ap (λ (z : ℕ). z + (p % size + by + p / size) % size) e ∙ ap (λ (m : ℕ). p / m * m + (p % m + by + p / m) % m) same

-- ---- bytes

abbrev pub two_bytes : (ℕ → ℕ) → ℕ → List ℕ
two_bytes f p = f p % 256 ∷ f p / 256 % 256 ∷ []

pub entry_stored : (f : ℕ → ℕ) (old : List ℕ) (p : ℕ) (l : List ℕ) (e : ℕ) → l ≡ stretches (two_bytes f) old 2 p → e ≡ f p → 2 * p + 2 ≤ length old
    → set (set l (2 * p) (e % 256)) (2 * p + 1) (e / 256 % 256) ≡ stretches (two_bytes f) old 2 (p + 1)
entry_stored f old p l e same is room =
    rw (is, add-one (2 * p), mul_comm 2 p, same) (stretches_sets (two_bytes f) old 2 (λ k. refl) p (omega arith))
