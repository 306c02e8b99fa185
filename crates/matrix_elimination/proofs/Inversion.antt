-- What elimination leaves, when it ends.
--   inversion_first   as many columns are the identity's as there are before the first that is a sum of earlier ones
--   inversion_made    where all are, the right halves are the packed inverse
-- Assumes nothing.
use mathlib.Core.Path.{◌≡◌, sym, ap, subst, ◌∙◌}
use mathlib.Core.List.{List}
use Prim.Native.Nat.{ℕ, ◌+◌, ◌*◌, ◌^◌, ◌≤◌, ◌<◌}
use native.Mathlib.Decide.{dec_lt}
use native.Mathlib.Omega.{arith}
use lib.ListN.{get_or}
use Rattle.staircase.specs.Lists.{first_where}
use Rattle.staircase.specs.System.{identity, row_bytes}
use Rattle.staircase.specs.Square.{BitMatrix, Inverts, Reached, Units, sends_to, dependent, inverse_matrix, packed_matrix}
use Rattle.staircase.proofs.Square.{digit-bit, identity_other}
use Rattle.staircase.proofs.Columns.{inverse_independent, inverse-is}
use Rattle.staircase.proofs.Elimination.{start, finished, stuck}
use Rattle.staircase.proofs.Packed.{packed-only}
use Rattle.staircase.proofs.Search.{first_where-none}
use Rattle.staircase.proofs.Steps.{reached-same}
use Rattle.matrix_elimination.specs.Steps.{row_width, left, right, SpareZero, RowSteps}
use Rattle.matrix_elimination.proofs.ClearedSteps.{left-bit, right-bit}
use Rattle.matrix_elimination.proofs.RightHalves.{right_halves, halves-length, halves-byte, halves-below, halves-entry}

inverse-bit : (n : ℕ) (s : ℕ → ℕ → ℕ) → BitMatrix (inverse_matrix n s)
unfolding inverse_matrix
inverse-bit n s i j = digit-bit (first_where (2 ^ n) (sends_to n n s (λ k. identity k j))) i

-- m has the matrix in its left half; m₁ has the identity beside it; m₂ is what they became
module _ (n : ℕ) (m m₁ m₂ : List ℕ) (same : (i j : ℕ) → i < n → j < 8 * row_bytes n → left n m₁ i j ≡ left n m i j)
    (first : (i j : ℕ) → i < n → j < 8 * row_bytes n → right n m₁ i j ≡ identity i j) (steps : RowSteps n m₁ m₂) where
  abbrev s : ℕ → ℕ → ℕ
  s = left n m

  abbrev u : ℕ → ℕ → ℕ
  u = left n m₂

  abbrev v : ℕ → ℕ → ℕ
  v = right n m₂

  reached : Reached n s u v
  reached =
      steps.reached s (left-bit n m)
      (reached-same n s s identity (left n m₁) (right n m₁) (λ i j hi hj. sym (same i j hi (omega (arith, hj))))
      (λ i j hi hj. sym (first i j hi (omega (arith, hj)))) (start n s (left-bit n m)))

  inverts : Units n n u → Inverts n s v
  inverts all = (finished n s u v (left-bit n m) (left-bit n m₂) (right-bit n m₂) reached all).0

  spare : SpareZero n m₂
  spare = steps.spare (λ i j hi hn hj. first i j hi hj ∙ identity_other i j (λ e. omega (arith, e, hi, hn)))

  module _ (r : ℕ) (le : r ≤ n) (units : Units n r u) (none : r < n → (i : ℕ) → r ≤ i → i < n → u i r ≡ 0) where
    pub inversion_first : r ≡ first_where n (dependent n s)
    inversion_first = go (dec_lt r n)
      where
        go : Dec (r < n) → r ≡ first_where n (dependent n s)
        go (yes l) = sym (stuck n s u v (left-bit n m) (left-bit n m₂) (right-bit n m₂) reached r l units (none l))
        go (no l) =
            let e : r ≡ n = omega arith in
            e ∙ sym (first_where-none n (dependent n s)
            (inverse_independent n s v (left-bit n m) (right-bit n m₂) (inverts (subst (λ (z : ℕ). Units n z u) e units))))

    pub inversion_made : 0 < n → ((k : ℕ) → get_or m₂ k 0 < 256) → r ≡ n → (i c : ℕ) → i < n → c < row_bytes n
        → get_or m₂ (i * row_width n + (row_bytes n + c)) 0 ≡ get_or (packed_matrix n (inverse_matrix n s)) (i * row_bytes n + c) 0
    inversion_made pos bytes e i c hi hc =
        sym (halves-byte n m₂ i c hi hc)
        ∙ ap (λ (l : List ℕ). get_or l (i * row_bytes n + c) 0)
        (packed-only n (inverse_matrix n s) (inverse-bit n s) pos (right_halves n m₂) (halves-length n m₂) (halves-below n m₂ bytes)
        (λ k j hk hj. halves-entry n m₂ k j hk (omega (arith, hj))
        ∙ inverse-is n s v (left-bit n m) (right-bit n m₂) (inverts (subst (λ (z : ℕ). Units n z u) e units)) k j hk hj)
        (λ k j hk hn hj. halves-entry n m₂ k j hk hj ∙ spare k j hk hn hj))
