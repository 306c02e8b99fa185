-- Numbers that are kept in working bytes, four bytes each, the lowest first. The highest bit of a number is its mark.
--   kept_at          number k
--   number_at        without its mark
--   marked_at        its mark
--   OnlyAt          number k is x, and all others and the bytes behind are as they were
--   PutFrom         the entries of a list are the numbers from one on, and all others are as they were
--   nonzero_numbers  how many of the first n numbers are not 0, whatever their marks
-- Assumes nothing.
use Rattle.std.specs.Prelude.{◌≡◌, Bool, cond, ◌≢◌, List, ℕ, zero, suc, ◌+◌, ◌*◌, ◌%◌, ◌≤◌, ◌<◌, eqb, leb, length, get_or, drop}

unfoldable pub kept_at : List ℕ → ℕ → ℕ
kept_at b k = get_or b (4 * k) 0 + 256 * get_or b (4 * k + 1) 0 + 65536 * get_or b (4 * k + 2) 0 + 16777216 * get_or b (4 * k + 3) 0

abbrev pub number_at : List ℕ → ℕ → ℕ
number_at b k = kept_at b k % 2147483648

abbrev pub marked_at : List ℕ → ℕ → Bool
marked_at b k = leb 2147483648 (kept_at b k)

pub record OnlyAt (b a : List ℕ) (k x : ℕ) : Type 0 where
  pub long : length a ≡ length b
  pub here : kept_at a k ≡ x
  pub others : (j : ℕ) → j ≢ k → kept_at a j ≡ kept_at b j
  pub behind : drop (4 * k + 4) a ≡ drop (4 * k + 4) b

pub record PutFrom (sums : List ℕ) (from : ℕ) (b a : List ℕ) : Type 0 where
  pub long : length a ≡ length b
  pub here : (k : ℕ) → k < length sums → kept_at a (from + k) ≡ get_or sums k 0
  pub before : (w : ℕ) → w < from → kept_at a w ≡ kept_at b w
  pub behind : (w : ℕ) → from + length sums ≤ w → kept_at a w ≡ kept_at b w

unfoldable pub nonzero_numbers : List ℕ → ℕ → ℕ
nonzero_numbers b zero = 0
nonzero_numbers b (suc n) = nonzero_numbers b n + cond (eqb (number_at b n) 0) 0 1
