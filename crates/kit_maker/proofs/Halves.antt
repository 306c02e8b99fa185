-- The halves of the rows of the matrix in which A is inverted.
--   rows_more                 the left halves hold the first e rows of a matrix: the loop's step
--   right_row                 a row of the right halves
--   right-packed              the right halves, row after row, are the packed matrix that each of them holds
-- Assumes nothing.
use mathlib.Core.Path.{◌≡◌, sym, ap, ap₂, ◌∙◌, subst}
use mathlib.Core.List.{List}
use Prim.Native.Nat.{ℕ, ◌+◌, ◌*◌, ◌/◌, ◌%◌, ◌≤◌, ◌<◌}
use native.Mathlib.Nat.{mod-lt, mod-eq_of_lt, div-add-mod', div-lt_iff_lt-mul, mul-add-mod_self_right}
use Rattle.std.proofs.lemmas.Nat.{div-mul-add}
use native.Mathlib.Decide.{ℕ_discrete}
use native.Mathlib.Omega.{arith}
use lib.ListN.{length, get_or, take, drop, length-drop}
use lib.Seq.{length-take-le, get_or-take, get_or-drop, ext_get_or}
use Rattle.staircase.specs.Lists.{tabulate}
use Rattle.staircase.specs.System.{row_bytes}
use Rattle.staircase.specs.Square.{BitMatrix, digit, packed_matrix}
use Rattle.staircase.proofs.Bounds.{stretch-end}
use Rattle.staircase.proofs.Tabulate.{tabulate-length, tabulate-at}
use Rattle.staircase.proofs.Packed.{packed-length}
use Rattle.matrix.specs.Packed.{packed_bit}
use Rattle.matrix_elimination.specs.Steps.{row_width, bit_at, left}
use Rattle.matrix_elimination.proofs.PartBack.{back, back_before, back_within}
use Rattle.kit_maker.specs.Making.{right_byte}

-- ---- the left halves

module _ (n : ℕ) (f : ℕ → ℕ → ℕ) where
  -- the left half of row e was lent and came back as ys
  pub rows_more : (m ys : List ℕ) (e k : ℕ) → n ≤ 4096 → e < n → length m ≡ (n + 256) * row_width n → length ys ≡ row_bytes n → k ≡ row_bytes n
      → ((i j : ℕ) → i < e → j < n → left n m i j ≡ f i j) → ((j : ℕ) → packed_bit ys j ≡ f e j)
      → (i j : ℕ) → i < e + 1 → j < n → left n (back m ys (e * row_width n) k) i j ≡ f i j
  unfolding bit_at packed_bit
  rows_more m ys e k small he long part same before row i j hi hj = go (ℕ_discrete i e)
    where
      room : e * row_width n + k ≤ length m
      room = omega (arith, stretch-end e (n + 256) (row_width n) (omega arith), long, same)

      go : Dec (i ≡ e) → digit (get_or (back m ys (e * row_width n) k) (i * row_width n + j / 8) 0) (j % 8) ≡ f i j
      go (yes d) =
          ap (λ (z : ℕ). digit (get_or (back m ys (e * row_width n) k) (z * row_width n + j / 8) 0) (j % 8)) d
          ∙ ap (λ (z : ℕ). digit z (j % 8)) (back_within m ys (e * row_width n) k room (part ∙ sym same) (j / 8) (omega arith))
          ∙ row j ∙ ap (λ (z : ℕ). f z j) (sym d)
      go (no d) =
          let h : i < e = omega arith in
          let s = stretch-end i e (row_width n) h in
          ap (λ (z : ℕ). digit z (j % 8)) (back_before m ys (e * row_width n) k room (part ∙ sym same) (i * row_width n + j / 8) (omega (arith, s)))
          ∙ before i j h hj

-- ---- the right halves

-- what is read of row e: k bytes from place a on
pub right_row : (n : ℕ) (m : List ℕ) (e a k : ℕ) → e < n → length m ≡ (n + 256) * row_width n → a ≡ e * row_width n + row_bytes n → k ≡ row_bytes n
    → take k (drop a m) ≡ tabulate k (λ c. right_byte m n (e * row_bytes n + c))
right_row n m e a k he long d same =
    ext_get_or 0 (take k (drop a m)) (tabulate k f) (part ∙ sym (tabulate-length k f))
    (λ c h.
    let b : c < row_bytes n = omega (arith, part, same, h) in
    get_or-take k (drop a m) c 0 (omega (arith, part, h)) ∙ get_or-drop a m c 0
    ∙ ap (λ (z : ℕ). get_or m z 0) (omega (arith, d))
    ∙ ap₂ (λ (x y : ℕ). get_or m (x * row_width n + (row_bytes n + y)) 0) (sym (div-mul-add e (row_bytes n) c b)) (sym (mul-add-mod_self_right e (row_bytes n) c ∙ mod-eq_of_lt b))
    ∙ sym (tabulate-at k f 0 c (omega (arith, part, h))))
  where
    f : ℕ → ℕ
    f c = right_byte m n (e * row_bytes n + c)

    part : length (take k (drop a m)) ≡ k
    part = length-take-le k (drop a m) (omega (arith, d, same, long, stretch-end e (n + 256) (row_width n) (omega arith), length-drop a m))

pub right-packed : (n : ℕ) (w : ℕ → ℕ → ℕ) → BitMatrix w → n ≤ 4096 → 0 < n → (m : List ℕ)
    → ((i c : ℕ) → i < n → c < row_bytes n → get_or m (i * row_width n + (row_bytes n + c)) 0 ≡ get_or (packed_matrix n w) (i * row_bytes n + c) 0)
    → tabulate (n * row_bytes n) (right_byte m n) ≡ packed_matrix n w
right-packed n w hw small pos m same =
    ext_get_or 0 (tabulate (n * row_bytes n) (right_byte m n)) (packed_matrix n w) (long ∙ sym (packed-length n w hw))
    (λ k h. at k (subst (λ (z : ℕ). k < z) long h))
  where
    long : length (tabulate (n * row_bytes n) (right_byte m n)) ≡ n * row_bytes n
    long = tabulate-length (n * row_bytes n) (right_byte m n)

    at : (k : ℕ) → k < n * row_bytes n → get_or (tabulate (n * row_bytes n) (right_byte m n)) k 0 ≡ get_or (packed_matrix n w) k 0
    at k h =
        let p : 0 < row_bytes n = omega arith in
        tabulate-at (n * row_bytes n) (right_byte m n) 0 k h ∙ same (k / row_bytes n) (k % row_bytes n) ((div-lt_iff_lt-mul p).1 h) (mod-lt k p)
        ∙ ap (λ (z : ℕ). get_or (packed_matrix n w) z 0) (div-add-mod' k (row_bytes n))
