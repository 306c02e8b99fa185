-- The kept numbers of all rows, right and counted, and the marks behind them.
--   numbers-end, part-short   where the numbers end; a part is no longer than the whole
--   rows-outside      the rows outside the code are those whose number is not 0
--   marks-keep, marks_are   other marks behind the numbers
--   marks-count       marks that were cleared before the rounds are the line errors behind them
-- Assumes nothing.
use mathlib.Core.Path.{◌≡◌, sym, ap, ◌∙◌, subst⁻¹}
use mathlib.Core.List.{List, [], ◌++◌, append-nil}
use Prim.Native.Nat.{ℕ, ◌+◌, ◌-◌, ◌*◌, ◌≤◌}
use native.Mathlib.Omega.{arith}
use lib.ListN.{length, replicate, take, drop, length-append, length-take, length-drop, drop_of_length-le}
use lib.Seq.{take_at, drop_at, take_all, length-take-le}
use Rattle.bch.specs.Polynomial.{Bits}
use Rattle.staircase.specs.Frame.{outside_each, outside_among}
use Rattle.staircase.specs.Kept.{Keeps}
use Rattle.staircase.specs.LineErrors.{line_errors}
use Rattle.staircase.proofs.Bounds.{small_product}
use Rattle.staircase.proofs.Lines.{concat-tabulate}
use Rattle.decoder_kept.specs.Numbers.{nonzero_numbers}
use Rattle.decoder_kept.specs.Words.{kept_of}
use Rattle.decoder_frame.proofs.Numbers.{numbers-outside}
use Rattle.decoder_marks.specs.Marks.{Marked, MarksKept, set_marks}
use Rattle.decoder_marks.proofs.Marks.{cleared_marked, marked_errors}
use Rattle.original.specs.Frame.{row_sites, row_words, buffer_of}
use Rattle.original.specs.Crossing.{row_count, row_word}
use Rattle.original.proofs.Words.{row_words-plain}
use Rattle.design.specs.declared.Design.{Design}
use Rattle.design.specs.Sizes.{params_of}
use Rattle.original_rows.proofs.Checked.{buffer-small}
use Rattle.original_decoder.specs.Kept.{BufferKept, numbers_in, marks_in}

-- ---- where the numbers end

pub numbers-end : {d : Design} {L : ℕ} {l kept : List ℕ} → BufferKept d L l kept → (size : ℕ) → size ≡ d.size
    → (4 * (L * size) ≤ length kept) × (L * size ≤ 2048000) × (length kept ≤ 136192001)
numbers-end {d} {L} K size e =
    let same : L * size ≡ L * d.size = ap (λ (z : ℕ). L * z) e in
    let few = small_product L d.size 4096 500 K.frame.few-blocks K.frame.allowed.M-high in
    let all = buffer-small d K.frame.allowed L K.frame.few-blocks in
    (omega (arith, same, K.long), omega (arith, same, few), omega (arith, K.long, few, all))

pub part-short : (l : List ℕ) (a k : ℕ) → length (take k (drop a l)) ≤ length l
part-short l a k = omega (arith, length-take k (drop a l), length-drop a l)

-- ---- rows outside the code

module _ {d : Design} {L : ℕ} {l kept : List ℕ} (K : BufferKept d L l kept) where
  pub rows-outside : nonzero_numbers (numbers_in d L kept) (row_count (params_of d) L) ≡ outside_each (buffer_of l) (row_words (params_of d) L)
  unfolding outside_among
  rows-outside =
      numbers-outside (params_of d) (buffer_of l) (numbers_in d L kept) (λ w. (row_word (params_of d) w).sites) (row_count (params_of d) L) (λ w h. (K.numbers w h).number)
      ∙ ap (outside_among (params_of d) (buffer_of l)) (sym (concat-tabulate d.size L (row_sites (params_of d))))
      ∙ ap (outside_each (buffer_of l)) (sym (row_words-plain (params_of d) L))

-- ---- the marks

-- other marks, C, behind the numbers
module _ (d : Design) (L : ℕ) (l K C : List ℕ) (B : BufferKept d L l K) (n all : ℕ) (en : n ≡ 4 * (L * d.size)) (ea : all ≡ length K)
    (l_c : length C ≡ length (take (all - n) (drop n K))) where
  abbrev after : List ℕ
  after = take n K ++ (C ++ drop (all - n) (drop n K))

  front : length (take n K) ≡ n
  front = length-take-le n K (omega (arith, en, B.long))

  nothing : drop (all - n) (drop n K) ≡ []
  nothing = drop_of_length-le (drop n K) {i = all - n} (omega (arith, ea, length-drop n K))

  after_is : after ≡ take n K ++ C
  after_is = ap (λ (z : List ℕ). take n K ++ (C ++ z)) nothing ∙ ap (λ (z : List ℕ). take n K ++ z) (append-nil C)

  marks-long : length C ≡ all - n
  marks-long = l_c ∙ length-take-le (all - n) (drop n K) (omega (arith, ea, length-drop n K))

  pub marks-keep : BufferKept d L l (take n K ++ (C ++ drop (all - n) (drop n K)))
  marks-keep =
      record {
        frame = B.frame;
        long = ap length after_is ∙ length-append (take n K) C ∙ omega (arith, front, marks-long, ea, en, B.long);
        numbers =
            subst⁻¹ (λ (z : List ℕ). Keeps (row_word (params_of d)) (row_count (params_of d) L) (buffer_of l) (kept_of z)) same_numbers B.numbers;
      }
    where
      same_numbers : numbers_in d L after ≡ numbers_in d L K
      same_numbers = ap (λ (z : ℕ). take z after) (sym en) ∙ take_at (take n K) (C ++ drop (all - n) (drop n K)) n front ∙ ap (λ (z : ℕ). take z K) en

  pub marks_are : marks_in d L (take n K ++ (C ++ drop (all - n) (drop n K))) ≡ C
  marks_are = ap (marks_in d L) after_is ∙ ap (λ (z : ℕ). drop z (take n K ++ C)) (sym en) ∙ drop_at (take n K) C n front

  -- marks that were cleared before the rounds are the line errors behind them
  pub marks-count : C ≡ replicate (length (take (all - n) (drop n K))) 0 → (l' K' : List ℕ) → BufferKept d L l' K'
      → MarksKept (buffer_of l) (marks_in d L (take n K ++ (C ++ drop (all - n) (drop n K)))) (buffer_of l') (marks_in d L K')
      → set_marks (take (all - n) (drop n K')) ≡ line_errors (buffer_of l) (buffer_of l')
  marks-count e l' K' B' kept =
      let bits : Bits (l ++ []) = subst⁻¹ Bits (append-nil l) B.frame.bits in
      let first : Marked (buffer_of l) (buffer_of l) (marks_in d L after) = subst⁻¹ (Marked (buffer_of l) (buffer_of l)) (marks_are ∙ e) (cleared_marked (buffer_of l) (length (take (all - n) (drop n K))) bits) in
      let last : take (all - n) (drop n K') ≡ marks_in d L K' =
      take_all (all - n) (drop n K') (omega (arith, length-drop n K', B'.long, B.long, ea)) ∙ ap (λ (z : ℕ). drop z K') en in
      let room : length l + 0 ≤ 8 * length (marks_in d L K') = omega (arith, B.frame.long, B'.long, length-drop (4 * row_count (params_of d) L) K') in
      ap set_marks last ∙ marked_errors (buffer_of l) (buffer_of l') (marks_in d L K') room (kept (buffer_of l) first)
