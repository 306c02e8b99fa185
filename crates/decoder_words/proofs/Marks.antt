-- The marks behind the kept numbers of a frame.
--   numbers-within                the numbers are within
--   flippable                     the marks have room for the frame's bits
--   rest-is, marks_back           they are lent as a part, and after they came back they are those that came back
--   flipped_kept, flipped_marks   then the numbers stay, and the marks are right
--   marks_stay                    marks where only numbers have changed
-- Assumes nothing.
use mathlib.Core.Path.{◌≡◌, ap, ◌∙◌, subst, subst⁻¹}
use mathlib.Core.List.{List, ◌++◌, append-nil}
use Prim.Native.Nat.{ℕ, ◌+◌, ◌-◌, ◌*◌, ◌/◌, ◌%◌, ◌≤◌, ◌<◌}
use native.Mathlib.Omega.{arith}
use lib.Dec.{leb}
use lib.ListN.{length, take, drop, length-drop, length-append, drop_of_length-le}
use lib.Seq.{length-take-le, drop_at}
use Rattle.staircase.specs.Frame.{frame_of}
use Rattle.staircase.specs.Kept.{Holds}
use Rattle.staircase.specs.Layout.{word_at}
use Rattle.decoder_kept.specs.Numbers.{kept_at}
use Rattle.decoder_kept.proofs.Numbers.{kept_at-take, kept_at-front}
use Rattle.decoder_marks.specs.Marks.{MarksKept}
use Rattle.decoder_flips.specs.Sites.{Flippable}
use Rattle.layout.specs.declared.Frames.{Frames}
use Rattle.layout.specs.Layouts.{lines_in}
use Rattle.decoder_lines.specs.Layouts.{layout_of, FramesFit}
use Rattle.decoder_lines.proofs.Layouts.{info-few, red-few}
use Rattle.decoder_words.specs.Ready.{FrameKept, marks_in, LineMarks}
use Rattle.decoder_words.proofs.Tables.{rest_part}

module _ {f : Frames} {links info red kept : List ℕ} (K : FrameKept f links info red kept) where
  abbrev N : ℕ
  N = lines_in f.shape f.blocks * f.d.size

  kept-long : length kept ≡ 4 * N + (length info + length red + 7) / 8
  kept-long = omega (arith, K.long, K.frame.info_length, K.frame.red_length)

  pub numbers-within : 4 * (lines_in f.shape f.blocks * f.d.size) ≤ length kept
  numbers-within = omega (arith, kept-long)

  module _ (F : FramesFit f links) (n : ℕ) (e : n ≡ 4 * (lines_in f.shape f.blocks * f.d.size)) where
    pub rest-is : take (length kept - n) (drop n kept) ≡ drop (4 * (lines_in f.shape f.blocks * f.d.size)) kept
    rest-is = rest_part kept n (4 * N) e

    rest-long : length (take (length kept - n) (drop n kept)) ≡ (length info + length red + 7) / 8
    rest-long = ap length rest-is ∙ length-drop (4 * N) kept ∙ omega (arith, kept-long)

    pub flippable : Flippable info red (take (length kept - n) (drop n kept))
    flippable =
        record {
          info_bits = K.frame.info_bits;
          red_bits = K.frame.red_bits;
          room = omega (arith, rest-long);
          short = omega (arith, info-few F, red-few F, K.frame.info_length, K.frame.red_length);
        }

    module _ (ys : List ℕ) (l : length ys ≡ length (take (length kept - n) (drop n kept))) where
      front : length (take (4 * N) kept) ≡ 4 * N
      front = length-take-le (4 * N) kept numbers-within

      after_is : take n kept ++ (ys ++ drop (length kept - n) (drop n kept)) ≡ take (4 * N) kept ++ ys
      after_is =
          ap (λ (z : List ℕ). take n kept ++ (ys ++ z)) (drop_of_length-le (drop n kept) {i = length kept - n} (omega (arith, length-drop n kept)))
          ∙ ap (λ (z : List ℕ). take n kept ++ z) (append-nil ys) ∙ ap (λ (k : ℕ). take k kept ++ ys) e

      same : (w : ℕ) → w < N → kept_at (take (4 * N) kept ++ ys) w ≡ kept_at kept w
      same w h = kept_at-front (take (4 * N) kept) ys N w front h ∙ kept_at-take kept N w h

      pub flipped_kept : FrameKept f links info red (take n kept ++ (ys ++ drop (length kept - n) (drop n kept)))
      flipped_kept =
          subst⁻¹ (λ (z : List ℕ). FrameKept f links info red z) after_is
          (record {
            frame = K.frame;
            long = length-append (take (4 * N) kept) ys ∙ omega (arith, front, l, rest-long, kept-long) ∙ K.long;
            numbers =
                λ w hw.
                subst⁻¹ (λ (v : ℕ). Holds (word_at (layout_of f links) w) (v % 2147483648) (leb 2147483648 v) (frame_of info red)) (same w hw) (K.numbers w hw);
          })

      pub marks_back : drop (4 * (lines_in f.shape f.blocks * f.d.size)) (take n kept ++ (ys ++ drop (length kept - n) (drop n kept))) ≡ ys
      marks_back = ap (drop (4 * N)) after_is ∙ drop_at (take (4 * N) kept) ys (4 * N) front

      pub flipped_marks : {info' red' : List ℕ} → MarksKept (frame_of info red) (take (length kept - n) (drop n kept)) (frame_of info' red') ys
          → LineMarks f info red kept info' red' (take n kept ++ (ys ++ drop (length kept - n) (drop n kept)))
      flipped_marks {info'} {red'} M =
          subst⁻¹ (λ (z : List ℕ). MarksKept (frame_of info red) (drop (4 * N) kept) (frame_of info' red') z) marks_back
          (subst (λ (z : List ℕ). MarksKept (frame_of info red) z (frame_of info' red') ys) rest-is M)

-- numbers have changed and nothing behind them
pub marks_stay : (f : Frames) (kept b b' : List ℕ) {info red info' red' : List ℕ} → LineMarks f info red kept info' red' b
    → drop (4 * (lines_in f.shape f.blocks * f.d.size)) b' ≡ drop (4 * (lines_in f.shape f.blocks * f.d.size)) b
    → LineMarks f info red kept info' red' b'
marks_stay f kept b b' {info} {red} {info'} {red'} M e =
    subst⁻¹ (λ (z : List ℕ). MarksKept (frame_of info red) (marks_in f kept) (frame_of info' red') z) e M
