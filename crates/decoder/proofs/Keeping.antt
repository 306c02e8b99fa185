-- The kept numbers of a frame with the marks of its bits behind them, and the counts.
--   cleared-marks     marks that are cleared are those of a frame beside itself
--   marks-few         they can be counted
--   marks-errors      the marks that are set at the end are the line errors
--   corrected-made    the counts of a frame that was corrected
--   corrected-idle    those of a frame whose words are all in the code
-- Assumes nothing.
use Rattle.std.specs.Prelude.{Ok}
use mathlib.Core.Path.{◌≡◌, sym, ap, ◌∙◌, subst⁻¹}
use mathlib.Core.Bool.{true}
use mathlib.Core.List.{List, ◌++◌}
use Prim.Native.Nat.{ℕ, ◌-◌, ◌*◌, ◌≤◌, ◌<◌}
use native.Mathlib.Omega.{arith}
use lib.ListN.{length, get_or, take, drop, replicate, length-replicate, length-drop}
use lib.Seq.{length-take-le}
use Rattle.bch.proofs.Systematic.{append_bits}
use Rattle.staircase.specs.Design.{Params, Interleavers}
use Rattle.staircase.specs.Frame.{Frame, Word, groups, frame_of, words, outside, outside_among, in_code}
use Rattle.staircase.specs.LineErrors.{line_errors}
use Rattle.staircase.specs.Decoder.{Decoded, rounds_allowed}
use Rattle.staircase.specs.Demand2.{Permutes}
use Rattle.staircase.specs.Lines.{word_count, read_from}
use Rattle.staircase.specs.Rules.Verdict.{accepted}
use Rattle.staircase.specs.Window.{positions, window_words, slide, slide_stuck, windowed, window_stuck, window_counts}
use Rattle.staircase.proofs.Member.{In}
use Rattle.staircase.proofs.Outside.{each_inside}
use Rattle.staircase.proofs.Flip.{Received}
use Rattle.staircase.proofs.BchCode.{odd_of, columns-apart}
use Rattle.staircase.proofs.Alike.{Alikes, slide_alike, slide_stuck_alike, outside-read, window_alike}
use Rattle.staircase.proofs.Window.{windowed-stays, window_counts-stays}
use Rattle.design.specs.declared.Design.{Design}
use Rattle.design.specs.Answers.{Allowed}
use Rattle.design.specs.Sizes.{params_of, order_of}
use Rattle.design.proofs.Allowed.{proper_of}
use Rattle.decoder_marks.specs.Marks.{set_marks, Marked}
use Rattle.decoder_marks.proofs.Marks.{cleared_marked, marked_errors}
use Rattle.decoder_words.specs.Ready.{FrameKept, marks_in}
use Rattle.decoder_words.proofs.Marks.{rest-is, flippable, flipped_kept, marks_back}
use Rattle.layout.specs.declared.Shape.TheVariants.{FeedForward}
use Rattle.layout.specs.Layouts.{lines_in, feed_frames}
use Rattle.decoder_lines.specs.Layouts.{FramesFit}
use Rattle.decoder_lines.proofs.Layouts.{info-few, red-few}
use Rattle.decoder_frame.specs.Stretch.{read_window}
use Rattle.decoder_frame.proofs.Feed.{feed_total}
use Rattle.decoder_frame.proofs.Limit.{allowed_itself}
use Rattle.answers.specs.declared.Counts.{Counts}
use Rattle.decoder.specs.Answers.{corrected_frame}
use Rattle.answers.specs.Answers.{corrected_of}

-- ---- the marks behind the numbers

module _ (d : Design) (L : ℕ) {links info red kept : List ℕ} (F : FramesFit (feed_frames d L) links) (K : FrameKept (feed_frames d L) links info red kept)
    (n : ℕ) (e : n ≡ 4 * word_count (params_of d) L) where
  bytes : n ≡ 4 * (lines_in FeedForward L * d.size)
  bytes = e ∙ ap (λ (z : ℕ). 4 * z) (sym (feed_total d L))

  -- the part of the marks came back as zeros
  pub cleared-marks : (ys : List ℕ) → ys ≡ replicate (length (take (length kept - n) (drop n kept))) 0
      → FrameKept (feed_frames d L) links info red (take n kept ++ (ys ++ drop (length kept - n) (drop n kept)))
      × Marked (frame_of info red) (frame_of info red) (marks_in (feed_frames d L) (take n kept ++ (ys ++ drop (length kept - n) (drop n kept))))
  cleared-marks ys z =
      let l : length ys ≡ length (take (length kept - n) (drop n kept)) = ap length z ∙ length-replicate (length (take (length kept - n) (drop n kept))) 0 in (
        flipped_kept K F n bytes ys l,
        subst⁻¹ (Marked (frame_of info red) (frame_of info red)) (marks_back K F n bytes ys l ∙ z)
            (cleared_marked (frame_of info red) (length (take (length kept - n) (drop n kept))) (append_bits info red K.frame.info_bits K.frame.red_bits)),
      )

  pub marks-few : length (take (length kept - n) (drop n kept)) < 1152921504606846976
  marks-few =
      let l = length-take-le (length kept - n) (drop n kept) (omega (arith, length-drop n kept)) in
      omega (arith, l, K.long, bytes, info-few F, red-few F)

  -- they are lent once more, to be counted
  pub marks-errors : {x : ℕ} (f : Frame) → x ≡ set_marks (take (length kept - n) (drop n kept)) → Marked f (frame_of info red) (marks_in (feed_frames d L) kept)
      → x ≡ line_errors f (frame_of info red)
  marks-errors {x} f q M =
      q ∙ marked_errors f (frame_of info red) (take (length kept - n) (drop n kept))
      (omega (arith, (flippable K F n bytes).room, M.info_length, M.red_length)) (subst⁻¹ (Marked f (frame_of info red)) (rest-is K F n bytes) M)

-- ---- the counts

made_in : (s : Params) (l : Interleavers) (L v k : ℕ) (f : Frame) (flips : ℕ) (g : Frame) (c : Counts) → 1 ≤ k
    → record { frame = g; rounds = c.rounds; flips = flips } ≡ slide (window_words s l L v) (positions (groups L) v) k f → c.turned ≡ line_errors f g
    → c.outside ≡ outside s l L g → c.stuck ≡ slide_stuck (window_words s l L v) (groups L - v) k f
    → corrected_of (Ok c) g ≡ corrected_frame s l L v k f
unfolding corrected_of corrected_frame window_counts windowed window_stuck
made_in s l L v k f flips g c some e t o z =
    let same : k ≡ rounds_allowed k = allowed_itself k (λ n. omega (arith, some, n)) in
    let m : record { frame = g; rounds = c.rounds; flips = flips } ≡ slide (window_words s l L v) (positions (groups L) v) (rounds_allowed k) f =
    e ∙ ap (λ (j : ℕ). slide (window_words s l L v) (positions (groups L) v) j f) same in
    let t' = t ∙ ap (λ (d : Decoded). line_errors f d.frame) m in
    let o' = o ∙ ap (λ (d : Decoded). outside s l L d.frame) m in
    let z' = z ∙ ap (λ (j : ℕ). slide_stuck (window_words s l L v) (groups L - v) j f) same in
    λ i. record { verdict = accepted; frame = (m i).frame; counts = record { rounds = (m i).rounds; turned = t' i; outside = o' i; stuck = z' i } }

idle_in : (s : Params) (l : Interleavers) (L v k : ℕ) (f : Frame) (c : Counts) → c ≡ record { rounds = positions (groups L) v; turned = 0; outside = 0; stuck = 0 }
    → outside s l L f ≡ 0 → corrected_of (Ok c) f ≡ corrected_frame s l L v k f
unfolding corrected_of corrected_frame outside
idle_in s l L v k f c q e =
    let h : (w : Word) → In w (words s l L) → in_code w.code f w.sites ≡ true = each_inside f (words s l L) e in
    ap (λ (z : Counts). corrected_of (Ok z) f) q
    ∙ sym (λ i. record { verdict = accepted; frame = (windowed-stays s l L v k f h i).frame; counts = window_counts-stays s l L v k f h i })

-- the words as they are read leave and count what those of the frame do
module _ (d : Design) (L v k : ℕ) (l : Interleavers) (A : Allowed d) (ps : Permutes (order_of d) (λ p. get_or l.self p 0))
    (pp : Permutes (order_of d) (λ p. get_or l.parity p 0)) (f : Frame) (here : Received f f) where
  alike : (g : Frame) (p : ℕ) → Alikes g (window_words (params_of d) l L v p) (read_window (params_of d) l L v p)
  alike g p = window_alike (params_of d) L l (proper_of d A) (odd_of A) (columns-apart A) ps pp g v p

  outside-is : (g : Frame) → Received g g → outside (params_of d) l L g ≡ outside_among (params_of d) g (read_from (params_of d) l L 0 (2 * groups L))
  outside-is g r = outside-read (params_of d) L l (proper_of d A) (odd_of A) (columns-apart A) ps pp g g r

  pub corrected-made : (flips : ℕ) (g : Frame) (c : Counts) → Received g g → 1 ≤ k
      → record { frame = g; rounds = c.rounds; flips = flips } ≡ slide (read_window (params_of d) l L v) (positions (groups L) v) k f
      → c.turned ≡ line_errors f g → c.outside ≡ outside_among (params_of d) g (read_from (params_of d) l L 0 (2 * groups L))
      → c.stuck ≡ slide_stuck (read_window (params_of d) l L v) (groups L - v) k f
      → corrected_of (Ok c) g ≡ corrected_frame (params_of d) l L v k f
  corrected-made flips g c there some e t o z =
      made_in (params_of d) l L v k f flips g c some
      (e ∙ sym (slide_alike f (window_words (params_of d) l L v) (read_window (params_of d) l L v) (positions (groups L) v) k f here (λ p h. alike f p))) t
      (o ∙ sym (outside-is g there))
      (z ∙ sym (slide_stuck_alike f (window_words (params_of d) l L v) (read_window (params_of d) l L v) (groups L - v) k f here (λ p h. alike f p)))

  pub corrected-idle : (c : Counts) → c ≡ record { rounds = positions (groups L) v; turned = 0; outside = 0; stuck = 0 }
      → outside_among (params_of d) f (read_from (params_of d) l L 0 (2 * groups L)) ≡ 0
      → corrected_of (Ok c) f ≡ corrected_frame (params_of d) l L v k f
  corrected-idle c q e = idle_in (params_of d) l L v k f c q (outside-is f here ∙ e)
