-- The rounds of a received frame, and their counts.
--   ready_lent, kept_lent   the tables, and the kept numbers under a table of links, each in the part of its buffer that is lent
--   feed_kept               the working bytes of what the decoder keeps
-- Assumes nothing.
use mathlib.Core.Path.{◌≡◌, sym, ap, ◌∙◌, subst⁻¹}
use mathlib.Core.List.{List, ◌++◌}
use Prim.Native.Nat.{ℕ, ◌-◌}
use lib.ListN.{length, take, drop}
use Rattle.staircase.specs.Design.{Interleavers}
use Rattle.staircase.specs.Frame.{frame_of}
use Rattle.staircase.specs.Layout.{kept_length}
use Rattle.staircase.specs.Rules.{kept_work}
use Rattle.design.specs.declared.Design.{Design}
use Rattle.design.specs.Sizes.{params_of, lists_of}
use Rattle.rules.specs.Received.{Received}
use Rattle.words_positions.proofs.Parts.{part-is}
use Rattle.layout.specs.declared.Shape.TheVariants.{FeedForward}
use Rattle.words_lines.specs.Words.{layout_with}
use Rattle.words_lines.proofs.Lent.{received_lent}
use Rattle.decoder_lines.specs.Links.{lists_in}
use Rattle.layout.specs.declared.Frames.{Frames}
use Rattle.decoder_words.specs.Ready.{FramesReady, FrameKept}
use Rattle.layout.specs.Layouts.{feed_frames, lines_in, sites_in, red_in}
use Rattle.decoder_frame.specs.Filled.{Filled}
use Rattle.decoder_frame.proofs.Numbers.{kept-split, filled_keeps}

-- each table came back as it is filled, and is lent again
pub ready_lent : (g : Frames) (K K' T T' F F' : List ℕ) (k t f : ℕ) → length K ≡ k → length T ≡ t → length F ≡ f → FramesReady g K T F
    → FramesReady g (take (k - 0) (drop 0 (K ++ K'))) (take (t - 0) (drop 0 (T ++ T'))) (take (f - 0) (drop 0 (F ++ F')))
ready_lent g K K' T T' F F' k t f lk lt lf R =
    subst⁻¹ (λ (x : List ℕ). FramesReady g x (take (t - 0) (drop 0 (T ++ T'))) (take (f - 0) (drop 0 (F ++ F')))) (part-is K K' k lk)
    (subst⁻¹ (λ (x : List ℕ). FramesReady g K x (take (f - 0) (drop 0 (F ++ F')))) (part-is T T' t lt)
    (subst⁻¹ (λ (x : List ℕ). FramesReady g K T x) (part-is F F' f lf) R))

pub feed_kept : (d : Design) (L : ℕ) (own parity : List ℕ) {n : ℕ} → n ≡ kept_work (params_of d) L → n ≡ kept_length (layout_with (feed_frames d L) own parity)
unfolding lines_in red_in
feed_kept d L own parity e = e ∙ kept-split (params_of d) L

-- the numbers that are filled, under the lists that the lent table of links holds
pub kept_lent : (d : Design) (L : ℕ) (own parity K K' : List ℕ) {info red kept : List ℕ} (k : ℕ) → length K ≡ k → Received d L own parity info red
    → lists_in d K ≡ lists_of d own parity → length kept ≡ kept_work (params_of d) L → Filled (feed_frames d L) own parity (frame_of info red) kept
    → FrameKept (feed_frames d L) (take (k - 0) (drop 0 (K ++ K'))) info red kept
kept_lent d L own parity K K' {info} {red} {kept} k lk R same long H =
    subst⁻¹ (λ (x : List ℕ). FrameKept (feed_frames d L) x info red kept) (part-is K K' k lk)
    (filled_keeps (received_lent R) kept H K (λ i a. ap (λ (l : Interleavers). sites_in FeedForward (params_of d) l L i a) (sym same)) (feed_kept d L own parity long))
