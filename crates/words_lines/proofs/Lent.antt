-- The words of each kind of frame.
--   received_lent, feed_sites   a feed-forward frame that was received, and its words
--   buffer_lent, row-sites      an original one, and its rows
-- Assumes nothing.
use mathlib.Core.Path.{◌≡◌, refl, sym, ap}
use mathlib.Core.List.{List, []}
use Prim.Native.Nat.{ℕ, ◌+◌, ◌*◌, ◌≤◌}
use native.Mathlib.Nat.{zero-add, zero-lt-suc}
use lib.ListN.{length}
use Rattle.bch.specs.Polynomial.{Bits}
use Rattle.staircase.specs.Lists.{tabulate}
use Rattle.staircase.specs.Design.{Params, Interleavers, most-blocks}
use Rattle.staircase.specs.Frame.{Frame, Site, groups, outside_each, outside_among}
use Rattle.staircase.specs.Lines.{read_sites, read_from}
use Rattle.staircase.proofs.Tabulate.{concat-same}
use Rattle.original.specs.Frame.{row_words}
use Rattle.original.proofs.Words.{row_words-plain}
use Rattle.design.specs.declared.Design.{Design}
use Rattle.design.specs.Answers.{AllowedOriginal}
use Rattle.rules.specs.Received.{Received}
use Rattle.layout.specs.declared.Shape.TheVariants.{FeedForward, Original}
use Rattle.layout.specs.Layouts.{feed_frames, row_frames, lines_in, sites_in, red_in, layout_in, AllowedIn}
use Rattle.words_lines.specs.Words.{frame_sites, ListsIn, FramesLent}

pub received_lent : {d : Design} {L : ℕ} {own parity info red : List ℕ} → Received d L own parity info red → FramesLent (feed_frames d L) own parity info red
unfolding AllowedIn ListsIn red_in
received_lent R =
    record {
      tail = record { few-blocks = R.few-blocks; allowed = R.allowed; lists = R.lists; long = R.frame.red_length; bits = R.frame.red_bits };
      long = R.frame.info_length;
      bits = R.frame.info_bits;
    }

pub feed_sites : (s : Params) (l : Interleavers) (L : ℕ) → frame_sites (layout_in FeedForward s l L) ≡ read_from s l L 0 (2 * groups L)
unfolding lines_in sites_in
feed_sites s l L =
    let line : ℕ → List (List Site) = λ k. tabulate s.M (read_sites s l L k) in
    concat-same (2 * groups L) line (λ i. line (0 + i)) (λ i h. ap line (sym (zero-add i)))

pub buffer_lent : (d : Design) (L : ℕ) (l : List ℕ) → AllowedOriginal d → L ≤ most-blocks → length l ≡ L * (d.size * d.size) → Bits l
    → FramesLent (row_frames d L) [] [] l []
unfolding AllowedIn ListsIn red_in
buffer_lent d L l A few long bits =
    record { tail = record { few-blocks = few; allowed = A; lists = tt; long = refl; bits = λ k. zero-lt-suc 1 }; long = long; bits = bits }

pub row-sites : (s : Params) (l : Interleavers) (L : ℕ) (f : Frame) → outside_among s f (frame_sites (layout_in Original s l L)) ≡ outside_each f (row_words s L)
unfolding lines_in sites_in outside_among
row-sites s l L f = ap (outside_each f) (sym (row_words-plain s L))
