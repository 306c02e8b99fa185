-- The kinds of frames that the code holds, as layouts: steps of the code, which no promise names. A word has bits of two blocks, each by rows or by
-- columns, and behind them those of its redundancy, if its kind has any.
--   lines_in, bits_in, tail_in, red_in   the lines of a frame, the bits of a word, those of each part behind its blocks, and those of all redundancy
--   turns_in, turned_in, turn_in   whether words are read backwards, those of which line, and a position of a word from one as it is read; and back
--   taken_in                  whether a line is taken with those that are read backwards, or with the others
--   straight_in, across_in     a word as it is written, and the other word that has the bit at a position of it
--   sites_in, crossing_in      the same as they are read
--   layout_in                 the layout of some frames
--   rows_first, rows_second    whether word a of a line has row a of its two blocks, or column a
--   feed_frames, row_frames    feed-forward and original frames of a design
--   AllowedIn, PermutesIn    designs and lists that a kind lets through
-- Assumes nothing.
use Rattle.std.specs.Prelude.{Bool, true, false, not, cond, List, [], ◌∷◌, ℕ, ◌-◌, ◌*◌, eqb, get_or}
use Rattle.staircase.specs.Design.{Params, Interleavers, word_length, order}
use Rattle.staircase.specs.Frame.{Site, groups}
use Rattle.staircase.specs.Demand2.{Permutes}
use Rattle.staircase.specs.Lines.{even, line_sites, turned, read_sites, Incidence, crossing, read_crossing}
use Rattle.staircase.specs.Layout.{Layout, place_of}
use Rattle.original.specs.Frame.{row_sites}
use Rattle.original.specs.Rules.{row_length}
use Rattle.original.specs.Crossing.{row_crossing}
use Rattle.design.specs.declared.Design.{Design}
use Rattle.design.specs.Answers.{Allowed, AllowedOriginal}
use Rattle.layout.specs.declared.Shape.{Shape}
use Rattle.layout.specs.declared.Shape.TheVariants.{FeedForward, Original}
use Rattle.layout.specs.declared.Frames.{Frames}

abbrev pub feed_frames : Design → ℕ → Frames
feed_frames d L = record { d = d; shape = FeedForward; blocks = L }

abbrev pub row_frames : Design → ℕ → Frames
row_frames d L = record { d = d; shape = Original; blocks = L }

unfoldable pub lines_in : Shape → ℕ → ℕ
lines_in FeedForward L = 2 * groups L
lines_in Original L = L

unfoldable pub bits_in : Shape → Params → ℕ
bits_in FeedForward s = word_length s
bits_in Original s = row_length s

unfoldable pub tail_in : Shape → Params → ℕ
tail_in FeedForward s = s.r
tail_in Original s = 0

unfoldable pub red_in : Shape → Params → ℕ → ℕ
red_in FeedForward s L = groups L * (2 * order s)
red_in Original s L = 0

-- "its column words are checked and mended in that code": a word of the mirrored code, read backwards, is one of the row code
unfoldable pub turns_in : Shape → Params → Bool
turns_in FeedForward s = not (eqb s.col 0)
turns_in Original s = false

unfoldable pub turned_in : Shape → Params → ℕ → Bool
turned_in FeedForward s k = turned s k
turned_in Original s k = false

unfoldable pub turn_in : Shape → Params → ℕ → ℕ → ℕ
turn_in z s k p = cond (turned_in z s k) (bits_in z s - 1 - p) p

unfoldable pub taken_in : Shape → Params → Bool → ℕ → Bool
taken_in z s back k = cond back (turned_in z s k) (not (turned_in z s k))

unfoldable pub straight_in : Shape → Params → Interleavers → ℕ → ℕ → ℕ → List Site
straight_in FeedForward s l L k a = line_sites s l L k a
straight_in Original s l L k a = row_sites s k a

unfoldable pub across_in : Shape → Params → Interleavers → ℕ → ℕ → ℕ → Incidence
across_in FeedForward s l k a p = crossing s l k a p
across_in Original s l k a p = row_crossing s k a p

unfoldable pub sites_in : Shape → Params → Interleavers → ℕ → ℕ → ℕ → List Site
sites_in FeedForward s l L k a = read_sites s l L k a
sites_in Original s l L k a = row_sites s k a

unfoldable pub crossing_in : Shape → Params → Interleavers → ℕ → ℕ → ℕ → Incidence
crossing_in FeedForward s l k a p = read_crossing s l k a p
crossing_in Original s l k a p = row_crossing s k a p

-- field by field, so that what all kinds have in common needs no case
abbrev pub layout_in : Shape → Params → Interleavers → ℕ → Layout
layout_in z s l L = record {
  code = s;
  lines = lines_in z L;
  bits = λ k. bits_in z s;
  sites = sites_in z s l L;
  others = λ k a p. place_of s (bits_in z s) (crossing_in z s l k a p) ∷ [];
  info = L * (s.M * s.M);
  red = red_in z s L;
}

unfoldable pub rows_first : Shape → ℕ → Bool
rows_first FeedForward k = even k
rows_first Original k = false

unfoldable pub rows_second : Shape → ℕ → Bool
rows_second FeedForward k = even k
rows_second Original k = true

unfoldable pub AllowedIn : Shape → Design → Type 0
AllowedIn FeedForward d = Allowed d
AllowedIn Original d = AllowedOriginal d

unfoldable pub PermutesIn : Shape → Params → Interleavers → Type 0
PermutesIn FeedForward s l = Permutes (order s) (λ p. get_or l.self p 0) × Permutes (order s) (λ p. get_or l.parity p 0)
PermutesIn Original s l = Unit
