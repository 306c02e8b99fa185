-- What is asked of the arguments with which the words of a line are corrected, and what is left: steps of the decoder, which no promise names.
--   WordTables    the tables of a design: the powers of x at the positions of a word, behind them their values and those of four bits, and the field's
--   FramesReady, LineReady   frames, or a line of a frame, the table of links and the tables of the design
--   FrameKept     a frame with the kept numbers of all its words and, behind them, the marks of its bits
--   marks_in       the marks
--   LineMarks     marks that were right are right again
--   correction_at  the correction of word a of a line
--   KeptBut       all numbers but that of word a of a line are right
--   AddedAll      the numbers of the words that cross at some positions have got their powers
-- Assumes nothing.
use Rattle.std.specs.Prelude.{◌≡◌, List, ℕ, ◌+◌, ◌*◌, length, take, drop}
use Rattle.staircase.specs.Frame.{Frame, Site, frame_of}
use Rattle.staircase.specs.Decoder.{correction}
use Rattle.staircase.specs.Kept.{Keeps, KeepsBut}
use Rattle.staircase.specs.Layout.{word_total, word_at, kept_length, Fits}
use Rattle.design.specs.Sizes.{params_of}
use Rattle.decoder_kept.specs.Words.{kept_of, AddedAt}
use Rattle.decoder_locator.specs.Located.{LocatorTables}
use Rattle.decoder_marks.specs.Marks.{MarksKept}
use Rattle.decoder_flips.specs.Positions.{Through}
use Rattle.layout.specs.declared.Frames.{Frames}
use Rattle.layout.specs.declared.Line.{Line}
use Rattle.layout.specs.Layouts.{lines_in, bits_in}
use Rattle.decoder_lines.specs.Layouts.{layout_of, FramesFit, LineFits, line_word, places_at}

pub record WordTables (f : Frames) (tables field : List ℕ) : Type 0 where
  pub long : length tables ≡ bits_in f.shape (params_of f.d) + (bits_in f.shape (params_of f.d) + 128)
  pub locator : LocatorTables f.d.m f.d.t (take (bits_in f.shape (params_of f.d)) tables) (drop (bits_in f.shape (params_of f.d)) tables) field

pub record FramesReady (f : Frames) (links tables field : List ℕ) : Type 0 where
  pub fits : FramesFit f links
  pub word-tables : WordTables f tables field

pub record LineReady (line : Line) (links tables field : List ℕ) : Type 0 where
  pub fits : LineFits line links
  pub word-tables : WordTables line.frames tables field

pub record FrameKept (f : Frames) (links info red kept : List ℕ) : Type 0 where
  pub frame : Fits (layout_of f links) info red
  pub long : length kept ≡ kept_length (layout_of f links)
  pub numbers : Keeps (word_at (layout_of f links)) (word_total (layout_of f links)) (frame_of info red) (kept_of kept)

abbrev pub marks_in : Frames → List ℕ → List ℕ
marks_in f kept = drop (4 * (lines_in f.shape f.blocks * f.d.size)) kept

abbrev pub LineMarks : Frames → List ℕ → List ℕ → List ℕ → List ℕ → List ℕ → List ℕ → Type 0
LineMarks f info red kept info' red' kept' = MarksKept (frame_of info red) (marks_in f kept) (frame_of info' red') (marks_in f kept')

abbrev pub correction_at : Line → List ℕ → Frame → ℕ → List Site
correction_at line links f a = correction (params_of line.frames.d) f (line_word line links a)

abbrev pub KeptBut : Line → List ℕ → ℕ → Frame → List ℕ → Type 0
KeptBut line links a f b =
    KeepsBut (word_at (layout_of line.frames links)) (word_total (layout_of line.frames links)) (line.k * line.frames.d.size + a) f (kept_of b)

-- the last position's first
abbrev pub AddedAll : Line → List ℕ → ℕ → List ℕ → List ℕ → List ℕ → Type 0
AddedAll line links a ps b b' =
    Through (λ p. AddedAt (params_of line.frames.d) (word_total (layout_of line.frames links)) (places_at line links a p)) ps b b'
