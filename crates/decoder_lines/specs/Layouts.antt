-- Frames under a table of links, as layouts: steps of the decoder, which no promise names.
--   layout_of                 the layout of some frames
--   LinkedIn, FramesFit      links that a kind asks for; frames of a design that is let through
--   LineFits                 a line of such frames
--   line_word, straight_word, places_at   word a of a line, as it is read and as it is written, and where else the bit at a position of it stands
--   PowersFit                the powers of x at the positions of a word
-- Assumes nothing.
use Rattle.std.specs.Prelude.{◌≡◌, List, ℕ, ◌≤◌, ◌<◌, length}
use Rattle.bch.specs.Powers.{PositionPowers}
use Rattle.staircase.specs.Design.{most-blocks}
use Rattle.staircase.specs.Frame.{Site}
use Rattle.staircase.specs.Layout.{Place, Layout}
use Rattle.design.specs.declared.Design.{Design}
use Rattle.design.specs.Sizes.{params_of}
use Rattle.layout.specs.declared.Shape.{Shape}
use Rattle.layout.specs.declared.Shape.TheVariants.{FeedForward, Original}
use Rattle.layout.specs.declared.Frames.{Frames}
use Rattle.layout.specs.declared.Line.{Line}
use Rattle.layout.specs.Layouts.{lines_in, bits_in, straight_in, layout_in, AllowedIn}
use Rattle.decoder_lines.specs.Links.{lists_in, LinksFit}

abbrev pub layout_of : Frames → List ℕ → Layout
layout_of f links = layout_in f.shape (params_of f.d) (lists_in f.d links) f.blocks

unfoldable pub LinkedIn : Shape → Design → List ℕ → Type 0
LinkedIn FeedForward d links = LinksFit d links
LinkedIn Original d links = Unit

pub record FramesFit (f : Frames) (links : List ℕ) : Type 0 where
  pub few-blocks : f.blocks ≤ most-blocks
  pub allowed : AllowedIn f.shape f.d
  pub linked : LinkedIn f.shape f.d links

pub record LineFits (line : Line) (links : List ℕ) : Type 0 where
  pub frames : FramesFit line.frames links
  pub within : line.k < lines_in line.frames.shape line.frames.blocks

abbrev pub line_word : Line → List ℕ → ℕ → List Site
line_word line links a = (layout_of line.frames links).sites line.k a

abbrev pub straight_word : Line → List ℕ → ℕ → List Site
straight_word line links a =
    straight_in line.frames.shape (params_of line.frames.d) (lists_in line.frames.d links) line.frames.blocks line.k a

abbrev pub places_at : Line → List ℕ → ℕ → ℕ → List Place
places_at line links a p = (layout_of line.frames links).others line.k a p

pub record PowersFit (f : Frames) (positions : List ℕ) : Type 0 where
  pub long : length positions ≡ bits_in f.shape (params_of f.d)
  pub powers : PositionPowers (params_of f.d).g (params_of f.d).r positions
