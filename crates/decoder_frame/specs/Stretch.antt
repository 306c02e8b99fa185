-- A window, as code holds it: steps of the decoder, which no promise names.
--   stretch_sites, stretch_words   the words of n lines, of which a line is the first, as they are read
--   read_window      those of a window
--   WindowFits      some groups of a frame, and an allowed number of rounds
-- Assumes nothing.
use Rattle.std.specs.Prelude.{List, ℕ, ◌+◌, ◌*◌, ◌≤◌}
use Rattle.staircase.specs.Design.{Params, Interleavers, most-rounds}
use Rattle.staircase.specs.Lists.{tabulate, concat}
use Rattle.staircase.specs.Frame.{Site, Word, plain, groups}
use Rattle.staircase.specs.Lines.{read_from}
use Rattle.staircase.specs.Window.{window_groups}
use Rattle.design.specs.Sizes.{params_of}
use Rattle.layout.specs.declared.Line.{Line}
use Rattle.decoder_lines.specs.Layouts.{layout_of}
use Rattle.decoder_frame.specs.declared.Window.{Window}

abbrev pub stretch_sites : Line → List ℕ → ℕ → List (List Site)
stretch_sites line links n = concat n (λ i. tabulate line.frames.d.size ((layout_of line.frames links).sites (line.k + i)))

abbrev pub stretch_words : Line → List ℕ → ℕ → List Word
stretch_words line links n = plain (params_of line.frames.d) (stretch_sites line links n)

abbrev pub read_window : Params → Interleavers → ℕ → ℕ → ℕ → List Word
read_window s l L v p = plain s (read_from s l L (2 * p) (2 * window_groups (groups L) v))

pub record WindowFits (L : ℕ) (w : Window) : Type 0 where
  pub some-groups : 1 ≤ w.groups
  pub all-groups : w.groups ≤ groups L
  pub some-rounds : 1 ≤ w.limit
  pub few-rounds : w.limit ≤ most-rounds
