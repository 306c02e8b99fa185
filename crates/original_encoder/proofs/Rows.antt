-- The rows of a block as words of a line.
--   rows_lent, rows_are    what a line is lent, and its remainders
--   rows-allowed, row-bits, no_tail   a design that is let through; the bits of a row, of which none is behind the blocks
-- Assumes nothing.
use mathlib.Core.Path.{◌≡◌, refl}
use mathlib.Core.Bool.{false}
use mathlib.Core.List.{List, []}
use Prim.Native.Nat.{ℕ, ◌<◌}
use Rattle.staircase.specs.Design.{Params}
use Rattle.design.specs.declared.Design.{Design}
use Rattle.design.specs.Answers.{AllowedOriginal}
use Rattle.design.specs.Sizes.{params_of}
use Rattle.layout.specs.declared.Shape.TheVariants.{Original}
use Rattle.layout.specs.Layouts.{row_frames, lines_in, bits_in, tail_in, turned_in, sites_in, AllowedIn}
use Rattle.original.specs.Frame.{buffer_of}
use Rattle.original.specs.Rules.{row_length}
use Rattle.original_rows.specs.Rows.{BufferFits}
use Rattle.words_tables.specs.Tables.{MayParts}
use Rattle.words_lines.specs.Words.{layout_with, line_remainders, ReadTable}
use Rattle.words_lines.proofs.Lent.{buffer_lent}
use Rattle.words_lines.proofs.Lines.{LineLent}
use Rattle.original_encoder.specs.Written.{row_remainders}

pub rows_lent : {d : Design} {L : ℕ} {l : List ℕ} (b : ℕ) (positions tables : List ℕ) {w : ℕ} → BufferFits d L l → b < L → ReadTable Original (params_of d) false positions
    → w ≡ d.size → MayParts positions d.size (tail_in Original (params_of d)) tables → LineLent (record { frames = row_frames d L; k = b }) [] [] l [] positions tables w
unfolding lines_in turned_in
rows_lent {d} {L} {l} b positions tables F hb T e P = (buffer_lent d L l F.allowed F.few-blocks F.long F.bits, hb, T, e, P)

pub rows_are : (d : Design) (L : ℕ) (l : List ℕ) (b : ℕ) → line_remainders (layout_with (row_frames d L) [] []) (buffer_of l) b ≡ row_remainders (params_of d) l b
unfolding sites_in row_remainders
rows_are d L l b = refl

pub rows-allowed : {d : Design} → AllowedOriginal d → AllowedIn Original d
unfolding AllowedIn
rows-allowed A = A

pub no_tail : (s : Params) → 0 ≡ tail_in Original s
unfolding tail_in
no_tail s = refl

pub row-bits : (s : Params) → row_length s ≡ bits_in Original s
unfolding bits_in
row-bits s = refl
