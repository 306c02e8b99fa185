-- The words of original frames as a layout: a step of the decoder, which no promise names.
--   staircase_rows    line b has the words of the rows of the block that b blocks precede
-- Assumes nothing.
use Rattle.std.specs.Prelude.{[], ◌∷◌, ℕ, ◌*◌}
use Rattle.staircase.specs.Design.{Params}
use Rattle.staircase.specs.Layout.{Layout, place_of}
use Rattle.original.specs.Frame.{row_sites}
use Rattle.original.specs.Rules.{row_length}
use Rattle.original.specs.Crossing.{row_crossing}

abbrev pub staircase_rows : Params → ℕ → Layout
staircase_rows s L = record {
  code = s;
  lines = L;
  bits = λ b. row_length s;
  sites = row_sites s;
  others = λ b a p. place_of s (row_length s) (row_crossing s b a p) ∷ [];
  info = L * (s.M * s.M);
  red = 0;
}
