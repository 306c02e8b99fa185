-- The positions of a window, one after the other.
--   window-at                  the words of a window that begins at a line
--   slide_none, slide_next     no position, and one position more
--   stuck_next                 the stuck words of the last of the rounds at a position
-- Assumes nothing.
use mathlib.Core.Path.{◌≡◌, refl, sym, ap, ◌∙◌}
use mathlib.Core.List.{List}
use Prim.Native.Nat.{ℕ, ◌+◌, ◌*◌, ◌≤◌}
use native.Mathlib.Numerals.{add-one}
use native.Mathlib.Omega.{arith}
use Rattle.staircase.specs.Frame.{Frame, Word, plain, groups}
use Rattle.staircase.specs.Lines.{read_from}
use Rattle.staircase.specs.Decoder.{Decoded, run_each}
use Rattle.staircase.specs.Outcomes.{last_stuck}
use Rattle.staircase.specs.Window.{window_groups, slide, slide_stuck}
use Rattle.design.specs.Sizes.{params_of}
use Rattle.design.specs.declared.Design.{Design}
use Rattle.layout.specs.Layouts.{sites_in, feed_frames}
use Rattle.decoder_lines.specs.Links.{lists_in}
use Rattle.decoder_frame.specs.Stretch.{stretch_words, read_window}

pub window-at : (d : Design) (L : ℕ) (links : List ℕ) (p g : ℕ) → g ≤ groups L
    → stretch_words (record { frames = feed_frames d L; k = 2 * p }) links (2 * g) ≡ read_window (params_of d) (lists_in d links) L g p
unfolding sites_in
window-at d L links p g h =
    let e : g ≡ window_groups (groups L) g = omega (arith, h) in
    ap (λ (n : ℕ). plain (params_of d) (read_from (params_of d) (lists_in d links) L (2 * p) (2 * n))) e

module _ (W : ℕ → List Word) (K : ℕ) (f : Frame) where
  pub slide_none : record { frame = f; rounds = 0; flips = 0 } ≡ slide W 0 K f
  unfolding slide
  slide_none = refl

  abbrev next : Decoded → Decoded → Decoded
  next before here = record { frame = here.frame; rounds = before.rounds + here.rounds; flips = before.flips + here.flips }

  module _ (n : ℕ) (x : Decoded) (e : x ≡ slide W n K f) where
    pub slide_next : (y : Decoded) → y ≡ run_each (W n) K x.frame
        → record { frame = y.frame; rounds = x.rounds + y.rounds; flips = x.flips + y.flips } ≡ slide W (n + 1) K f
    unfolding slide
    slide_next y h =
        ap (next x) h ∙ ap (λ (z : Decoded). next z (run_each (W n) K z.frame)) e ∙ ap (λ (m : ℕ). slide W m K f) (sym (add-one n))

    pub stuck_next : (m : ℕ) → m ≡ last_stuck (W n) K x.frame → (q : ℕ) → n + 1 ≡ q + 1 → m ≡ slide_stuck W q K f
    unfolding slide_stuck
    stuck_next m h q same =
        let i : n ≡ q = omega (arith, same) in
        h ∙ ap (λ (z : Decoded). last_stuck (W n) K z.frame) e ∙ ap (λ (j : ℕ). last_stuck (W j) K (slide W j K f).frame) i
