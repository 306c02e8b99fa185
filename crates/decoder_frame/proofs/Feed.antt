-- Feed-forward frames among all kinds.
--   feed_lines, feed_total, feed_bits   their lines, words and bits of a word
--   feed_fits, feed_allowed             frames of an allowed design
--   feed_bytes                          the bytes of the kept numbers
-- Assumes nothing.
use mathlib.Core.Path.{◌≡◌, refl, ap, ◌∙◌}
use mathlib.Core.List.{List}
use Prim.Native.Nat.{ℕ, ◌*◌, ◌≤◌}
use Rattle.staircase.specs.Design.{Params, most-blocks, word_length}
use Rattle.staircase.specs.Frame.{groups}
use Rattle.staircase.specs.Lines.{word_count}
use Rattle.design.specs.declared.Design.{Design}
use Rattle.design.specs.Answers.{Allowed}
use Rattle.design.specs.Sizes.{params_of}
use Rattle.layout.specs.declared.Shape.TheVariants.{FeedForward}
use Rattle.layout.specs.declared.Frames.{Frames}
use Rattle.decoder_lines.specs.Links.{LinksFit}
use Rattle.layout.specs.Layouts.{lines_in, bits_in, AllowedIn, feed_frames}
use Rattle.decoder_lines.specs.Layouts.{LinkedIn, FramesFit}

pub feed_lines : (L : ℕ) → lines_in FeedForward L ≡ 2 * groups L
unfolding lines_in
feed_lines L = refl

pub feed_total : (d : Design) (L : ℕ) → lines_in FeedForward L * d.size ≡ word_count (params_of d) L
unfolding lines_in
feed_total d L = refl

pub feed_bits : (s : Params) → bits_in FeedForward s ≡ word_length s
unfolding bits_in
feed_bits s = refl

pub feed_fits : (d : Design) {L : ℕ} {links : List ℕ} → L ≤ most-blocks → Allowed d → LinksFit d links → FramesFit (feed_frames d L) links
unfolding AllowedIn LinkedIn
feed_fits d few A T = record { few-blocks = few; allowed = A; linked = T }

pub feed_allowed : {d : Design} {L : ℕ} {links : List ℕ} → FramesFit (feed_frames d L) links → Allowed d × LinksFit d links
unfolding AllowedIn LinkedIn
feed_allowed F = (F.allowed, F.linked)

pub feed_bytes : (d : Design) (L : ℕ) {f : Frames} {n : ℕ} → f ≡ feed_frames d L → n ≡ 4 * (lines_in f.shape f.blocks * f.d.size)
    → n ≡ 4 * word_count (params_of d) L
feed_bytes d L e h = h ∙ ap (λ (f : Frames). 4 * (lines_in f.shape f.blocks * f.d.size)) e ∙ ap (λ (z : ℕ). 4 * z) (feed_total d L)
