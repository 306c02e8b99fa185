-- What the located positions of a word say of its correction.
--   ready_at                   what is asked of a line
--   table_powers               the table's first part has the powers of x
--   inside_frame               bits inside a frame's lengths are bytes of its buffers
--   word-remainder             the remainder of a word of a received frame has r bits
--   located-line               the located positions are positions of the word
--   none_found, all_found      the correction, by whether all of them are sent
-- Assumes nothing.
use mathlib.Core.Path.{◌≡◌, sym, ap, ◌∙◌, subst}
use mathlib.Core.Bool.{true, false}
use mathlib.Core.List.{List, [], map}
use Prim.Native.Nat.{ℕ, ◌*◌, ◌^◌, ◌<◌}
use native.Mathlib.Omega.{arith}
use lib.ListN.{length, get_or, take}
use lib.Seq.{length-take-le}
use Rattle.bch.specs.Polynomial.{remainder}
use Rattle.staircase.specs.Design.{Params}
use Rattle.staircase.specs.Frame.{Frame, Site, read, frame_of}
use Rattle.staircase.specs.Frame.Site.{unsent}
use Rattle.staircase.specs.Decoder.{all_sent, correction, flip_all}
use Rattle.staircase.specs.Layout.{Fits}
use Rattle.staircase.proofs.Flip.{Received}
use Rattle.staircase.proofs.Lawful.{Lawful, fits_received}
use Rattle.design.specs.Sizes.{params_of}
use Rattle.decoder_locator.specs.declared.Located.{Located}
use Rattle.decoder_locator.specs.declared.Located.TheVariants.{Nowhere}
use Rattle.decoder_locator.specs.Located.{located, positions_of}
use Rattle.decoder_locator.proofs.Correction.{remainder-small, located-below, correction-located}
use Rattle.decoder_flips.specs.declared.Spots.{Spots}
use Rattle.decoder_flips.specs.Sites.{AllInside, Below}
use Rattle.decoder_flips.proofs.Located.{all_inside, below_all}
use Rattle.layout.specs.declared.Frames.{Frames}
use Rattle.layout.specs.declared.Line.{Line}
use Rattle.layout.specs.Layouts.{lines_in, bits_in, red_in}
use Rattle.decoder_lines.specs.Layouts.{layout_of, line_word, PowersFit}
use Rattle.decoder_lines.proofs.Layouts.{lawful_of, r_some, g_degree}
use Rattle.decoder_words.specs.Ready.{WordTables, FramesReady, LineReady, correction_at}

pub ready_at : {f : Frames} {links tables field : List ℕ} (k : ℕ) → FramesReady f links tables field → k < lines_in f.shape f.blocks
    → LineReady (record { frames = f; k = k }) links tables field
ready_at k R h = record { fits = record { frames = R.fits; within = h }; word-tables = R.word-tables }

pub table_powers : {f : Frames} {tables field : List ℕ} → WordTables f tables field → PowersFit f (take (bits_in f.shape (params_of f.d)) tables)
table_powers {f} {tables} T =
    record { long = length-take-le (bits_in f.shape (params_of f.d)) tables (omega (arith, T.long)); powers = T.locator.words.position }

pub inside_frame : (s : Spots) (f : Frames) (links : List ℕ) {info red : List ℕ} → Fits (layout_of f links) info red
    → AllInside s (f.blocks * (f.d.size * f.d.size)) (red_in f.shape (params_of f.d) f.blocks) → AllInside s (length info) (length red)
inside_frame s f links F h = all_inside s F.info_length F.red_length h

module _ {line : Line} {links tables field : List ℕ} (R : LineReady line links tables field) {info red : List ℕ}
    (F : Fits (layout_of line.frames links) info red) (a : ℕ) {x : ℕ} (ha : a < line.frames.d.size)
    (e : x ≡ remainder (params_of line.frames.d).g (params_of line.frames.d).r (read (frame_of info red) (line_word line links a))) where
  abbrev s : Params
  s = params_of line.frames.d

  abbrev f : Frame
  f = frame_of info red

  abbrev w : List Site
  w = line_word line links a

  abbrev positions : List ℕ
  positions = take (bits_in line.frames.shape s) tables

  g : Received f f
  g = fits_received F

  A : Lawful (layout_of line.frames links)
  A = lawful_of R.fits.frames

  T : PowersFit line.frames positions
  T = table_powers R.word-tables

  long : length w ≡ bits_in line.frames.shape s
  long = A.long line.k a R.fits.within ha

  pub word-remainder : x < 2 ^ (line.frames.d.m * line.frames.d.t)
  word-remainder = remainder-small s g w e (r_some R.fits.frames) (g_degree R.fits.frames)

  module _ (z : Located) (h : positions_of z ≡ located (take (bits_in line.frames.shape (params_of line.frames.d)) tables) line.frames.d.t x) where
    pub located-line : Below (bits_in line.frames.shape (params_of line.frames.d)) (positions_of z)
    located-line =
        below_all (positions_of z) (λ j m. subst (λ (n : ℕ). j < n) long (located-below s g w e positions (T.long ∙ sym long) T.powers z h j m))

    module _ {c : List Site} (sites : c ≡ map (λ j. get_or (line_word line links a) j unsent) (positions_of z)) where
      pub none_found : all_sent c ≡ false
          → (frame_of info red ≡ flip_all (correction_at line links (frame_of info red) a) (frame_of info red))
          × (correction_at line links (frame_of info red) a ≡ map (λ j. get_or (line_word line links a) j unsent) (positions_of Nowhere))
          × Below (bits_in line.frames.shape (params_of line.frames.d)) (positions_of Nowhere)
      unfolding flip_all positions_of Below
      none_found q =
          let r : correction s f w ≡ [] =
          correction-located s g w e positions (T.long ∙ sym long) T.powers z h (A.distinct line.k a R.fits.within ha) sites false q in
          (ap (λ (y : List Site). flip_all y f) (sym r), r, tt)

      pub all_found : all_sent c ≡ true → {f' : Frame} → f' ≡ flip_all c (frame_of info red)
          → (f' ≡ flip_all (correction_at line links (frame_of info red) a) (frame_of info red))
          × (correction_at line links (frame_of info red) a ≡ map (λ j. get_or (line_word line links a) j unsent) (positions_of z))
          × Below (bits_in line.frames.shape (params_of line.frames.d)) (positions_of z)
      all_found q p =
          let r : correction s f w ≡ c =
          correction-located s g w e positions (T.long ∙ sym long) T.powers z h (A.distinct line.k a R.fits.within ha) sites true q in
          (p ∙ ap (λ (y : List Site). flip_all y f) (sym r), r ∙ sites, located-line)
