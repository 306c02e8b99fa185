-- The words of any kind of frame: steps of the decoder, which no promise names. The words stand in lines of M, and all are of one code: a word of the
-- mirrored code is one whose sites are read backwards.
--   Place                a word by its number, and the power of x that a bit has in it
--   Layout               a kind of frame: its words, where else a bit of a word stands, and its lengths
--   word_total, word_at    its words by their numbers, k × M + a
--   powers_at, met_at      what a word gets from a flipped bit that has some places, and whether one of them is in it
--   kept_length           the bytes that are kept of it: four for each word, and a mark for each bit, eight in a byte
--   Fits                 buffers of bits, as long as its own
--   place_of              the place of a position of a word of n bits
-- Assumes nothing.
use Rattle.std.specs.Prelude.{◌≡◌, Bool, true, false, cond, List, [], ◌∷◌, ℕ, ◌+◌, ◌-◌, ◌*◌, ◌/◌, ◌%◌, eqb, length}
use Rattle.bch.specs.Polynomial.{◌⊕◌, Bits}
use Rattle.bch.specs.Powers.{power_mod}
use Rattle.staircase.specs.Design.{Params, Interleavers, word_length, order}
use Rattle.staircase.specs.Frame.{Site, Word, word, groups}
use Rattle.staircase.specs.Lines.{Incidence, read_sites, read_crossing}

pub record Place : Type 0 where
  pub word : ℕ
  pub exponent : ℕ

pub record Layout : Type 0 where
  pub code : Params
  pub lines : ℕ
  -- the bits of each word of line k
  pub bits : ℕ → ℕ
  -- of word a of line k
  pub sites : ℕ → ℕ → List Site
  -- the places in other words of the bit at position p of word a of line k; those in words that the frame does not have count for nothing
  pub others : ℕ → ℕ → ℕ → List Place
  pub info : ℕ
  pub red : ℕ

abbrev pub word_total : Layout → ℕ
word_total G = G.lines * G.code.M

abbrev pub word_at : Layout → ℕ → Word
word_at G w = word G.code (G.sites (w / G.code.M) (w % G.code.M))

unfoldable pub powers_at : Params → List Place → ℕ → ℕ
powers_at s [] w = 0
powers_at s (c ∷ cs) w = cond (eqb c.word w) (power_mod s.g s.r c.exponent) 0 ⊕ powers_at s cs w

unfoldable pub met_at : List Place → ℕ → Bool
met_at [] w = false
met_at (c ∷ cs) w = cond (eqb c.word w) true (met_at cs w)

abbrev pub kept_length : Layout → ℕ
kept_length G = 4 * word_total G + (G.info + G.red + 7) / 8

pub record Fits (G : Layout) (info red : List ℕ) : Type 0 where
  pub info_length : length info ≡ G.info
  pub red_length : length red ≡ G.red
  pub info_bits : Bits info
  pub red_bits : Bits red

abbrev pub place_of : Params → ℕ → Incidence → Place
place_of s n c = record { word = c.line * s.M + c.word; exponent = n - 1 - c.position }

-- feed-forward frames: column words of the mirrored code are read backwards
abbrev pub feed_forward : Params → Interleavers → ℕ → Layout
feed_forward s l L = record {
  code = s;
  lines = 2 * groups L;
  bits = λ k. word_length s;
  sites = read_sites s l L;
  others = λ k a p. place_of s (word_length s) (read_crossing s l k a p) ∷ [];
  info = L * (s.M * s.M);
  red = groups L * (2 * order s);
}
