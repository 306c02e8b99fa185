-- Where the bits of a word that are to be flipped stand, by what code has at hand.
--   sites_of      document 01's site of a bit, in a list; none for no bit
--   Inside       a bit that is sent is a byte of buffers of these lengths
--   listed       the sites of at most three bits
--   AllInside    those that are sent are bytes of buffers of these lengths
--   Below        positions of a word
--   Flippable    buffers of bits, with a mark for each of them
-- Assumes nothing.
use Rattle.std.specs.Prelude.{List, [], ◌∷◌, ◌++◌, ℕ, ◌+◌, ◌*◌, ◌≤◌, ◌<◌, length}
use Rattle.bch.specs.Polynomial.{Bits}
use Rattle.staircase.specs.Frame.{Site}
use Rattle.staircase.specs.Frame.Site.{unsent, in_info, in_red}
use Rattle.decoder_flips.specs.declared.BitSite.{BitSite}
use Rattle.decoder_flips.specs.declared.BitSite.TheVariants.{Absent, Unsent, Info, Red}
use Rattle.decoder_flips.specs.declared.Spots.{Spots}

unfoldable pub sites_of : BitSite → List Site
sites_of Absent = []
sites_of Unsent = unsent ∷ []
sites_of (Info k) = in_info k ∷ []
sites_of (Red k) = in_red k ∷ []

unfoldable pub Inside : BitSite → ℕ → ℕ → Type 0
Inside Absent n k = Unit
Inside Unsent n k = Unit
Inside (Info j) n k = j < n
Inside (Red j) n k = j < k

unfoldable pub listed : Spots → List Site
listed s = sites_of s.x ++ (sites_of s.y ++ sites_of s.z)

abbrev pub AllInside : Spots → ℕ → ℕ → Type 0
AllInside s n k = Inside s.x n k × Inside s.y n k × Inside s.z n k

unfoldable pub Below : ℕ → List ℕ → Type 0
Below n [] = Unit
Below n (j ∷ c) = (j < n) × Below n c

pub record Flippable (info red marks : List ℕ) : Type 0 where
  pub info_bits : Bits info
  pub red_bits : Bits red
  pub room : length info + length red ≤ 8 * length marks
  pub short : length info + length red < 1152921504606846976
