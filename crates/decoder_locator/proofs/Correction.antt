-- What the located positions of a word of any frame say of its correction.
--   remainder-small    the remainder of a word has r bits
--   located-below      the located positions are positions of the word
--   correction-located the correction is their sites, if all of these are sent
-- Assumes nothing.
use mathlib.Core.Path.{◌≡◌, sym, ap, ◌∙◌, subst}
use mathlib.Core.Bool.{Bool, cond}
use mathlib.Core.List.{List, [], map}
use Prim.Native.Nat.{ℕ, ◌/◌, ◌^◌, ◌<◌}
use lib.ListN.{length, get_or}
use Rattle.bch.specs.Polynomial.{Bits, remainder}
use Rattle.bch.specs.Powers.{PositionPowers}
use Rattle.bch.proofs.Word.{remainder-below}
use Rattle.staircase.specs.Design.{Params}
use Rattle.staircase.specs.Frame.{Frame, Site, read}
use Rattle.staircase.specs.Frame.Site.{unsent}
use Rattle.staircase.specs.Decoder.{all_sent, error_positions, correction}
use Rattle.staircase.proofs.Member.{In}
use Rattle.staircase.proofs.Flip.{Received, Distinct, read-bits, read_length}
use Rattle.staircase.proofs.Occurrences.{correction_distinct}
use Rattle.staircase.proofs.Errors.{error_positions-positions, positions-below}
use Rattle.decoder_locator.specs.declared.Located.{Located}
use Rattle.decoder_locator.specs.Located.{located, positions_of}
use Rattle.decoder_locator.proofs.ErrorPositions.{error_positions-located}

module _ (s : Params) {f : Frame} (g : Received f f) (w : List Site) {x : ℕ} (e : x ≡ remainder s.g s.r (read f w)) where
  word-bits : Bits (read f w)
  word-bits = read-bits f f g w

  pub remainder-small : 0 < s.r → s.g / 2 ^ s.r ≡ 1 → x < 2 ^ s.r
  remainder-small some degree = subst (λ (z : ℕ). z < 2 ^ s.r) (sym e) (remainder-below s.g s.r some degree (read f w) word-bits)

  module _ (positions : List ℕ) (long : length positions ≡ length w) (powers : PositionPowers s.g s.r positions) where
    found : error_positions s (read f w) ≡ located positions s.t x
    found = error_positions-located s (read f w) positions word-bits (long ∙ sym (read_length f w)) powers ∙ ap (located positions s.t) (sym e)

    module _ (z : Located) (h : positions_of z ≡ located positions s.t x) where
      pub located-below : (j : ℕ) → In j (positions_of z) → j < length w
      located-below j m =
          subst (λ (n : ℕ). j < n) (read_length f w)
          (positions-below (error_positions-positions s (read f w)) j (subst (λ (c : List ℕ). In j c) (h ∙ sym found) m))

      pub correction-located : Distinct w → {c : List Site} → c ≡ map (λ j. get_or w j unsent) (positions_of z) → (b : Bool) → all_sent c ≡ b
          → correction s f w ≡ cond b c []
      correction-located distinct {c} sites b q =
          let v : List ℕ → List Site = map (λ j. get_or w j unsent) in
          let same : v (error_positions s (read f w)) ≡ c = ap v (found ∙ sym h) ∙ sym sites in
          correction_distinct s f w distinct ∙ ap (λ (y : List Site). cond (all_sent y) y []) same ∙ ap (λ (y : Bool). cond y c []) q
