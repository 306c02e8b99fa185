-- Document 02, "Clean, mended or stuck": what correcting a word comes to, and the stuck verdicts of the last round made. As in specs/Decoder.antt, any
-- list of words over sites will do, each with its code.
--   Outcome, outcome        clean, corrected or stuck
--   flips_of, stuck_of        the flips of an outcome, and whether it is stuck, as a number
--   stuck_each, stuck_among   the stuck verdicts of a round, and those of words of one code
--   before_last              the frame before the last round made
--   last_stuck               the stuck verdicts of the last round made
-- Assumes nothing.
use Rattle.std.specs.Prelude.{cond, List, [], ◌∷◌, ℕ, zero, suc, ◌+◌, eqb, length}
use Rattle.staircase.specs.Design.{Params}
use Rattle.staircase.specs.Frame.{Frame, Site, Word, plain, in_code}
use Rattle.staircase.specs.Decoder.{correction, flip_all, Progress, round_of}

-- "clean (already a codeword), mended with the number of bits, or stuck"
pub data Outcome : Type 0 where
  clean : Outcome
  corrected : ℕ → Outcome
  stuck : Outcome

-- of a word that is no codeword, by the number of bits that correcting it flips
abbrev pub corrected_bits : ℕ → Outcome
corrected_bits zero = stuck
corrected_bits (suc n) = corrected (suc n)

unfoldable pub outcome : Params → Frame → List Site → Outcome
outcome s f w = cond (in_code s f w) clean (corrected_bits (length (correction s f w)))

abbrev pub flips_of : Outcome → ℕ
flips_of clean = 0
flips_of (corrected n) = n
flips_of stuck = 0

abbrev pub stuck_of : Outcome → ℕ
stuck_of clean = 0
stuck_of (corrected n) = 0
stuck_of stuck = 1

-- each word as the words before it leave the frame
unfoldable pub stuck_each : Frame → List Word → ℕ
stuck_each f [] = 0
stuck_each f (w ∷ ws) = stuck_of (outcome w.code f w.sites) + stuck_each (flip_all (correction w.code f w.sites) f) ws

unfoldable pub stuck_among : Params → Frame → List (List Site) → ℕ
stuck_among s f ws = stuck_each f (plain s ws)

-- The last round made is the first that flips nothing, or the last allowed one.
unfoldable pub before_last : List Word → ℕ → Frame → Frame
before_last ws zero f = f
before_last ws (suc k) f =
    let x : Progress = round_of ws f in
    cond (eqb x.flips 0) f (cond (eqb k 0) f (before_last ws k x.frame))

-- "the number of stuck verdicts in the last round made"
unfoldable pub last_stuck : List Word → ℕ → Frame → ℕ
last_stuck ws k f = stuck_each (before_last ws k f) ws
