-- Marks of the sent bits of a frame, eight in a byte, the lowest first: a bit is marked where it is not the one that was received. The marks of the
-- information come first, those of the redundancy behind them.
--   sent_bits       the sent bits of a frame, in the order of their marks
--   Toggled        mark k is the other, and all others are as they were
--   set_marks       how many marks are set
--   Marked         the marks of a frame beside the received one
--   MarksKept      marks that were right beside any received frame are right again
-- Assumes nothing.
use Rattle.std.specs.Prelude.{◌≡◌, ◌≢◌, List, [], ◌∷◌, ◌++◌, ℕ, ◌+◌, ◌-◌, length, get_or}
use Rattle.std.specs.Int.Count.{ones_in}
use Rattle.bch.specs.Polynomial.{Bits}
use Rattle.bch.specs.Code.{unlike}
use Rattle.staircase.specs.Frame.{Frame}
use Rattle.matrix.specs.Packed.{packed_bit}

abbrev pub sent_bits : Frame → List ℕ
sent_bits f = f.info ++ f.red

pub record Toggled (before after : List ℕ) (k : ℕ) : Type 0 where
  pub long : length after ≡ length before
  pub here : packed_bit after k ≡ 1 - packed_bit before k
  pub others : (j : ℕ) → j ≢ k → packed_bit after j ≡ packed_bit before j

unfoldable pub set_marks : List ℕ → ℕ
set_marks [] = 0
set_marks (b ∷ marks) = ones_in 8 b + set_marks marks

-- f is the frame that was received, g the one that it has become; past their bits no mark is set
pub record Marked (f g : Frame) (marks : List ℕ) : Type 0 where
  pub info_length : length f.info ≡ length g.info
  pub red_length : length f.red ≡ length g.red
  pub bits : Bits (sent_bits f)
  pub mark : (k : ℕ) → packed_bit marks k ≡ unlike (get_or (sent_bits f) k 0) (get_or (sent_bits g) k 0)

abbrev pub MarksKept : Frame → List ℕ → Frame → List ℕ → Type 0
MarksKept g before h after = (f : Frame) → Marked f g before → Marked f h after
