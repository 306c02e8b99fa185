-- The kept numbers of a frame of any kind, as they are filled: steps of the decoder, which no promise names.
--   remainder_at             the remainder of word a of line k
--   LineFilled, PassFilled  the numbers of a line are filled, if the pass takes it, and all others are as they were; those of the first n lines
--   Filled                  all numbers are the remainders of the frame's words
-- Assumes nothing.
use Rattle.std.specs.Prelude.{◌≡◌, true, false, List, ℕ, ◌+◌, ◌*◌, ◌<◌}
use Rattle.bch.specs.Polynomial.{remainder}
use Rattle.staircase.specs.Frame.{Frame, read}
use Rattle.design.specs.Sizes.{params_of}
use Rattle.decoder_kept.specs.Numbers.{kept_at}
use Rattle.layout.specs.declared.Frames.{Frames}
use Rattle.layout.specs.declared.Pass.{Pass}
use Rattle.layout.specs.declared.PassLine.{PassLine}
use Rattle.layout.specs.Layouts.{lines_in, taken_in}
use Rattle.words_lines.specs.Words.{layout_with}

abbrev pub remainder_at : Frames → List ℕ → List ℕ → Frame → ℕ → ℕ → ℕ
remainder_at g own parity f k a = remainder (params_of g.d).g (params_of g.d).r (read f ((layout_with g own parity).sites k a))

abbrev pub LineFilled : PassLine → List ℕ → List ℕ → Frame → List ℕ → List ℕ → Type 0
LineFilled at own parity f old new =
    ((a : ℕ) → a < at.pass.frames.d.size → taken_in at.pass.frames.shape (params_of at.pass.frames.d) at.pass.back at.k ≡ true
    → kept_at new (at.k * at.pass.frames.d.size + a) ≡ remainder_at at.pass.frames own parity f at.k a)
    × ((k a : ℕ) → a < at.pass.frames.d.size
    → (k ≡ at.k → taken_in at.pass.frames.shape (params_of at.pass.frames.d) at.pass.back at.k ≡ false)
    → kept_at new (k * at.pass.frames.d.size + a) ≡ kept_at old (k * at.pass.frames.d.size + a))

abbrev pub PassFilled : Pass → List ℕ → List ℕ → Frame → ℕ → List ℕ → List ℕ → Type 0
PassFilled pass own parity f n old new =
    ((k a : ℕ) → k < n → a < pass.frames.d.size → taken_in pass.frames.shape (params_of pass.frames.d) pass.back k ≡ true
    → kept_at new (k * pass.frames.d.size + a) ≡ remainder_at pass.frames own parity f k a)
    × ((k a : ℕ) → a < pass.frames.d.size → (k < n → taken_in pass.frames.shape (params_of pass.frames.d) pass.back k ≡ false)
    → kept_at new (k * pass.frames.d.size + a) ≡ kept_at old (k * pass.frames.d.size + a))

abbrev pub Filled : Frames → List ℕ → List ℕ → Frame → List ℕ → Type 0
Filled g own parity f numbers =
    (k a : ℕ) → k < lines_in g.shape g.blocks → a < g.d.size → kept_at numbers (k * g.d.size + a) ≡ remainder_at g own parity f k a
