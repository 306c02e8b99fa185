-- What the rules leave of the lists and of a received frame.
--   ListsFit    lists of their lengths that are permutations
--   FrameFits   buffers of their lengths that hold bits
--   Received    what rules 1 to 7 and 10 leave of a design, its lists and a frame
-- Assumes nothing.
use Rattle.std.specs.Prelude.{◌≡◌, List, ℕ, ◌*◌, ◌≤◌, length, get_or}
use Rattle.bch.specs.Polynomial.{Bits}
use Rattle.staircase.specs.Design.{most-blocks}
use Rattle.staircase.specs.Frame.{groups}
use Rattle.staircase.specs.Demand2.{Permutes}
use Rattle.design.specs.declared.Design.{Design}
use Rattle.design.specs.Answers.{Allowed}
use Rattle.design.specs.Sizes.{order_of, lists_of}

pub record ListsFit (d : Design) (own parity : List ℕ) : Type 0 where
  pub own_length : length own ≡ 2 * order_of d
  pub parity_length : length parity ≡ 2 * order_of d
  pub own_permutes : Permutes (order_of d) (λ p. get_or (lists_of d own parity).self p 0)
  pub parity_permutes : Permutes (order_of d) (λ p. get_or (lists_of d own parity).parity p 0)

pub record FrameFits (d : Design) (L : ℕ) (info red : List ℕ) : Type 0 where
  pub info_length : length info ≡ L * (d.size * d.size)
  pub red_length : length red ≡ groups L * (2 * order_of d)
  pub info_bits : Bits info
  pub red_bits : Bits red

pub record Received (d : Design) (L : ℕ) (own parity info red : List ℕ) : Type 0 where
  pub allowed : Allowed d
  pub some-blocks : 1 ≤ L
  pub few-blocks : L ≤ most-blocks
  pub lists : ListsFit d own parity
  pub frame : FrameFits d L info red
