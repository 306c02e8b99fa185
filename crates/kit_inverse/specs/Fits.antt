-- What a design and the slices of a kit are once rules 1 to 7 have passed.
--   KitSized   an allowed design, and slices of their lengths
--   KitFits    and lists that are permutations
-- Assumes nothing.
use Rattle.std.specs.Prelude.{◌≡◌, List, ℕ, ◌*◌, length, get_or}
use Rattle.staircase.specs.System.{row_bytes}
use Rattle.staircase.specs.Demand2.{Permutes}
use Rattle.design.specs.declared.Design.{Design}
use Rattle.design.specs.Answers.{Allowed}
use Rattle.design.specs.Sizes.{order_of, lists_of}

pub record KitSized (d : Design) (own parity inverse work : List ℕ) : Type 0 where
  pub allowed : Allowed d
  pub own_length : length own ≡ 2 * order_of d
  pub parity_length : length parity ≡ 2 * order_of d
  pub inverse_length : length inverse ≡ order_of d * row_bytes (order_of d)
  pub work_length : length work ≡ order_of d * row_bytes (order_of d)

pub record KitFits (d : Design) (own parity inverse work : List ℕ) : Type 0 where
  pub sized : KitSized d own parity inverse work
  pub own_permutes : Permutes (order_of d) (λ p. get_or (lists_of d own parity).self p 0)
  pub parity_permutes : Permutes (order_of d) (λ p. get_or (lists_of d own parity).parity p 0)
