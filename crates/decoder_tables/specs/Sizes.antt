-- What is asked of the sizes of a code's words: steps of the decoder, which no promise names.
--   WordSizes    m and t of a code, and the length of its words
-- Assumes nothing.
use Rattle.std.specs.Prelude.{ℕ, ◌+◌, ◌-◌, ◌*◌, ◌^◌, ◌≤◌, ◌<◌}

pub record WordSizes (m t n : ℕ) : Type 0 where
  pub m-low : 4 ≤ m
  pub m-high : m ≤ 10
  pub t-low : 1 ≤ t
  pub t-high : t ≤ 3
  pub fits : 2 * (m * t) + 2 < 2 ^ m
  pub n_low : m * t + 3 ≤ n
  pub n_high : n ≤ 2 ^ m - 1
