-- Document 02, "Original staircase frames": the rules that are theirs.
--   row_length s               2M
--   row_long_rule, thin_rule     rule 2 with 2M for n; rule 19
--   original_rules             rules 1, 2 and 19, those of a design
--   in_information, info_bits   the columns of the information, and rule 10 over them
--   original_work              the decoder's working length
--   Original m t M col        the design is an allowed one
-- Assumes nothing.
use Rattle.std.specs.Prelude.{Bool, false, cond, List, ℕ, ◌+◌, ◌-◌, ◌*◌, ◌/◌, ◌%◌, ◌^◌, ◌≤◌, ◌<◌, ltb, leb, get_or, length}
use Rattle.staircase.specs.Design.{Params, params, least_m, most-m, most-t, most-M, most-col}
use Rattle.staircase.specs.Rules.{Verdict, ◌then◌, refuse, refuse_first, size_rule, info_length}

-- "Word length is 2M"
abbrev pub row_length : Params → ℕ
row_length s = 2 * s.M

-- "Rule 2 reads 2M for n"
unfoldable pub row_long_rule : ℕ → Params → Verdict
row_long_rule m s = refuse (ltb (2 ^ m - 1) (row_length s)) 2 (row_length s)

-- "19 thin, after 2, when r is at least M; the place is r"
unfoldable pub thin_rule : Params → Verdict
thin_rule s = refuse (leb s.M s.r) 19 s.r

-- "rule 3 doesn't apply"
unfoldable pub original_rules : ℕ → ℕ → ℕ → ℕ → Verdict
original_rules m t M col = size_rule m t M col then row_long_rule m (params m t M col) then thin_rule (params m t M col)

-- byte k of the buffer is in none of the last r columns of its block
abbrev pub in_information : Params → ℕ → Bool
in_information s k = ltb (k % s.M) (s.M - s.r)

-- "the encoder doesn't judge old parity by rule 10"
unfoldable pub info_bits : Params → List ℕ → Verdict
info_bits s l = refuse_first 10 0 (length l) (λ k. cond (in_information s k) (ltb 1 (get_or l k 0)) false)

-- four bytes for each word, and a mark for each bit, eight in a byte
unfoldable pub original_work : Params → ℕ → ℕ
original_work s L = 4 * (L * s.M) + (info_length s L + 7) / 8

-- what rules 1, 2 and 19 let through
pub record Original (m t M col : ℕ) : Type 0 where
  pub m-low : least_m ≤ m
  pub m-high : m ≤ most-m
  pub t-low : 1 ≤ t
  pub t-high : t ≤ most-t
  pub M-high : M ≤ most-M
  pub col-high : col ≤ most-col
  pub long : 2 * M ≤ 2 ^ m - 1
  pub thin : m * t < M
