-- Tables of sums, by exclusive or: the 256 sums of eight entries of a list, for each eight of them.
--   sum_at entries n v      the sum of those of the first n entries whose bit of v is one
--   table_entry entries q   entry q of tables of 256 sums each, of eight entries after eight
--   Sums part tables       the tables are those of the entries of `part`; behind its last entry they count as 0
--   part_of l from n        n entries of a list, from entry `from` on
--   MaySum, MayHalves      there are no tables, or they are those of a part; of two parts of equal length, one after the other
--   table_length n          how long the tables of n entries are
--   MayParts               there are no tables, or they are those of the four parts of a word's positions
-- Assumes nothing.
use Rattle.std.specs.Prelude.{◌≡◌, List, ℕ, ◌+◌, ◌*◌, ◌/◌, ◌%◌, ◌^◌, ◌≤◌, ◌<◌, length, get_or, take, drop}
use Rattle.bch.specs.Powers.{xor_sum}

unfoldable pub sum_at : (ℕ → ℕ) → ℕ → ℕ → ℕ
sum_at entries n v = xor_sum n (λ i. v / 2 ^ i % 2 * entries i)

unfoldable pub table_entry : (ℕ → ℕ) → ℕ → ℕ
table_entry entries q = sum_at (λ i. entries (8 * (q / 256) + i)) 8 (q % 256)

pub record Sums (part tables : List ℕ) : Type 0 where
  pub few : length part ≤ 512
  pub long : length tables ≡ 256 * ((length part + 7) / 8)
  pub sums : (q : ℕ) → q < length tables → get_or tables q 0 ≡ table_entry (λ k. get_or part k 0) q

abbrev pub part_of : List ℕ → ℕ → ℕ → List ℕ
part_of l from n = take n (drop from l)

abbrev pub MaySum : List ℕ → List ℕ → Type 0
MaySum part tables = 0 < length tables → Sums part tables

-- the parts of a table of powers of x that the two blocks of a word have, of `size` entries each, and a half of the tables for each
pub record MayHalves (positions : List ℕ) (size : ℕ) (tables : List ℕ) : Type 0 where
  pub first : MaySum (part_of positions 0 size) (part_of tables 0 (length tables / 2))
  pub second : MaySum (part_of positions size size) (part_of tables (length tables / 2) (length tables / 2))

unfoldable pub table_length : ℕ → ℕ
table_length n = 256 * ((n + 7) / 8)

-- the parts that the two blocks of a word have, of `size` entries each, and the two stretches of its redundancy, of r entries each
pub record MayParts (positions : List ℕ) (size r : ℕ) (tables : List ℕ) : Type 0 where
  pub long : 0 < length tables → length tables ≡ 2 * table_length size + 2 * table_length r
  pub blocks : MayHalves positions size (part_of tables 0 (2 * table_length size))
  pub ends : MayHalves (part_of positions (2 * size) (2 * r)) r (part_of tables (2 * table_length size) (2 * table_length r))
