-- The site at a position of a word.
--   row_at-before, row_at_odd, row_at-self, row_at-parity             of a row word
--   column-at_odd, column-at-even, column-at-self, column-at-parity   of a column word
-- Assumes nothing.
use mathlib.Core.Path.{◌≡◌}
use Prim.Native.Nat.{ℕ, ◌+◌, ◌-◌, ◌*◌, ◌≤◌, ◌<◌}
use lib.ListN.{get_or}
use Rattle.staircase.specs.Design.{Params, Interleavers, word_length}
use Rattle.staircase.specs.Word.{row_info, row_word, column_info, column_word}
use Rattle.staircase.specs.Frame.{Site, block_at, y_at, p_at, row_sites, column_sites}
use Rattle.staircase.specs.Frame.Site.{unsent}
use Rattle.staircase.proofs.Stretches.{first-stretch, second-stretch, third-stretch, fourth_stretch}

module _ (s : Params) (l : Interleavers) (L i a : ℕ) where
  abbrev row_of : ℕ → ℕ → Site
  row_of b j = block_at s L b (a * s.M + j)

  abbrev row_x : ℕ → Site
  row_x b = y_at s i (get_or l.self (b * s.M + a) 0)

  abbrev row_q : ℕ → Site
  row_q b = p_at s i (get_or l.parity (b * s.M + a) 0)

  pub row_at-before : (p : ℕ) → p < s.M → get_or (row_sites s l L i a) p unsent ≡ block_at s L (2 * i) (a * s.M + p)
  unfolding row_sites row_word row_info
  row_at-before = first-stretch s.M s.r (row_of (2 * i)) (row_of (2 * i + 1)) row_x row_q unsent

  pub row_at_odd : (p : ℕ) → s.M ≤ p → p < 2 * s.M → get_or (row_sites s l L i a) p unsent ≡ block_at s L (2 * i + 1) (a * s.M + (p - s.M))
  unfolding row_sites row_word row_info
  row_at_odd = second-stretch s.M s.r (row_of (2 * i)) (row_of (2 * i + 1)) row_x row_q unsent

  pub row_at-self : (p : ℕ) → 2 * s.M ≤ p → p < 2 * s.M + s.r
      → get_or (row_sites s l L i a) p unsent ≡ y_at s i (get_or l.self ((p - 2 * s.M) * s.M + a) 0)
  unfolding row_sites row_word row_info
  row_at-self = third-stretch s.M s.r (row_of (2 * i)) (row_of (2 * i + 1)) row_x row_q unsent

  pub row_at-parity : (p : ℕ) → 2 * s.M + s.r ≤ p → p < word_length s
      → get_or (row_sites s l L i a) p unsent ≡ p_at s i (get_or l.parity ((p - (2 * s.M + s.r)) * s.M + a) 0)
  unfolding row_sites row_word row_info
  row_at-parity = fourth_stretch s.M s.r (row_of (2 * i)) (row_of (2 * i + 1)) row_x row_q unsent

module _ (s : Params) (L i a : ℕ) where
  abbrev column_of : ℕ → ℕ → Site
  column_of b j = block_at s L b (j * s.M + a)

  abbrev column_y : ℕ → Site
  column_y b = y_at s i (b * s.M + a)

  abbrev column_p : ℕ → Site
  column_p b = p_at s i (b * s.M + a)

  pub column-at_odd : (p : ℕ) → p < s.M → get_or (column_sites s L i a) p unsent ≡ block_at s L (2 * i + 1) (p * s.M + a)
  unfolding column_sites column_word column_info
  column-at_odd = first-stretch s.M s.r (column_of (2 * i + 1)) (column_of (2 * i + 2)) column_y column_p unsent

  pub column-at-even : (p : ℕ) → s.M ≤ p → p < 2 * s.M → get_or (column_sites s L i a) p unsent ≡ block_at s L (2 * i + 2) ((p - s.M) * s.M + a)
  unfolding column_sites column_word column_info
  column-at-even = second-stretch s.M s.r (column_of (2 * i + 1)) (column_of (2 * i + 2)) column_y column_p unsent

  pub column-at-self : (p : ℕ) → 2 * s.M ≤ p → p < 2 * s.M + s.r → get_or (column_sites s L i a) p unsent ≡ y_at s i ((p - 2 * s.M) * s.M + a)
  unfolding column_sites column_word column_info
  column-at-self = third-stretch s.M s.r (column_of (2 * i + 1)) (column_of (2 * i + 2)) column_y column_p unsent

  pub column-at-parity : (p : ℕ) → 2 * s.M + s.r ≤ p → p < word_length s
      → get_or (column_sites s L i a) p unsent ≡ p_at s i ((p - (2 * s.M + s.r)) * s.M + a)
  unfolding column_sites column_word column_info
  column-at-parity = fourth_stretch s.M s.r (column_of (2 * i + 1)) (column_of (2 * i + 2)) column_y column_p unsent
