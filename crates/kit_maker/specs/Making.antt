-- What the maker's steps have at hand, and what they leave.
--   MakeSized         an allowed design, and slices of their lengths: what rules 1 to 6 leave
--   SystemFits        what A is made from: lists that are permutations, which rule 7 leaves, and working bytes
--   RowsFit           what its rows are made from
--   sent_row           an entry of a row, for the place that it is sent from
--   new_inverse        the packed inverse of A
--   right_byte m n k   byte k of the right halves of the first n rows of m, row after row
-- Assumes nothing.
use Rattle.std.specs.Prelude.{◌≡◌, List, ℕ, ◌+◌, ◌*◌, ◌/◌, ◌%◌, ◌≤◌, ◌<◌, length, get_or}
use Rattle.staircase.specs.Design.{Params, Interleavers, order, most-order}
use Rattle.staircase.specs.System.{system_entry, row_bytes}
use Rattle.staircase.specs.Square.{inverse_matrix, packed_matrix}
use Rattle.staircase.specs.Rules.{entries}
use Rattle.staircase.specs.Demand2.{Permutes}
use Rattle.staircase.specs.Maker.{make_work}
use Rattle.design.specs.declared.Design.{Design}
use Rattle.design.specs.Answers.{Allowed}
use Rattle.design.specs.Sizes.{params_of, order_of, lists_of}
use Rattle.matrix_elimination.specs.Steps.{row_width}
use Rattle.kit_system.specs.Rows.{unstack_of, row_entry}

pub record MakeSized (d : Design) (own parity inverse work : List ℕ) : Type 0 where
  pub allowed : Allowed d
  pub own_length : length own ≡ 2 * order_of d
  pub parity_length : length parity ≡ 2 * order_of d
  pub inverse_length : length inverse ≡ order_of d * row_bytes (order_of d)
  pub work_length : length work ≡ make_work (params_of d)

pub record SystemFits (d : Design) (own parity work : List ℕ) : Type 0 where
  pub allowed : Allowed d
  pub own_length : length own ≡ 2 * order_of d
  pub parity_length : length parity ≡ 2 * order_of d
  pub work_length : length work ≡ make_work (params_of d)
  pub own_permutes : Permutes (order_of d) (λ p. get_or (lists_of d own parity).self p 0)
  pub parity_permutes : Permutes (order_of d) (λ p. get_or (lists_of d own parity).parity p 0)

-- n is the order M × r, `columns` and `part` the r powers of x that the bits of Y carry in column words and those of X in row words, `preimages` the inverse of the parity list
pub record RowsFit (n size : ℕ) (own columns part preimages m : List ℕ) : Type 0 where
  pub order : n ≡ size * length part
  pub small : n ≤ most-order
  pub r_small : length part ≤ 32
  pub both : length columns ≡ length part
  pub own_length : length own ≡ 2 * n
  pub own_below : (q : ℕ) → q < n → get_or (entries n own) q 0 < n
  pub places_length : length preimages ≡ n
  pub places_below : (q : ℕ) → q < n → get_or preimages q 0 < n
  pub matrix_length : length m ≡ (n + 256) * row_width n

-- entry k of row e of A, for the entries of the self list and the places of the parity list's inverse
unfoldable pub sent_row : List ℕ → List ℕ → List ℕ → ℕ → List ℕ → ℕ → ℕ → ℕ
sent_row columns part own size preimages e k = row_entry columns part own size (get_or preimages (unstack_of size (length part) e) 0) e k

abbrev pub new_inverse : Params → Interleavers → List ℕ
new_inverse s l = packed_matrix (order s) (inverse_matrix (order s) (system_entry s l))

abbrev pub right_byte : List ℕ → ℕ → ℕ → ℕ
right_byte m n k = get_or m (k / row_bytes n * row_width n + (row_bytes n + k % row_bytes n)) 0
