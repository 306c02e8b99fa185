-- Document 01's worked texts under kit K, byte by byte.
--   text_k, lists_k          kit K, whole, and its list text
--   four_blocks, four_bits   the four blocks under "Programs", and their bits
--   two_groups, two_bits     the two groups that `frame` turns them into, and their bits
-- Assumes nothing.
use Rattle.std.specs.Prelude.{List, [], ◌∷◌, ◌++◌, ℕ}
use Rattle.text.specs.KitText.{names, list_names, row_names}
use Rattle.text.specs.FrameText.{block_names, group_names}

-- `4 1 1`; the lists 1 0 2 3 and 3 0 1 2
abbrev pub lists_k : List ℕ
lists_k =
    names
    ++ (52 ∷ 32 ∷ 49 ∷ 32 ∷ 49 ∷ 10 ∷ [])
    ++ list_names
    ++ (48 ∷ 32 ∷ 49 ∷ 32 ∷ 51 ∷ 10 ∷ 49 ∷ 32 ∷ 48 ∷ 32 ∷ 48 ∷ 10 ∷ 50 ∷ 32 ∷ 50 ∷ 32 ∷ 49 ∷ 10 ∷ 51 ∷ 32 ∷ 51 ∷ 32 ∷ 50 ∷ 10 ∷ [])

-- `4 1 1`; the lists 1 0 2 3 and 3 0 1 2; the rows 1010, 0101, 1101, 0100
abbrev pub text_k : List ℕ
text_k =
    names
    ++ (52 ∷ 32 ∷ 49 ∷ 32 ∷ 49 ∷ 10 ∷ [])
    ++ list_names
    ++ (48 ∷ 32 ∷ 49 ∷ 32 ∷ 51 ∷ 10 ∷ 49 ∷ 32 ∷ 48 ∷ 32 ∷ 48 ∷ 10 ∷ 50 ∷ 32 ∷ 50 ∷ 32 ∷ 49 ∷ 10 ∷ 51 ∷ 32 ∷ 51 ∷ 32 ∷ 50 ∷ 10 ∷ [])
    ++ row_names
    ++ (48 ∷ 32 ∷ 49 ∷ 48 ∷ 49 ∷ 48 ∷ 10 ∷ 49 ∷ 32 ∷ 48 ∷ 49 ∷ 48 ∷ 49 ∷ 10 ∷ 50 ∷ 32 ∷ 49 ∷ 49 ∷ 48 ∷ 49 ∷ 10 ∷ 51 ∷ 32 ∷ 48 ∷ 49 ∷ 48 ∷ 48 ∷ 10 ∷ [])

-- `1 0`, `2 1`, `3 0`, `4 0`
abbrev pub four_blocks : List ℕ
four_blocks = block_names ++ (49 ∷ 32 ∷ 48 ∷ 10 ∷ 50 ∷ 32 ∷ 49 ∷ 10 ∷ 51 ∷ 32 ∷ 48 ∷ 10 ∷ 52 ∷ 32 ∷ 48 ∷ 10 ∷ [])

abbrev pub four_bits : List ℕ
four_bits = 0 ∷ 1 ∷ 0 ∷ 0 ∷ []

-- `1 0001 0110`, `2 0001 0011`
abbrev pub two_groups : List ℕ
two_groups =
    group_names
    ++ (49 ∷ 32 ∷ 48 ∷ 48 ∷ 48 ∷ 49 ∷ 32 ∷ 48 ∷ 49 ∷ 49 ∷ 48 ∷ 10 ∷ 50 ∷ 32 ∷ 48 ∷ 48 ∷ 48 ∷ 49 ∷ 32 ∷ 48 ∷ 48 ∷ 49 ∷ 49 ∷ 10 ∷ [])

abbrev pub two_bits : List ℕ
two_bits = 0 ∷ 0 ∷ 0 ∷ 1 ∷ 0 ∷ 1 ∷ 1 ∷ 0 ∷ 0 ∷ 0 ∷ 0 ∷ 1 ∷ 0 ∷ 0 ∷ 1 ∷ 1 ∷ []
