-- The version of the library, and the names of the rules as bytes.
--   version     that of include/bauchleton.h: 100 times the first number and the second
--   rule_names   the names, from 0 on
--   rule_name    that of a number; none for a number that no rule has
-- Assumes nothing.
use Rattle.std.specs.Prelude.{List, [], ◌∷◌, ℕ, get_or}

abbrev pub version : ℕ
version = 402

-- the names of the table, in ASCII: "1 size", "2 long" to "13 input", and "14 singular" to "19 thin"; 0 is no refusal
abbrev pub rule_names : List (List ℕ)
rule_names =
    (97 ∷ 99 ∷ 99 ∷ 101 ∷ 112 ∷ 116 ∷ 101 ∷ 100 ∷ [])  -- 0 accepted
    ∷ (115 ∷ 105 ∷ 122 ∷ 101 ∷ [])  -- 1 size
    ∷ (108 ∷ 111 ∷ 110 ∷ 103 ∷ [])  -- 2 long
    ∷ (108 ∷ 97 ∷ 114 ∷ 103 ∷ 101 ∷ [])  -- 3 large
    ∷ (99 ∷ 111 ∷ 117 ∷ 110 ∷ 116 ∷ [])  -- 4 count
    ∷ (114 ∷ 111 ∷ 117 ∷ 110 ∷ 100 ∷ 115 ∷ [])  -- 5 rounds
    ∷ (108 ∷ 101 ∷ 110 ∷ 103 ∷ 116 ∷ 104 ∷ [])  -- 6 length
    ∷ (108 ∷ 105 ∷ 115 ∷ 116 ∷ [])  -- 7 list
    ∷ (115 ∷ 112 ∷ 97 ∷ 114 ∷ 101 ∷ [])  -- 8 spare
    ∷ (105 ∷ 110 ∷ 118 ∷ 101 ∷ 114 ∷ 115 ∷ 101 ∷ [])  -- 9 inverse
    ∷ (98 ∷ 105 ∷ 116 ∷ [])  -- 10 bit
    ∷ (107 ∷ 105 ∷ 116 ∷ 32 ∷ 116 ∷ 101 ∷ 120 ∷ 116 ∷ [])  -- 11 kit text
    ∷ (98 ∷ 108 ∷ 111 ∷ 99 ∷ 107 ∷ 32 ∷ 116 ∷ 101 ∷ 120 ∷ 116 ∷ [])  -- 12 block text
    ∷ (105 ∷ 110 ∷ 112 ∷ 117 ∷ 116 ∷ [])  -- 13 input
    ∷ (115 ∷ 105 ∷ 110 ∷ 103 ∷ 117 ∷ 108 ∷ 97 ∷ 114 ∷ [])  -- 14 singular
    ∷ (110 ∷ 97 ∷ 114 ∷ 114 ∷ 111 ∷ 119 ∷ [])  -- 15 narrow
    ∷ (102 ∷ 117 ∷ 108 ∷ 108 ∷ [])  -- 16 full
    ∷ (98 ∷ 97 ∷ 116 ∷ 99 ∷ 104 ∷ [])  -- 17 batch
    ∷ (119 ∷ 105 ∷ 110 ∷ 100 ∷ 111 ∷ 119 ∷ [])  -- 18 window
    ∷ (116 ∷ 104 ∷ 105 ∷ 110 ∷ [])  -- 19 thin
    ∷ []

unfoldable pub rule_name : ℕ → List ℕ
rule_name rule = get_or rule_names rule []
