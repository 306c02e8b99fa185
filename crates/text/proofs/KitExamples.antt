-- Kit texts that the scan takes and refuses, computed.
--   kit_k-accepted, kit_k-numbers       kit K is accepted, with m = 4, t = 1, M = 1
--   kit_k-self .. kit_k-inverse         and shows the lists and the inverse of the rows under K
--   kit_k-cut .. zero-first            texts that are refused, with their places
--   lists_k-accepted .. lists_k-parity  K's list text is accepted, and shows its lists
--   lists_k-cut, lists_k-whole          list texts that are refused: one cut short, and K's whole kit text
-- Assumes nothing.
use mathlib.Core.Path.{◌≡◌, refl}
use mathlib.Core.List.{[], ◌∷◌, ◌++◌}
use lib.ListN.{take}
use Rattle.text_formats.specs.Format.{digits_of, dec, item, num_len, more, is_digit}
use Rattle.text_formats.specs.Items.{walk, scan_at, lines_from, bits_line}
use Rattle.text.specs.Rules.{walk_rule, scan_rule, passed, values_of}
use Rattle.staircase.specs.Rules.{size_rule, long_rule, large_rule, design_rules}
use Rattle.staircase.specs.Rules.Verdict.{accepted, refused}
use Rattle.staircase.specs.RowsK.{self_k, parity_k, inverse_k}
use Rattle.text.specs.KitText.{names, pair_line, kit_body}
use Rattle.text.specs.TextsK.{text_k, lists_k}
use Rattle.text.specs.KitReader.{firsts, seconds, packs, binary, pack, pack_rows, head_number, head_rule, body_scan, body_rule, scan_kit, self_of, parity_of, inverse_of}
use Rattle.text.specs.MakeKit.{lists_items, lists_scan, lists_rule, scan_lists, self_shown, parity_shown}

pub kit_k-accepted : scan_kit text_k ≡ accepted
unfolding scan_kit head_rule walk_rule head_number body_rule body_scan scan_rule scan_at walk passed kit_body lines_from pair_line bits_line dec digits_of item num_len more is_digit design_rules size_rule long_rule large_rule
kit_k-accepted = refl

pub kit_k-numbers : (head_number text_k 0 ≡ 4) × (head_number text_k 1 ≡ 1) × (head_number text_k 2 ≡ 1)
unfolding head_number walk item num_len more is_digit
kit_k-numbers = (refl, refl, refl)

pub kit_k-self : self_of text_k ≡ self_k
unfolding self_of packs firsts values_of head_number body_scan scan_at walk passed kit_body lines_from pair_line bits_line dec digits_of item num_len more is_digit
kit_k-self = refl

pub kit_k-parity : parity_of text_k ≡ parity_k
unfolding parity_of packs seconds values_of head_number body_scan scan_at walk passed kit_body lines_from pair_line bits_line dec digits_of item num_len more is_digit
kit_k-parity = refl

pub kit_k-inverse : inverse_of text_k ≡ inverse_k
unfolding inverse_of pack_rows pack binary values_of head_number body_scan scan_at walk passed kit_body lines_from pair_line bits_line dec digits_of item num_len more is_digit
kit_k-inverse = refl

-- the last line feed is missing; a byte too many
pub kit_k-cut : scan_kit (take 93 text_k) ≡ refused 11 93
unfolding scan_kit head_rule walk_rule head_number body_rule body_scan scan_rule scan_at walk passed kit_body lines_from pair_line bits_line dec digits_of item num_len more is_digit design_rules size_rule long_rule large_rule
kit_k-cut = refl

pub kit_k-more : scan_kit (text_k ++ (10 ∷ [])) ≡ refused 11 94
unfolding scan_kit head_rule walk_rule head_number body_rule body_scan scan_rule scan_at walk passed kit_body lines_from pair_line bits_line dec digits_of item num_len more is_digit design_rules size_rule long_rule large_rule
kit_k-more = refl

-- `4 1 4`: n is 16, and nothing follows the two lines
pub design-first : scan_kit (names ++ (52 ∷ 32 ∷ 49 ∷ 32 ∷ 52 ∷ 10 ∷ [])) ≡ refused 2 16
unfolding scan_kit head_rule walk_rule head_number body_rule body_scan scan_rule scan_at walk passed kit_body lines_from pair_line bits_line dec digits_of item num_len more is_digit design_rules size_rule long_rule large_rule
design-first = refl

-- a leading zero in the second line is refused before the design is
pub zero-first : scan_kit (names ++ (48 ∷ 52 ∷ 32 ∷ 49 ∷ 32 ∷ 49 ∷ 10 ∷ [])) ≡ refused 11 7
unfolding scan_kit head_rule walk_rule head_number body_rule body_scan scan_rule scan_at walk passed kit_body lines_from pair_line bits_line dec digits_of item num_len more is_digit design_rules size_rule long_rule large_rule
zero-first = refl

-- ---- list texts

pub lists_k-accepted : scan_lists lists_k ≡ accepted
unfolding scan_lists head_rule walk_rule head_number lists_rule lists_scan scan_rule scan_at walk passed lists_items lines_from pair_line dec digits_of item num_len more is_digit design_rules size_rule long_rule large_rule
lists_k-accepted = refl

pub lists_k-numbers : (head_number lists_k 0 ≡ 4) × (head_number lists_k 1 ≡ 1) × (head_number lists_k 2 ≡ 1)
unfolding head_number walk item num_len more is_digit
lists_k-numbers = (refl, refl, refl)

pub lists_k-self : self_shown lists_k ≡ self_k
unfolding self_shown packs firsts values_of head_number lists_scan scan_at walk passed lists_items lines_from pair_line dec digits_of item num_len more is_digit
lists_k-self = refl

pub lists_k-parity : parity_shown lists_k ≡ parity_k
unfolding parity_shown packs seconds values_of head_number lists_scan scan_at walk passed lists_items lines_from pair_line dec digits_of item num_len more is_digit
lists_k-parity = refl

-- the last line feed is missing; K's kit text, which goes on after the lists
pub lists_k-cut : scan_lists (take 53 lists_k) ≡ refused 11 53
unfolding scan_lists head_rule walk_rule head_number lists_rule lists_scan scan_rule scan_at walk passed lists_items lines_from pair_line dec digits_of item num_len more is_digit design_rules size_rule long_rule large_rule
lists_k-cut = refl

pub lists_k-whole : scan_lists text_k ≡ refused 11 54
unfolding scan_lists head_rule walk_rule head_number lists_rule lists_scan scan_rule scan_at walk passed lists_items lines_from pair_line dec digits_of item num_len more is_digit design_rules size_rule long_rule large_rule
lists_k-whole = refl
