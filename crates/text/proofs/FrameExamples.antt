-- Document 01's worked texts: written and read under kit K, where M is 1 and r is 4; texts that rule 12 refuses; a refusal's lines and the counts.
--   blocks-written, groups-written    the block text of the four blocks' bits, the group text of the two groups'
--   blocks_shown, frame_shown         they are read with these bits
--   header-alone .. frame-cut         texts that are refused, with their places
--   large-at, mended-counts           "refused 3 at 4,100", "result 2, 1, 0"
-- Assumes nothing.
use mathlib.Core.Path.{◌≡◌, refl}
use mathlib.Core.List.{[], ◌∷◌, ◌++◌}
use Rattle.text_formats.specs.Format.{digits_of, dec, item}
use Rattle.text_formats.specs.Items.{lines_from, bits_line}
use Rattle.staircase.specs.Rules.Verdict.{accepted, refused}
use Rattle.text.specs.Rules.{scan_rule, mark, values_of}
use Rattle.text.specs.FrameText.{block_names, block_tail, block_format, group_line, group_tail, frame_tail, frame_format, block_text, group_text}
use Rattle.text.specs.FrameReader.{block_scan, block_rule, block_count, block_info, frame_scan, frame_rule, frame_count, frame_info, frame_red}
use Rattle.text.specs.Programs.{refusal_text, counts_text}
use Rattle.text.specs.TextsK.{four_blocks, four_bits, two_groups, two_bits}

-- ---- written

pub blocks-written : block_text 1 4 four_bits ≡ four_blocks
unfolding dec digits_of lines_from bits_line block_text
blocks-written = refl

pub groups-written : group_text 4 2 two_bits ≡ two_groups
unfolding dec digits_of lines_from group_line group_text
groups-written = refl

-- "refused 3 at 4,100"
pub large-at : refusal_text 3 4100
    ≡ 114 ∷ 101 ∷ 102 ∷ 117 ∷ 115 ∷ 101 ∷ 100 ∷ 32 ∷ 112 ∷ 108 ∷ 97 ∷ 99 ∷ 101 ∷ 10 ∷ 51 ∷ 32 ∷ 52 ∷ 49 ∷ 48 ∷ 48 ∷ 10 ∷ []
unfolding dec digits_of refusal_text
large-at = refl

-- "result 2, 1, 0"
pub mended-counts : counts_text 2 1 0
    ≡ 114 ∷ 111 ∷ 117 ∷ 110 ∷ 100 ∷ 115 ∷ 32 ∷ 116 ∷ 117 ∷ 114 ∷ 110 ∷ 101 ∷ 100 ∷ 32 ∷ 111 ∷ 117 ∷ 116 ∷ 115 ∷ 105 ∷ 100 ∷ 101 ∷ 10
    ∷ 50 ∷ 32 ∷ 49 ∷ 32 ∷ 48 ∷ 10 ∷ []
unfolding dec digits_of counts_text
mended-counts = refl

-- ---- read

pub blocks_shown : (block_rule 1 four_blocks ≡ accepted) × (block_count 1 four_blocks ≡ 4) × (block_info 1 four_blocks ≡ four_bits)
unfolding block_rule block_count block_info block_scan scan_rule mark values_of block_format block_tail bits_line dec digits_of item
blocks_shown = (refl, refl, refl)

pub frame_shown : (frame_rule 1 4 (four_blocks ++ two_groups) ≡ accepted) × (frame_count 1 4 (four_blocks ++ two_groups) ≡ 4)
    × (frame_info 1 4 (four_blocks ++ two_groups) ≡ four_bits) × (frame_red 1 4 (four_blocks ++ two_groups) ≡ two_bits)
unfolding frame_rule frame_count frame_info frame_red frame_scan scan_rule mark values_of frame_format frame_tail group_tail lines_from group_line bits_line dec digits_of item
frame_shown = (refl, refl, refl, refl)

-- The header alone: the line of block 1 is due.
pub header_alone : block_rule 1 block_names ≡ refused 12 11
unfolding block_rule block_count block_info block_scan scan_rule mark values_of block_format block_tail bits_line dec digits_of item
header_alone = refl

-- A byte behind the last line: no line of block 5 starts with it.
pub byte-behind : block_rule 1 (four_blocks ++ (32 ∷ [])) ≡ refused 12 27
unfolding block_rule block_count block_info block_scan scan_rule mark values_of block_format block_tail bits_line dec digits_of item
byte-behind = refl

-- Block text alone is no frame text: `g` or the line of block 5 is due at its end.
pub frame-cut : frame_rule 1 4 four_blocks ≡ refused 12 27
unfolding frame_rule frame_count frame_info frame_red frame_scan scan_rule mark values_of frame_format frame_tail group_tail lines_from group_line bits_line dec digits_of item
frame-cut = refl
