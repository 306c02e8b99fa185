-- What the readers of block text and of frame text answer and leave, for every text and every lent slice. They are lent a design, whose M and r
-- say how many bits a line has.
--   block_scan, block_rule      rule 12 for block text
--   frame_scan, frame_rule      "For `mend`, 12 covers both texts."
--   block_count, block_info     the number of blocks and the information that a block text shows
--   frame_count, frame_info, frame_red   those of a frame text, and its redundancy
--   read_blocks_call, read_frame_call     the readers: rule 12, then rule 6 for the lent slices, whose lengths the number of blocks decides
-- Assumes nothing.
use Rattle.std.specs.Prelude.{List, ℕ, ◌*◌, length, take, drop}
use Rattle.text_formats.specs.Format.{Scan, scan}
use Rattle.staircase.specs.Design.{most-blocks}
use Rattle.staircase.specs.Frame.{groups}
use Rattle.staircase.specs.Rules.{Verdict, ◌then◌, length_rule}
use Rattle.text.specs.Rules.{scan_rule, mark, values_of, kept}
use Rattle.text.specs.FrameText.{block_format, frame_format}

-- ---- block text

unfoldable pub block_scan : ℕ → List ℕ → Scan
block_scan M s = scan (block_format (M * M) most-blocks) s

-- "12 block text: the same for block text"
unfoldable pub block_rule : ℕ → List ℕ → Verdict
block_rule M s = scan_rule 12 (block_scan M s)

unfoldable pub block_count : ℕ → List ℕ → ℕ
block_count M s = mark (block_scan M s)

unfoldable pub block_info : ℕ → List ℕ → List ℕ
block_info M s = values_of (block_scan M s)

pub record BlocksRead : Type 0 where
  pub verdict : Verdict
  pub info : List ℕ

unfoldable pub read_blocks_call : ℕ → List ℕ → List ℕ → BlocksRead
read_blocks_call M s info =
    let v : Verdict = block_rule M s then length_rule 4 (length info) (block_count M s * (M * M)) in
    record { verdict = v; info = kept v (block_info M s) info }

-- ---- frame text

unfoldable pub frame_scan : ℕ → ℕ → List ℕ → Scan
frame_scan M r s = scan (frame_format (M * M) (M * r) most-blocks) s

unfoldable pub frame_rule : ℕ → ℕ → List ℕ → Verdict
frame_rule M r s = scan_rule 12 (frame_scan M r s)

unfoldable pub frame_count : ℕ → ℕ → List ℕ → ℕ
frame_count M r s = mark (frame_scan M r s)

-- the bits of the blocks, and after them those of the groups
unfoldable pub frame_info : ℕ → ℕ → List ℕ → List ℕ
frame_info M r s = take (frame_count M r s * (M * M)) (values_of (frame_scan M r s))

unfoldable pub frame_red : ℕ → ℕ → List ℕ → List ℕ
frame_red M r s = drop (frame_count M r s * (M * M)) (values_of (frame_scan M r s))

pub record FrameRead : Type 0 where
  pub verdict : Verdict
  pub info : List ℕ
  pub red : List ℕ

unfoldable pub read_frame_call : ℕ → ℕ → List ℕ → List ℕ → List ℕ → FrameRead
read_frame_call M r s info red =
    let L : ℕ = frame_count M r s in
    let v : Verdict = frame_rule M r s then length_rule 4 (length info) (L * (M * M)) then length_rule 5 (length red) (groups L * (2 * (M * r))) in
    record { verdict = v; info = kept v (frame_info M r s) info; red = kept v (frame_red M r s) red }
