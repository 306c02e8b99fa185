-- What each call on texts answers and leaves for a host in C.
--   kit_answer              of a kit's reader: its place, m, t and M
--   blocks_answer           of a reader of blocks or of a frame: its place and the number of blocks
--   length_answer           of a text's length: its place and the length
--   scan_blocks_for, read_blocks_for   the readers of block text for any m, t and M: rules 1 to 3 come first
--   scan_frame_for, read_frame_for     those of frame text
-- Assumes nothing.
use Rattle.std.specs.Prelude.{List, [], ◌∷◌, ℕ, ◌*◌}
use Rattle.staircase.specs.Rules.{Verdict, ◌then◌, design_rules}
use Rattle.staircase.specs.Rules.Verdict.{accepted, refused}
use Rattle.text.specs.Rules.{kept}
use Rattle.text.specs.KitReader.{head_number}
use Rattle.text.specs.KitWriter.{Measured}
use Rattle.rules_verdict.specs.Number.{place_of}
use Rattle.text.specs.FrameReader.{block_rule, block_info, BlocksRead, read_blocks_call, frame_rule, frame_info, frame_red, FrameRead, read_frame_call}

-- "m t M" of an accepted kit text; 0 where it is refused
unfoldable pub kit_answer : Verdict → List ℕ → List ℕ
kit_answer accepted s = 0 ∷ head_number s 0 ∷ head_number s 1 ∷ head_number s 2 ∷ []
kit_answer (refused n p) s = p ∷ 0 ∷ 0 ∷ 0 ∷ []

-- the number of blocks, L, of an accepted text; 0 where it is refused
unfoldable pub blocks_answer : Verdict → ℕ → List ℕ
blocks_answer accepted L = 0 ∷ L ∷ []
blocks_answer (refused n p) L = p ∷ 0 ∷ []

-- the length of a kit's text; 0 where the call is refused
abbrev pub length_answer : Measured → List ℕ
length_answer c = place_of c.verdict ∷ c.length ∷ []

-- rules 1 to 3, then 12
unfoldable pub scan_blocks_for : ℕ → ℕ → ℕ → List ℕ → Verdict
scan_blocks_for m t M s = design_rules m t M 0 then block_rule M s

-- rules 1 to 3, then 12, then 6; a refused call leaves what it was lent
unfoldable pub read_blocks_for : ℕ → ℕ → ℕ → List ℕ → List ℕ → BlocksRead
read_blocks_for m t M s info =
    let v : Verdict = design_rules m t M 0 then (read_blocks_call M s info).verdict in
    record { verdict = v; info = kept v (block_info M s) info }

-- the same for frame text, where "12 covers both texts"
unfoldable pub scan_frame_for : ℕ → ℕ → ℕ → List ℕ → Verdict
scan_frame_for m t M s = design_rules m t M 0 then frame_rule M (m * t) s

-- and with rule 6 for both buffers
unfoldable pub read_frame_for : ℕ → ℕ → ℕ → List ℕ → List ℕ → List ℕ → FrameRead
read_frame_for m t M s info red =
    let v : Verdict = design_rules m t M 0 then (read_frame_call M (m * t) s info red).verdict in
    record { verdict = v; info = kept v (frame_info M (m * t) s) info; red = kept v (frame_red M (m * t) s) red }
